-- The numbers after the return: block i names the place to which the block at i goes.
-- Assumes nothing.
use mathlib.Core.Path.{◌≡◌, refl, sym, ap, ◌∙◌}
use mathlib.Core.List.{List, [], ◌++◌}
use Prim.Native.Nat.{ℕ, ◌+◌, ◌*◌, ◌/◌, ◌%◌, ◌≤◌, ◌<◌}
use native.Mathlib.Omega.{arith}
use lib.ListN.{length, get_or, take, drop, length-append, length-drop, get_or-append}
use lib.Seq.{get_or-take, get_or-drop, length-take-le}
use Rattle.std.specs.Prelude.{Result, Ok, Err, IsOk}
use Rattle.answers.specs.declared.Refusal.{Refusal}
use Rattle.answers.specs.Answers.{answer_from}
use Rattle.answers.proofs.Results.{number_above}
use Rattle.answers.specs.Outcomes.{Logged, logged}
use Rattle.bits.specs.Bits.{Bits}
use Rattle.counts.specs.Counts.{W}
use Rattle.network.specs.Blocks.{cut, moved_back, order_of}
use Rattle.network.specs.Log.{entry_words}
use Rattle.network.proofs.Blocks.{length_cut, get_d_cut}
use Rattle.network.proofs.Moved.{cut-moved_back, length-moved_back}
use Rattle.network.proofs.Order.{length-order, order_below, order-backward}
use Rattle.permutation.specs.Permutations.{tabulate}
use Rattle.permutation.proofs.Tables.{is_tabulate}
use Rattle.wirings.specs.declared.Topology.{Topology}
use Rattle.wirings.specs.Nets.{wiring_of}
use Rattle.wirings.proofs.Halves.{lawful}
use Rattle.apply.specs.Calls.{inverse_call_in}
use Rattle.apply_questions.proofs.Asked.{Fits}
use Rattle.apply.proofs.Outcome.{inverse_accepted}
use Rattle.setting_order.specs.Inner.{number_in, Numbered}

-- the first n blocks of more
first_numbered : (n : ℕ) (blocks : List ℕ) → Numbered n blocks → Numbered n (take (n * 2) blocks)
first_numbered n blocks N =
    record {
      low = λ i h. get_or-take (n * 2) blocks (2 * i) 0 (omega arith) ∙ N.low i h;
      high = λ i h. get_or-take (n * 2) blocks (2 * i + 1) 0 (omega arith) ∙ N.high i h;
    }

module _ (t : Topology) (n : ℕ) (bits blocks : List ℕ) (long : length blocks ≡ n * 2) (N : Numbered n blocks) where
  abbrev after : List ℕ
  after = moved_back (wiring_of t) n 2 bits blocks

  -- byte t of block i comes from the block that the order names
  module _ (i : ℕ) (h : i < n) where
    abbrev place : ℕ
    place = get_or (order_of (wiring_of t) n bits) i 0

    below : place < n
    below = order_below (lawful t) n bits i h

    block : take 2 (drop (i * 2) after) ≡ take 2 (drop (place * 2) blocks)
    block =
        sym (get_d_cut 2 n after i h)
        ∙ ap (λ bs. get_or bs i []) (cut-moved_back (lawful t) n 2 bits blocks long)
        ∙ order-backward (lawful t) n bits [] (cut 2 n blocks) (length_cut 2 n blocks) i h
        ∙ get_d_cut 2 n blocks place below

    byte : (t : ℕ) → t < 2 → get_or after (i * 2 + t) 0 ≡ get_or blocks (place * 2 + t) 0
    byte t l =
        sym (get_or-take 2 (drop (i * 2) after) t 0 l ∙ get_or-drop (i * 2) after t 0)
        ∙ ap (λ xs. get_or xs t 0) block
        ∙ get_or-take 2 (drop (place * 2) blocks) t 0 l
        ∙ get_or-drop (place * 2) blocks t 0

    names : number_in after i ≡ place
    names =
        let a : i * 2 + 0 ≡ 2 * i = omega arith in
        let b : i * 2 + 1 ≡ 2 * i + 1 = omega arith in
        let p : place * 2 + 0 ≡ 2 * place = omega arith in
        let q : place * 2 + 1 ≡ 2 * place + 1 = omega arith in
        let low : get_or after (2 * i) 0 ≡ place % 256 = rw (a, p) at (byte 0 (omega arith)) ∙ N.low place below in
        let high : get_or after (2 * i + 1) 0 ≡ place / 256 = rw (b, q) at (byte 1 (omega arith)) ∙ N.high place below in
        omega (arith, low, high)

  -- with whatever stands behind the blocks
  order_in_lem : (rest : List ℕ) → tabulate (number_in (after ++ rest)) n ≡ order_of (wiring_of t) n bits
  order_in_lem rest =
      sym
      (is_tabulate (number_in (after ++ rest)) n (order_of (wiring_of t) n bits) (length-order (lawful t) n bits)
      (λ i h. sym (names i h) ∙ sym (whole i h)))
    where
      room : (i : ℕ) → i < n → 2 * i + 1 < length after
      room i h = omega (arith, length-moved_back (lawful t) n 2 bits blocks long)

      whole : (i : ℕ) → i < n → number_in (after ++ rest) i ≡ number_in after i
      whole i h =
          let low = get_or-append after rest 0 (2 * i) (omega (arith, room i h)) in
          let high = get_or-append after rest 0 (2 * i + 1) (room i h) in
          omega (arith, low, high)

-- no question of the return gets a no
module _ (t : Topology) (n : ℕ) (bits blocks log : List ℕ) (few : n ≤ 1024) (small : W n ≤ 9217) (count : length bits ≡ W n) (are_bits : Bits bits)
    (long : length blocks ≡ n * 2) (room : length log ≡ entry_words * 9217) where
  fits : Fits n 2 (length blocks) bits (length log)
  fits = record { places = few; low = omega arith; high = omega arith; whole = long; count = count; words = omega arith; settings = are_bits }

  module _ (r : Result ℕ Refusal) {after log' : List ℕ} (e : logged (answer_from r) after log' ≡ inverse_call_in (wiring_of t) n 2 blocks bits log) where
    returned : after ≡ moved_back (wiring_of t) n 2 bits blocks
    returned = ap (λ (o : Logged). o.buffer) (e ∙ inverse_accepted (lawful t) n 2 blocks bits log fits)

    accepts : IsOk r
    accepts = go r (ap (λ (o : Logged). o.answer.number) (e ∙ inverse_accepted (lawful t) n 2 blocks bits log fits))
      where
        go : (r : Result ℕ Refusal) → (answer_from r).number ≡ 0 → IsOk r
        go (Ok x) z = refl
        go (Err x) z = absurd (omega (arith, number_above x.reason, z))

-- ---- the whole array, of which the blocks are the front

module _ (n : ℕ) (array : List ℕ) (few : n ≤ 1024) (room : length array ≡ 2048) where
  pub front_long : length (take (n * 2) array) ≡ n * 2
  front_long = length-take-le (n * 2) array (omega arith)

  pub array_kept : (front : List ℕ) → length front ≡ length (take (n * 2) array) → length (front ++ drop (n * 2) array) ≡ 2048
  array_kept front e = rw (length-append, length-drop) (omega (arith, front_long))

  module _ (t : Topology) (bits log : List ℕ) (r : Result ℕ Refusal) {front log' : List ℕ} (small : W n ≤ 9217) (count : length bits ≡ W n)
      (are_bits : Bits bits) (words : length log ≡ entry_words * 9217)
      (e : logged (answer_from r) front log' ≡ inverse_call_in (wiring_of t) n 2 (take (n * 2) array) bits log) where
    pub not_refused : IsOk r
    not_refused = accepts t n bits (take (n * 2) array) log few small count are_bits front_long words r e

    pub carried_in : Numbered n array → tabulate (number_in (front ++ drop (n * 2) array)) n ≡ order_of (wiring_of t) n bits
    carried_in N =
        let blocks = take (n * 2) array in
        ap (λ x. tabulate (number_in (x ++ drop (n * 2) array)) n) (returned t n bits blocks log few small count are_bits front_long words r e)
        ∙ order_in_lem t n bits blocks front_long (first_numbered n array N) (drop (n * 2) array)

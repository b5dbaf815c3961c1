-- The network's rule without the depth, the shape that every induction over networks goes by, and the lengths of all that
-- a network makes.
-- Assumes nothing.
use mathlib.Core.Bool.{Bool, true, false, cond}
use mathlib.Core.Path.{◌≡◌, refl, sym, ap, ◌∙◌}
use mathlib.Core.List.{List, [], ◌∷◌, ◌++◌}
use Prim.Native.Nat.{ℕ, zero, suc, ◌+◌, ◌-◌, ◌*◌, ◌≤◌, ◌<◌}
use native.Mathlib.Omega.{arith}
use native.Mathlib.Decide.{dec_lt}
use lib.Dec.{eqb}
use lib.ListN.{length, get_or, set, take, drop, length-append, length-set, length-reverse, get_or-append}
use borrow.Author.Tests.{lt-ltb, le-ltb}
use Rattle.counts.specs.Counts.{up, W}
use Rattle.counts.proofs.Rule.{W_none, W_more}
use Rattle.network.specs.Wiring.{Wiring, Side}
use Rattle.network.specs.Network.{Network, wires, split, network, network_in, switch_count, down}
use Rattle.network.specs.Move.{switch, layer, layer_back, part, joined, forward, backward}
use Rattle.network.specs.Log.{Entry, entry, entry_words, words, entries, none_such, entry_at, layer_entries, switches, apply_entries, inverse_entries}

-- a network of m places as the rule builds it
pub data Sized : ℕ → Network → Type 0 where
  none : {m : ℕ} → m < 2 → Sized m wires
  some : {m : ℕ} {top bottom : Network} → 2 ≤ m → Sized (up m) top → Sized (down m) bottom → Sized m (split m top bottom)

built : (d m : ℕ) → m ≤ d → Sized m (network_in d m)
unfolding network_in
built zero m h = none {m = m} (omega arith)
built (suc d) m h = go (dec_lt m 2) (built d (up m)) (built d (down m))
  where
    go :
        Dec (m < 2)
        → (up m ≤ d → Sized (up m) (network_in d (up m)))
        → (down m ≤ d → Sized (down m) (network_in d (down m)))
        → Sized m (network_in (suc d) m)
    go (yes l) top bottom = rw (lt-ltb m 2 l, network_in) (none l)
    go (no l) top bottom = rw (le-ltb m 2 (omega arith), network_in) (some {m = m} (omega arith) (top (omega arith)) (bottom (omega arith)))

pub sized : (n : ℕ) → Sized n (network n)
unfolding network
sized n = built n n (omega arith)

-- there is one network of each size
pub only : {m : ℕ} {a b : Network} → Sized m a → Sized m b → a ≡ b
only (none h) (none g) = refl
only (none h) (some g t u) = absurd (omega arith)
only (some h t u) (none g) = absurd (omega arith)
only {m} (some h t u) (some g s v) = λ i. split m (only t s i) (only u v i)

pub network_none : (n : ℕ) → n < 2 → network n ≡ wires
network_none n h = only (sized n) (none h)

pub network_more : (n : ℕ) → 2 ≤ n → network n ≡ split n (network (up n)) (network (down n))
network_more n h = only (sized n) (some h (sized (up n)) (sized (down n)))

pub count_of : {m : ℕ} {net : Network} → Sized m net → switch_count net ≡ W m
unfolding switch_count
count_of {m} (none h) = sym (W_none m h)
count_of {m} (some h t u) = rw (count_of t, count_of u, W_more m h) (omega arith)

pub count_is : (n : ℕ) → switch_count (network n) ≡ W n
count_is n = count_of (sized n)

module _ {A : Type 0} (d : A) where
  pub length-switch : (p q bit : ℕ) (xs : List A) → length (switch d p q bit xs) ≡ length xs
  unfolding switch
  length-switch p q bit xs = go (eqb bit 1)
    where
      go : (b : Bool) → length (cond b (set (set xs p (get_or xs q d)) q (get_or xs p d)) xs) ≡ length xs
      go true = simp length-set
      go false = refl

  module _ (w : Wiring) where
    pub length-layer : (k c : ℕ) (bits : List ℕ) (xs : List A) → length (layer d w k c bits xs) ≡ length xs
    unfolding layer
    length-layer k zero bits xs = refl
    length-layer k (suc i) bits xs = rw length-switch (length-layer k i bits xs)

    pub length-layer_back : (k c : ℕ) (bits : List ℕ) (xs : List A) → length (layer_back d w k c bits xs) ≡ length xs
    unfolding layer_back
    length-layer_back k zero bits xs = refl
    length-layer_back k (suc i) bits xs =
        let e = switch d (w.enc k (i, false)) (w.enc k (i, true)) (get_or bits i 0) xs in
        length-layer_back k i bits e ∙ length-switch (w.enc k (i, false)) (w.enc k (i, true)) (get_or bits i 0) xs

    pub length_part : (k : ℕ) (t : Bool) (c : ℕ) (xs : List A) → length (part d w k t c xs) ≡ c
    unfolding part
    length_part k t zero xs = refl
    length_part k t (suc i) xs = rw (length-append, length_part k t i xs) (omega arith)

    pub length-joined : (k q : ℕ) (top bottom : List A) → length (joined d w k q top bottom) ≡ q
    unfolding joined
    length-joined k zero top bottom = refl
    length-joined k (suc q) top bottom = rw (length-append, length-joined k q top bottom) (omega arith)

    pub length-forward_of : {m : ℕ} {net : Network} → Sized m net → (bits : List ℕ) (xs : List A) → length xs ≡ m
        → length (forward d w net bits xs) ≡ m
    unfolding forward
    length-forward_of (none h) bits xs e = e
    length-forward_of (some h t u) bits xs e = rw (length-layer, length-joined)

    pub length-backward_of : {m : ℕ} {net : Network} → Sized m net → (bits : List ℕ) (xs : List A) → length xs ≡ m
        → length (backward d w net bits xs) ≡ m
    unfolding backward
    length-backward_of (none h) bits xs e = e
    length-backward_of (some h t u) bits xs e = rw (length-layer_back, length-joined)

    pub length-forward : (n : ℕ) (bits : List ℕ) (xs : List A) → length xs ≡ n → length (forward d w (network n) bits xs) ≡ n
    length-forward n bits xs e = length-forward_of (sized n) bits xs e

    pub length-backward : (n : ℕ) (bits : List ℕ) (xs : List A) → length xs ≡ n → length (backward d w (network n) bits xs) ≡ n
    length-backward n bits xs e = length-backward_of (sized n) bits xs e

pub length-words : (es : List Entry) → length (words es) ≡ entry_words * length es
unfolding words
length-words [] = refl
length-words (e ∷ es) = omega (arith, length-words es)

pub words_append : (es fs : List Entry) → words (es ++ fs) ≡ words es ++ words fs
unfolding words
words_append [] fs = refl
words_append (e ∷ es) fs = ap (λ (l : List ℕ). e.kind ∷ e.first ∷ e.second ∷ e.bit ∷ l) (words_append es fs)

-- words of entries read again, with fewer words more than an entry has
pub entries-words_more : (es : List Entry) (rest : List ℕ) → length rest < entry_words → entries (words es ++ rest) ≡ es
unfolding words entries
entries-words_more [] [] h = refl
entries-words_more [] (a ∷ []) h = refl
entries-words_more [] (a ∷ b ∷ []) h = refl
entries-words_more [] (a ∷ b ∷ c ∷ []) h = refl
entries-words_more [] (a ∷ b ∷ c ∷ d ∷ rest) h = absurd (omega arith)
entries-words_more (e ∷ es) rest h = ap (λ (l : List Entry). e ∷ l) (entries-words_more es rest h)

pub entries-words : (es : List Entry) → entries (words es) ≡ es
unfolding words entries
entries-words [] = refl
entries-words (e ∷ es) = ap (λ (l : List Entry). e ∷ l) (entries-words es)

-- and with any words behind them
entries-front : (es : List Entry) (rest : List ℕ) → entries (words es ++ rest) ≡ es ++ entries rest
unfolding words entries
entries-front [] rest = refl
entries-front (e ∷ es) rest = ap (λ (l : List Entry). e ∷ l) (entries-front es rest)

-- the reader of one entry reads what the reader of all does
pub entry_at_entries : (log : List ℕ) (e : ℕ) → e < length (entries log) → entry_at log e ≡ get_or (entries log) e none_such
unfolding entries
entry_at_entries [] e h = absurd (omega arith)
entry_at_entries (a ∷ []) e h = absurd (omega arith)
entry_at_entries (a ∷ b ∷ []) e h = absurd (omega arith)
entry_at_entries (a ∷ b ∷ c ∷ []) e h = absurd (omega arith)
entry_at_entries (a ∷ b ∷ c ∷ d ∷ rest) zero h = refl
entry_at_entries (a ∷ b ∷ c ∷ d ∷ rest) (suc e) h =
    let at = entry_words * e in
    let kind : entry_words * suc e ≡ suc (suc (suc (suc at))) = omega arith in
    let first : entry_words * suc e + 1 ≡ suc (suc (suc (suc (at + 1)))) = omega arith in
    let second : entry_words * suc e + 2 ≡ suc (suc (suc (suc (at + 2)))) = omega arith in
    let bit : entry_words * suc e + 3 ≡ suc (suc (suc (suc (at + 3)))) = omega arith in
    rw (first, second, bit, kind) (entry_at_entries rest e (omega arith))

-- so of a log that begins with some entries it reads these
pub entry_at_front : (es : List Entry) (rest : List ℕ) (e : ℕ) → e < length es → entry_at (words es ++ rest) e ≡ get_or es e none_such
entry_at_front es rest e h =
    let all = entries-front es rest in
    let inside : e < length (entries (words es ++ rest)) = rw all (simp length-append (omega arith)) in
    entry_at_entries (words es ++ rest) e inside ∙ rw all (get_or-append es (entries rest) none_such e h)

-- a log cut between two entries is read in two parts
pub entries-cut : (i : ℕ) (log : List ℕ) → entries (take (entry_words * i) log) ++ entries (drop (entry_words * i) log) ≡ entries log
unfolding entries
entries-cut zero log = refl
entries-cut (suc i) log = rw more (go log (entries-cut i))
  where
    more : entry_words * suc i ≡ suc (suc (suc (suc (entry_words * i))))
    more = omega arith

    go : (l : List ℕ)
        → ((rest : List ℕ) → entries (take (entry_words * i) rest) ++ entries (drop (entry_words * i) rest) ≡ entries rest)
        → entries (take (suc (suc (suc (suc (entry_words * i))))) l) ++ entries (drop (suc (suc (suc (suc (entry_words * i))))) l)
        ≡ entries l
    go [] before = refl
    go (a ∷ []) before = refl
    go (a ∷ b ∷ []) before = refl
    go (a ∷ b ∷ c ∷ []) before = refl
    go (a ∷ b ∷ c ∷ d ∷ rest) before = ap (λ (es : List Entry). entry a b c d ∷ es) (before rest)

pub length-layer_entries : (place : Side → ℕ) (b c : ℕ) → length (layer_entries place b c) ≡ c
unfolding layer_entries
length-layer_entries place b zero = refl
length-layer_entries place b (suc i) = rw (length-append, length-layer_entries place b i) (omega arith)

module _ (w : Wiring) where
  pub length-switches : (net : Network) (place : ℕ → ℕ) (b : ℕ) → length (switches w net place b) ≡ switch_count net
  unfolding switches switch_count
  length-switches wires place b = refl
  length-switches (split m top bottom) place b =
      simp length-append
      (omega (
        arith,
        length-layer_entries (λ p. place (w.enc (up m) p)) b (up m - 1),
        length-switches top (λ i. place (w.enc (up m) (i, false))) (b + (up m - 1)),
        length-switches bottom (λ i. place (w.enc (up m) (i, true))) (b + ((up m - 1) + switch_count top)),
        length-layer_entries (λ p. place (w.enc (up m) p)) (b + ((up m - 1) + switch_count top) + switch_count bottom) (down m),
      ))

  pub length-apply_entries : (n : ℕ) → length (apply_entries w n) ≡ W n
  unfolding apply_entries
  length-apply_entries n = length-switches (network n) (λ i. i) 0 ∙ count_is n

  pub length-inverse_entries : (n : ℕ) → length (inverse_entries w n) ≡ W n
  unfolding inverse_entries
  length-inverse_entries n = length-reverse (apply_entries w n) ∙ length-apply_entries n

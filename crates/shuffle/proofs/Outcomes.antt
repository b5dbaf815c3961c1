-- What a shuffle comes to, return by return.
-- Assumes nothing.
use mathlib.Core.Path.{◌≡◌, refl, sym, ap, ◌∙◌}
use mathlib.Core.Bool.{true}
use mathlib.Core.List.{List, [], ◌∷◌, ◌++◌}
use Prim.Native.Nat.{ℕ, ◌≤◌, ◌<◌}
use native.Mathlib.Omega.{arith}
use lib.ListN.{length, take, drop}
use lib.Seq.{length-take-le}
use Rattle.std.specs.Prelude.{Some, None, Ok, Err}
use Rattle.answers.specs.declared.Reason.TheVariants.{Places, OutputRoom, Words}
use Rattle.answers.specs.declared.Refusal.{Refusal}
use Rattle.answers.specs.Answers.{number_of}
use Rattle.answers.specs.Questions.{all_yes, no_at, first_no}
use Rattle.answers.specs.Buffers.{overlay}
use Rattle.answers.specs.Outcomes.{beside_of}
use Rattle.answers.proofs.Questions.{yes_each, asked-both}
use Rattle.answers.proofs.Buffers.{overlay-front}
use Rattle.permutation.specs.Permutations.{identity}
use Rattle.permutation.proofs.Laws.{identity-length}
use Rattle.questions.specs.Asked.{places_few, room_for}
use Rattle.questions.proofs.Lists.{first_no_lem}
use Rattle.questions.proofs.Asked.{few_yes, few_no, room_yes, room_no}
use Rattle.shuffle_fair.specs.Words.{chosen}
use Rattle.shuffle_fair.specs.Choosing.{supply_asks, Chose}
use Rattle.shuffle.specs.Shuffled.{stepped, shuffled, shuffle_asks, drawn, shuffle_call}
use Rattle.shuffle.proofs.Steps.{stepped-front, stepped-length}

module _ (n : ℕ) (words before : List ℕ) where
  asks_supply : n ≤ 1024 → n ≤ length before → first_no (shuffle_asks n words before) ≡ first_no (supply_asks n words)
  asks_supply l h =
      let first = places_few n ∷ room_for n (length before) ∷ [] in
      asked-both first (supply_asks n words) (yes_each first (few_yes n l, (room_yes n (length before) h, tt)))

  pub asks_pass : n ≤ 1024 → n ≤ length before → (chosen n words).enough ≡ true → first_no (shuffle_asks n words before) ≡ all_yes
  asks_pass l h e = yes_each (shuffle_asks n words before) (few_yes n l, (room_yes n (length before) h, (e, tt)))

  refused : (r : Refusal) → first_no (shuffle_asks n words before) ≡ no_at (number_of r.reason) r.place
      → drawn (Err r) before ≡ shuffle_call n words before
  unfolding shuffle_call
  refused r v = rw v

  pub shuffle_large : 1024 < n → drawn (Err (record { reason = Places; place = 0 })) before ≡ shuffle_call n words before
  shuffle_large l = refused (record { reason = Places; place = 0 }) (first_no_lem 0 (shuffle_asks n words before) (few_no n l))

  pub shuffle_short : n ≤ 1024 → length before < n → drawn (Err (record { reason = OutputRoom; place = 0 })) before ≡ shuffle_call n words before
  shuffle_short s l = refused (record { reason = OutputRoom; place = 0 }) (first_no_lem 1 (shuffle_asks n words before) (few_yes n s, room_no n (length before) l))

  pub shuffle_out : {kept : List ℕ} → n ≤ 1024 → n ≤ length before → Chose n words kept None
      → drawn (Err (record { reason = Words; place = 0 })) before ≡ shuffle_call n words before
  shuffle_out s l c = refused (record { reason = Words; place = 0 }) (asks_supply s l ∙ c.asked)

  -- what the exchanges leave of the numbered front is the shuffle, over the front
  laid : (taken : List ℕ) → length taken ≡ n
      → stepped (length taken) taken (identity n ++ drop n before) ≡ overlay before 0 (shuffled taken)
  laid taken f =
      let m = length taken in
      ap (λ k. stepped m taken (identity k ++ drop k before)) (sym f)
      ∙ stepped-front m taken (identity m) (drop m before) (omega arith) (identity-length m)
      ∙ ap (λ k. shuffled taken ++ drop k before) (sym (stepped-length m taken (identity m) ∙ identity-length m))
      ∙ sym (overlay-front before (shuffled taken))

  pub shuffle_done : {kept numbered after : List ℕ} {used : ℕ} → n ≤ 1024 → n ≤ length before
      → Chose n words kept (Some used) → n ≤ length kept
      → numbered ≡ identity n ++ drop n before → after ≡ stepped (length (take n kept)) (take n kept) numbered
      → drawn (Ok (record { count = n; used = used })) after ≡ shuffle_call n words before
  unfolding shuffle_call
  shuffle_done {kept = kept} {used = used} s l c f g h =
      let yes : first_no (supply_asks n words) ≡ all_yes = c.asked in
      let front : (chosen n words).taken ≡ take n kept = c.taken refl in
      let count : (chosen n words).used ≡ used = sym (ap (λ v. beside_of v (chosen n words).used) yes) ∙ c.used in
      let left = h ∙ ap (stepped (length (take n kept)) (take n kept)) g ∙ laid (take n kept) (length-take-le n kept f) in
      rw (asks_supply s l ∙ yes, front, count, left)

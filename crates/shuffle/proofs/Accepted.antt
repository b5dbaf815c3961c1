-- When a shuffle is accepted, and what it gives then.
-- Assumes nothing.
use mathlib.Core.Path.{◌≡◌, ap, ◌∙◌}
use mathlib.Core.Bool.{true}
use mathlib.Core.List.{List}
use Prim.Native.Nat.{ℕ, ◌-◌, ◌<◌}
use native.Mathlib.Omega.{arith}
use lib.ListN.{length, get_or}
use lib.Seq.{take_all}
use borrow.Author.Tests.{leb-true}
use Rattle.answers.specs.Answers.{accepted}
use Rattle.answers.specs.Buffers.{overlay}
use Rattle.answers.proofs.Questions.{each_yes}
use Rattle.answers.proofs.Outcomes.{accepted_when}
use Rattle.permutation.specs.Permutations.{IsPermutation}
use Rattle.shuffle_fair.specs.Words.{fit, Chosen, chosen}
use Rattle.shuffle.specs.Shuffled.{shuffled, order_from, shuffle_asks, Acceptable, shuffle_call}
use Rattle.shuffle_fair.proofs.Words.{used_words, first-fit}
use Rattle.shuffle.proofs.Steps.{shuffled_permutation}
use Rattle.shuffle.proofs.Outcomes.{asks_pass}

module _ (n : ℕ) (words out : List ℕ) where
  -- number 0 where it is so ..
  pub shuffle_accepted : Acceptable n words out
      → shuffle_call n words out
      ≡ record { answer = accepted n; used = (chosen n words).used; buffer = overlay out 0 (order_from n words) }
  unfolding shuffle_call
  shuffle_accepted A = rw (asks_pass n words out A.small A.room A.enough)

  -- .. and only there
  pub shuffle_accepts : (shuffle_call n words out).answer.number ≡ 0 → Acceptable n words out
  unfolding shuffle_call
  shuffle_accepts e =
      let asks = shuffle_asks n words out in
      let yes = each_yes asks (accepted_when asks n (omega arith, (omega arith, (omega arith, tt))) e) in
      record { small = leb-true n 1024 yes.0; room = leb-true n (length out) yes.1.0; enough = yes.1.1.0 }

permutation_of : (n : ℕ) (taken : List ℕ) → length taken ≡ n → IsPermutation n (shuffled taken)
permutation_of n taken long = rw (← long) (shuffled_permutation taken)

-- whatever the words
pub order_permutation : (n : ℕ) (words : List ℕ) → (chosen n words).enough ≡ true → IsPermutation n (order_from n words)
order_permutation n words e = permutation_of n (chosen n words).taken (used_words n words e).one_each

-- n words that are each fit at their turn draw what 01's rule drew from them
pub fit-order : (n : ℕ) (words : List ℕ) → length words ≡ n → ((i : ℕ) → i < n → fit (n - i) (get_or words i 0) ≡ true)
    → order_from n words ≡ shuffled words
fit-order n words long fits =
    ap (λ (c : Chosen). shuffled c.taken) (first-fit n words (omega arith) fits) ∙ ap shuffled (take_all n words (omega arith))

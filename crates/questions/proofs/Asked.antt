-- Of each question: when it gets a yes, when a no, and what a yes means.
-- Assumes nothing.
use mathlib.Core.Path.{◌≡◌}
use mathlib.Core.Bool.{true, false}
use mathlib.Core.List.{List}
use Prim.Native.Nat.{ℕ, ◌*◌, ◌≤◌, ◌<◌}
use lib.Dec.{leb}
use lib.ListN.{length}
use borrow.Author.Tests.{le-leb, lt-leb, leb-true, eq-eqb, ne_eqb, eqb-true}
use Rattle.answers.specs.Questions.{first_bad}
use Rattle.bits.specs.Bits.{is_bit, Bits}
use Rattle.bits.proofs.Bytes.{bits_all}
use Rattle.counts.specs.Counts.{W}
use Rattle.network.specs.Log.{entry_words}
use Rattle.permutation.specs.Permutations.{first_bad_entry, IsPermutation}
use Rattle.permutation.proofs.Permutations.{both_true, passes_permutation}
use Rattle.questions.specs.Asked.{places_few, width_fits, blocks_fill, bits_for, log_for, an_order, all_bits, ends_at, room_for, listable}

-- 1
module _ (n : ℕ) where
  pub few_yes : n ≤ 1024 → (places_few n).yes ≡ true
  few_yes h = le-leb n 1024 h

  pub few_no : 1024 < n → (places_few n).yes ≡ false
  few_no h = lt-leb n 1024 h

  pub few_means : (places_few n).yes ≡ true → n ≤ 1024
  few_means y = leb-true n 1024 y

-- 2
module _ (width : ℕ) where
  pub width_yes : 1 ≤ width → width ≤ 256 → (width_fits width).yes ≡ true
  width_yes l h = rw (le-leb 1 width l, le-leb width 256 h)

  pub narrow_no : width < 1 → (width_fits width).yes ≡ false
  narrow_no h = rw (lt-leb 1 width h)

  pub wide_no : 1 ≤ width → 256 < width → (width_fits width).yes ≡ false
  wide_no l h = rw (le-leb 1 width l, lt-leb width 256 h)

  pub width_means : (width_fits width).yes ≡ true → (1 ≤ width) × (width ≤ 256)
  width_means y =
      let sides = both_true (leb 1 width) (leb width 256) y in
      (leb-true 1 width sides.0, leb-true width 256 sides.1)

-- 3
module _ (n width filled : ℕ) where
  pub fill_yes : filled ≡ n * width → (blocks_fill n width filled).yes ≡ true
  fill_yes e = eq-eqb filled (n * width) e

  pub fill_no : (filled ≡ n * width → ⊥) → (blocks_fill n width filled).yes ≡ false
  fill_no e = ne_eqb filled (n * width) e

  pub fill_means : (blocks_fill n width filled).yes ≡ true → filled ≡ n * width
  fill_means y = eqb-true filled (n * width) y

-- 4
module _ (n : ℕ) (bits : List ℕ) where
  pub count_yes : length bits ≡ W n → (bits_for n bits).yes ≡ true
  count_yes e = eq-eqb (length bits) (W n) e

  pub count_no : (length bits ≡ W n → ⊥) → (bits_for n bits).yes ≡ false
  count_no e = ne_eqb (length bits) (W n) e

  pub count_means : (bits_for n bits).yes ≡ true → length bits ≡ W n
  count_means y = eqb-true (length bits) (W n) y

-- 5
module _ (entries room : ℕ) where
  pub log_yes : entry_words * entries ≤ room → (log_for entries room).yes ≡ true
  log_yes h = le-leb (entry_words * entries) room h

  pub log_no : room < entry_words * entries → (log_for entries room).yes ≡ false
  log_no h = lt-leb (entry_words * entries) room h

  pub log_means : (log_for entries room).yes ≡ true → entry_words * entries ≤ room
  log_means y = leb-true (entry_words * entries) room y

-- 6
module _ (order : List ℕ) where
  pub order_yes : first_bad_entry order ≡ length order → (an_order order).yes ≡ true
  order_yes e = eq-eqb (first_bad_entry order) (length order) e

  pub order_no : (first_bad_entry order ≡ length order → ⊥) → (an_order order).yes ≡ false
  order_no e = ne_eqb (first_bad_entry order) (length order) e

  pub order_means : (an_order order).yes ≡ true → IsPermutation (length order) order
  order_means y = passes_permutation order (eqb-true (first_bad_entry order) (length order) y)

-- 7
module _ (bits : List ℕ) where
  abbrev bad : ℕ
  bad = first_bad (is_bit bits) (length bits)

  pub bits_yes : bad ≡ length bits → (all_bits bits).yes ≡ true
  bits_yes e = eq-eqb bad (length bits) e

  pub bits_no : (bad ≡ length bits → ⊥) → (all_bits bits).yes ≡ false
  bits_no e = ne_eqb bad (length bits) e

  pub bits_means : (all_bits bits).yes ≡ true → Bits bits
  bits_means y = bits_all bits (eqb-true bad (length bits) y)

-- 12
module _ (place : ℕ) (input : List ℕ) where
  pub end_yes : length input ≤ place → (ends_at place input).yes ≡ true
  end_yes h = le-leb (length input) place h

  pub end_no : place < length input → (ends_at place input).yes ≡ false
  end_no h = lt-leb (length input) place h

  pub end_means : (ends_at place input).yes ≡ true → length input ≤ place
  end_means y = leb-true (length input) place y

-- 13
module _ (due room : ℕ) where
  pub room_yes : due ≤ room → (room_for due room).yes ≡ true
  room_yes h = le-leb due room h

  pub room_no : room < due → (room_for due room).yes ≡ false
  room_no h = lt-leb due room h

  pub room_means : (room_for due room).yes ≡ true → due ≤ room
  room_means y = leb-true due room y

-- 17
module _ (n : ℕ) where
  pub listable_yes : n ≤ 6 → (listable n).yes ≡ true
  listable_yes h = le-leb n 6 h

  pub listable_no : 6 < n → (listable n).yes ≡ false
  listable_no h = lt-leb n 6 h

  pub listable_means : (listable n).yes ≡ true → n ≤ 6
  listable_means y = leb-true n 6 y

-- The questions of the two calls: what a yes to each says.
-- Assumes nothing.
use mathlib.Core.Path.{◌≡◌}
use mathlib.Core.List.{List}
use Prim.Native.Nat.{ℕ, ◌*◌, ◌≤◌}
use native.Mathlib.Omega.{arith}
use lib.ListN.{length}
use Rattle.answers.specs.Questions.{Verdict, all_yes, first_no, Numbered}
use Rattle.answers.specs.Outcomes.{answer_of}
use Rattle.answers.proofs.Questions.{each_yes, yes_each}
use Rattle.answers.proofs.Outcomes.{accepted_when}
use Rattle.bits.specs.Bits.{Bits}
use Rattle.bits.proofs.Bytes.{all_bits_lem}
use Rattle.counts.specs.Counts.{W}
use Rattle.network.specs.Log.{entry_words}
use Rattle.questions.proofs.Asked.{few_yes, few_means, width_yes, width_means, fill_yes, fill_means, count_yes, count_means, log_yes, log_means, bits_yes, bits_means}
use Rattle.apply_questions.specs.Questions.{apply_questions}

-- a verdict, as the answer of a call that reports 0
pub told : {v u : Verdict} → v ≡ u → answer_of u 0 ≡ answer_of v 0
told e = rw e

-- what every question asks for
pub record Fits (n width filled : ℕ) (bits : List ℕ) (room : ℕ) : Type 0 where
  pub places : n ≤ 1024
  pub low : 1 ≤ width
  pub high : width ≤ 256
  pub whole : filled ≡ n * width
  pub count : length bits ≡ W n
  pub words : entry_words * W n ≤ room
  pub settings : Bits bits

pub passes : (n width filled : ℕ) (bits : List ℕ) (room : ℕ) → first_no (apply_questions n width filled bits room) ≡ all_yes → Fits n width filled bits room
unfolding apply_questions
passes n width filled bits room e =
    let y = each_yes (apply_questions n width filled bits room) e in
    let sides = width_means width y.1.0 in
    record {
      places = few_means n y.0;
      low = sides.0;
      high = sides.1;
      whole = fill_means n width filled y.1.1.0;
      count = count_means n bits y.1.1.1.0;
      words = log_means (W n) room y.1.1.1.1.0;
      settings = bits_means bits y.1.1.1.1.1.0;
    }

pub fit_passes : {n width filled : ℕ} {bits : List ℕ} {room : ℕ} → Fits n width filled bits room → first_no (apply_questions n width filled bits room) ≡ all_yes
unfolding apply_questions
fit_passes {n} {width} {filled} {bits} {room} f =
    let fits = width_yes width f.low f.high in
    let fill = fill_yes n width filled f.whole in
    let count = count_yes n bits f.count in
    let log = log_yes (W n) room f.words in
    let each = bits_yes bits (all_bits_lem bits f.settings) in
    yes_each (apply_questions n width filled bits room) (few_yes n f.places, (fits, (fill, (count, (log, (each, tt))))))

pub numbered : (n width filled : ℕ) (bits : List ℕ) (room : ℕ) → Numbered (apply_questions n width filled bits room)
unfolding apply_questions
numbered n width filled bits room = (omega arith, (omega arith, (omega arith, (omega arith, (omega arith, (omega arith, tt))))))

-- number 0 is given only where every question got a yes
pub asked_well : (n width filled : ℕ) (bits : List ℕ) (room count : ℕ)
    → (answer_of (first_no (apply_questions n width filled bits room)) count).number ≡ 0
    → first_no (apply_questions n width filled bits room) ≡ all_yes
asked_well n width filled bits room count e =
    accepted_when (apply_questions n width filled bits room) count (numbered n width filled bits room) e

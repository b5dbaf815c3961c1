-- What crosses to C and back, in the crates' own definitions.
-- Assumes nothing: these are definitions.
use Rattle.std.specs.Prelude.{Result, true, false, List, [], ◌∷◌, ℕ, eqb, length, get_or}
use Rattle.answers.specs.declared.Answer.{Answer}
use Rattle.answers.specs.declared.Refusal.{Refusal}
use Rattle.answers.specs.Answers.{answer_with}
use Rattle.answers.specs.Questions.{first_no}
use Rattle.answers.specs.Outcomes.{answer_of}
use Rattle.gauges.specs.declared.Figures.{Figures}
use Rattle.gauges.specs.Calls.{GaugeReport}
use Rattle.numbers.specs.Numbers.{NumberAnswer}
use Rattle.permutation.specs.Permutations.{tabulate}
use Rattle.questions.specs.Asked.{places_few}
use Rattle.records.specs.declared.Permutation.{Permutation}
use Rattle.records.specs.declared.Reply.{Reply}
use Rattle.shuffle.specs.declared.Drawn.{Drawn}
use Rattle.shuffle.specs.Shuffled.{Shuffled, used_in}
use Rattle.capi_values.specs.declared.CNumber.{CNumber}
use Rattle.capi_values.specs.declared.CDrawn.{CDrawn}
use Rattle.capi_values.specs.declared.CReport.{CReport}
use Rattle.capi_values.specs.declared.CRecord.{CRecord}

-- ---- answers

-- the number reader's answer, as a C caller is told it
abbrev pub number_in : CNumber → NumberAnswer
number_in r = record { answer = r.answer; value = r.value; next = r.next }

-- a draw's, from what the draw gave, and with the lent entries
abbrev pub drawn_from : Result Drawn Refusal → CDrawn
drawn_from r = record { answer = answer_with (λ (d : Drawn). d.count) r; used = used_in r }

abbrev pub drawn_in : CDrawn → List ℕ → Shuffled
drawn_in r out = record { answer = r.answer; used = r.used; buffer = out }

-- a gauge's report
abbrev pub figures_in : CReport → Figures
figures_in r =
    record {
      count = r.count;
      least = r.least;
      greatest = r.greatest;
      sum = r.sum;
      mean = r.mean;
      remainder = r.remainder;
    }

abbrev pub report_in : CReport → GaugeReport
report_in r = record { answer = r.answer; figures = figures_in r }

-- an asking of a count of n places: question 1, then the count
abbrev pub counted : (ℕ → ℕ) → ℕ → Answer
counted count n = answer_of (first_no (places_few n ∷ [])) (count n)

-- ---- permutations: a slice of entries with its number is the record

-- the record of lent entries: as long as they are; its 1,024 entries are theirs, and 0 past their end; the number as handed in
unfoldable pub record_in : List ℕ → ℕ → Permutation
record_in es fixed = record { length = length es; entries = tabulate (λ i. get_or es i 0) 1024; fixed = fixed }

-- what a C caller is told of a call on records: its answer, and the number that the record which it gives carries
pub record Told : Type 0 where
  pub answer : Answer
  pub fixed : ℕ

abbrev pub told_in : CRecord → Told
told_in r = record { answer = r.answer; fixed = r.fixed }

abbrev pub told : Reply → Told
told r = record { answer = r.answer; fixed = r.permutation.fixed }

-- .. with the entries lent to it
pub record Lent : Type 0 where
  pub told : Told
  pub entries : List ℕ

abbrev pub lending : Told → List ℕ → Lent
lending t entries = record { told = t; entries = entries }

-- n entries of a record
abbrev pub spread : Permutation → ℕ → List ℕ
spread p n = tabulate (λ i. get_or p.entries i 0) n

-- what a call on records comes to: accepted, the lent entries are those of the record that it gives; refused, they stay as they are
unfoldable pub lent : Reply → List ℕ → Lent
lent r entries =
    lending (told r) (elim (eqb r.answer.number 0) [ true ↦ spread r.permutation (length entries) | false ↦ entries ])

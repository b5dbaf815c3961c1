-- The answer of a call (01, 'The questions').
-- Assumes nothing: these are definitions.
use Rattle.std.specs.Prelude.{ℕ, Result, Ok, Err}
use Rattle.answers.specs.declared.Answer.{Answer}
use Rattle.answers.specs.declared.Reason.{Reason}
use Rattle.answers.specs.declared.Reason.TheVariants.{Places, Width, BlockBytes, BitCount, LogRoom, Entry, BitByte, NextByte, ShortestForm, FormNumber, FillBits, InputEnd, OutputRoom, Place, OneLength, SmallOrder, Words}
use Rattle.answers.specs.declared.Refusal.{Refusal}

-- a first no: the question's number, a place, count 0
abbrev pub refusal : ℕ → ℕ → Answer
refusal q p = record { number = q; place = p; count = 0 }

-- success: number 0, place 0, and a count
abbrev pub accepted : ℕ → Answer
accepted n = record { number = 0; place = 0; count = n }

-- the number of each question
abbrev pub number_of : Reason → ℕ
number_of Places = 1
number_of Width = 2
number_of BlockBytes = 3
number_of BitCount = 4
number_of LogRoom = 5
number_of Entry = 6
number_of BitByte = 7
number_of NextByte = 8
number_of ShortestForm = 9
number_of FormNumber = 10
number_of FillBits = 11
number_of InputEnd = 12
number_of OutputRoom = 13
number_of Place = 14
number_of OneLength = 15
number_of SmallOrder = 17
number_of Words = 18

-- what a call gives, in three numbers; `count` takes the count from what an accepted one gives
abbrev pub answer_with : {A : Type 0} → (A → ℕ) → Result A Refusal → Answer
answer_with count (Ok x) = accepted (count x)
answer_with count (Err r) = refusal (number_of r.reason) r.place

-- .. of a call that gives its count
abbrev pub answer_from : Result ℕ Refusal → Answer
answer_from = answer_with (λ n. n)

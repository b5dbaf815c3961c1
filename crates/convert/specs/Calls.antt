-- The converter (02, F-6): 'takes a setting of either wiring and gives the other wiring's house setting of the same order'.
-- Assumes nothing: these are definitions.
use Rattle.std.specs.Prelude.{List, [], ◌∷◌, ℕ}
use Rattle.answers.specs.Questions.{Question, first_no}
use Rattle.answers.specs.Outcomes.{Outcome, settled}
use Rattle.network.specs.Blocks.{order_of}
use Rattle.questions.specs.Asked.{places_few, bits_for, all_bits}
use Rattle.steps.specs.Setting.{setting_for}
use Rattle.wirings.specs.declared.Topology.{Topology}
use Rattle.wirings.specs.declared.Topology.TheVariants.{Paper, Neighbour}
use Rattle.wirings.specs.Nets.{wiring_of}

-- the other wiring
unfoldable pub across : Topology → Topology
across Paper = Neighbour
across Neighbour = Paper

-- 1, 4 of the given setting, 4 of the one to be written, 7
unfoldable pub convert_questions : (n : ℕ) (given out : List ℕ) → List Question
convert_questions n given out =
    places_few n
    ∷ bits_for n given
    ∷ bits_for n out
    ∷ all_bits given
    ∷ []

-- the setting of the other wiring for the order that the given one carries in its own
unfoldable pub converted : Topology → ℕ → List ℕ → List ℕ
converted from n given = setting_for (wiring_of (across from)) (order_of (wiring_of from) n given)

-- the whole call; it reports no entries
unfoldable pub convert_call : Topology → ℕ → List ℕ → List ℕ → Outcome
convert_call from n given out = settled (first_no (convert_questions n given out)) 0 (converted from n given) out

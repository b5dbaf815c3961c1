-- Cases a to g of 01, and for each wiring an order that pins the lowest pair, by running their logs in the paper's wiring and in
-- the neighbour wiring (02, F-6).
-- Assumes nothing.
use mathlib.Core.Path.{◌≡◌, refl}
use mathlib.Core.Bool.{cond}
use mathlib.Core.List.{List, [], ◌∷◌, map}
use Prim.Native.Nat.{ℕ}
use lib.Dec.{eqb}
use lib.ListN.{length}
use Rattle.answers.specs.Questions.{first_bad_from}
use Rattle.counts.specs.Counts.{W, by_halves}
use Rattle.network.specs.Wiring.{Wiring, paper, neighbour}
use Rattle.network.specs.Network.{network, network_in, switch_count}
use Rattle.network.specs.Move.{switch}
use Rattle.network.specs.Log.{Entry, entry, words}
use Rattle.steps.specs.Sweeps.{look, seek, store, each, act}
use Rattle.steps.specs.State.{start}
use Rattle.steps.specs.Steps.{step1, step2, step3, step4, step5, step6}
use Rattle.steps.specs.Sequence.{rounds, input_entries, entries_of, set_entries}
use Rattle.steps.specs.Run.{subnetworks, run_entry, run_entries, run_set, setting_of}
use Rattle.steps.specs.ByLookup.{run_looked, run_all_looked, run_by_lookup}

-- an order, its setting in the paper's wiring, and in the neighbour wiring
record Case : Type 0 where
  order : List ℕ
  in_paper : List ℕ
  in_neighbour : List ℕ

given : List ℕ → List ℕ → List ℕ → Case
given order p q = record { order = order; in_paper = p; in_neighbour = q }

cases : List Case
cases =
    given [] [] []
    ∷ given (0 ∷ []) [] []
    ∷ given (1 ∷ 0 ∷ []) (1 ∷ []) (1 ∷ [])
    ∷ given (1 ∷ 2 ∷ 0 ∷ []) (0 ∷ 1 ∷ 1 ∷ []) (1 ∷ 1 ∷ 0 ∷ [])
    ∷ given (1 ∷ 3 ∷ 0 ∷ 2 ∷ []) (1 ∷ 0 ∷ 1 ∷ 0 ∷ 1 ∷ []) (1 ∷ 1 ∷ 0 ∷ 0 ∷ 1 ∷ [])
    ∷ given (1 ∷ 2 ∷ 3 ∷ 4 ∷ 0 ∷ []) (0 ∷ 0 ∷ 0 ∷ 1 ∷ 1 ∷ 1 ∷ 1 ∷ 0 ∷ []) (1 ∷ 1 ∷ 1 ∷ 1 ∷ 0 ∷ 0 ∷ 0 ∷ 0 ∷ [])
    ∷ given (6 ∷ 2 ∷ 3 ∷ 7 ∷ 5 ∷ 1 ∷ 8 ∷ 0 ∷ 4 ∷ [])
    (0 ∷ 0 ∷ 0 ∷ 1 ∷ 0 ∷ 0 ∷ 0 ∷ 1 ∷ 1 ∷ 1 ∷ 1 ∷ 0 ∷ 1 ∷ 0 ∷ 1 ∷ 0 ∷ 1 ∷ 1 ∷ 1 ∷ 0 ∷ 0 ∷ [])
    (0 ∷ 0 ∷ 1 ∷ 0 ∷ 1 ∷ 1 ∷ 1 ∷ 1 ∷ 1 ∷ 1 ∷ 1 ∷ 0 ∷ 0 ∷ 0 ∷ 1 ∷ 1 ∷ 0 ∷ 1 ∷ 1 ∷ 0 ∷ 0 ∷ [])
    ∷ given (0 ∷ 3 ∷ 2 ∷ 1 ∷ 4 ∷ []) (0 ∷ 1 ∷ 0 ∷ 0 ∷ 0 ∷ 1 ∷ 0 ∷ 1 ∷ []) (0 ∷ 0 ∷ 0 ∷ 0 ∷ 0 ∷ 1 ∷ 0 ∷ 0 ∷ [])
    ∷ given (0 ∷ 2 ∷ 1 ∷ 3 ∷ 4 ∷ []) (0 ∷ 0 ∷ 1 ∷ 1 ∷ 1 ∷ 0 ∷ 0 ∷ 0 ∷ []) (0 ∷ 1 ∷ 0 ∷ 0 ∷ 0 ∷ 1 ∷ 0 ∷ 1 ∷ [])
    ∷ []

-- the setting that the log of an order leaves
ran : Wiring → List ℕ → List ℕ
ran w order = setting_of w order (set_entries w (length order))

cases-run : map (λ (c : Case). given c.order (ran paper c.order) (ran neighbour c.order)) cases ≡ cases
unfolding first_bad_from W by_halves network network_in switch_count switch look seek store each act step1 step2 step3 step4 step5 step6 rounds input_entries entries_of set_entries subnetworks run_entry run_entries run_set given cases ran
cases-run = refl

-- .. and by 01's rule: the bits of the networks that the entries name
looked : Wiring → List ℕ → List ℕ
looked w order = (run_by_lookup w (length order) (set_entries w (length order)) (start order)).bits

cases_looked : map (λ (c : Case). given c.order (looked paper c.order) (looked neighbour c.order)) cases ≡ cases
unfolding first_bad_from W by_halves network network_in switch_count switch look seek store each act step1 step2 step3 step4 step5 step6 rounds input_entries entries_of set_entries subnetworks run_looked run_all_looked run_by_lookup given cases looked
cases_looked = refl

-- the entries of kind 5 for nine places: each network of two places or more once, by its start, size and first bit
halvings : List Entry → List Entry
halvings [] = []
halvings (e ∷ es) = cond (eqb e.kind 5) (e ∷ halvings es) (halvings es)

halvings_of_nine : halvings (set_entries neighbour 9)
    ≡ entry 5 0 9 0 ∷ entry 5 0 5 4 ∷ entry 5 0 3 6 ∷ entry 5 0 2 7 ∷ entry 5 2 2 9
    ∷ entry 5 1 4 12 ∷ entry 5 1 2 13 ∷ entry 5 3 2 14 ∷ []
unfolding network network_in switch_count rounds input_entries entries_of set_entries halvings
halvings_of_nine = refl

-- the log of three places: four words for each of the eleven entries
log_of_three : words (set_entries paper 3)
    ≡ 1 ∷ 0 ∷ 3 ∷ 0 ∷ 2 ∷ 0 ∷ 3 ∷ 0 ∷ 3 ∷ 0 ∷ 3 ∷ 0 ∷ 1 ∷ 0 ∷ 3 ∷ 0 ∷ 2 ∷ 0 ∷ 3 ∷ 0 ∷ 3 ∷ 0 ∷ 3 ∷ 0
    ∷ 4 ∷ 0 ∷ 3 ∷ 0 ∷ 5 ∷ 0 ∷ 3 ∷ 0 ∷ 5 ∷ 0 ∷ 2 ∷ 1 ∷ 6 ∷ 0 ∷ 2 ∷ 1 ∷ 6 ∷ 0 ∷ 3 ∷ 0 ∷ []
unfolding words network network_in switch_count rounds input_entries entries_of set_entries
log_of_three = refl

-- Cases h and i of 01, the log of mixing three blocks, and small cases of logs, their running and blocks of two bytes,
-- computed from the definitions, in the paper's wiring and in the neighbour wiring (02, F-6).
-- Assumes nothing.
use mathlib.Core.Path.{◌≡◌, refl}
use mathlib.Core.List.{List, [], ◌∷◌, map}
use Prim.Native.Nat.{ℕ}
use Rattle.counts.specs.Counts.{W, by_halves}
use Rattle.permutation.specs.Permutations.{tabulate}
use Rattle.network.specs.Wiring.{Wiring, paper, neighbour}
use Rattle.network.specs.Network.{network, network_in, switch_count}
use Rattle.network.specs.Move.{switch, layer, layer_back, part, joined, forward, backward}
use Rattle.network.specs.Blocks.{cut, bytes_of, moved, moved_back, order_of}
use Rattle.network.specs.Log.{words, layer_entries, switches, apply_entries, inverse_entries, run_entry, run}
use Rattle.network.specs.ByNumber.{mixing_bit, returning_bit, run_by_number}

-- what differs from wiring to wiring: the settings of cases d and g, and the words of logs
pub record InWiring : Type 0 where
  pub wiring : Wiring
  pub d : List ℕ
  pub g : List ℕ
  -- of mixing three blocks, and of returning them
  pub three : List ℕ
  pub three_back : List ℕ
  -- of mixing four blocks: the top's switch is logged before the bottom's; and of returning them
  pub four : List ℕ
  pub four_back : List ℕ

abbrev pub in_paper : InWiring
in_paper =
    record {
      wiring = paper;
      d = 0 ∷ 1 ∷ 1 ∷ [];
      g = 0 ∷ 0 ∷ 0 ∷ 1 ∷ 0 ∷ 0 ∷ 0 ∷ 1 ∷ 1 ∷ 1 ∷ 1 ∷ 0 ∷ 1 ∷ 0 ∷ 1 ∷ 0 ∷ 1 ∷ 1 ∷ 1 ∷ 0 ∷ 0 ∷ [];
      three = 7 ∷ 0 ∷ 2 ∷ 0 ∷ 7 ∷ 0 ∷ 1 ∷ 1 ∷ 7 ∷ 0 ∷ 2 ∷ 2 ∷ [];
      three_back = 7 ∷ 0 ∷ 2 ∷ 2 ∷ 7 ∷ 0 ∷ 1 ∷ 1 ∷ 7 ∷ 0 ∷ 2 ∷ 0 ∷ [];
      four = 7 ∷ 0 ∷ 2 ∷ 0 ∷ 7 ∷ 0 ∷ 1 ∷ 1 ∷ 7 ∷ 2 ∷ 3 ∷ 2 ∷ 7 ∷ 0 ∷ 2 ∷ 3 ∷ 7 ∷ 1 ∷ 3 ∷ 4 ∷ [];
      four_back = 7 ∷ 1 ∷ 3 ∷ 4 ∷ 7 ∷ 0 ∷ 2 ∷ 3 ∷ 7 ∷ 2 ∷ 3 ∷ 2 ∷ 7 ∷ 0 ∷ 1 ∷ 1 ∷ 7 ∷ 0 ∷ 2 ∷ 0 ∷ [];
    }

abbrev pub in_neighbour : InWiring
in_neighbour =
    record {
      wiring = neighbour;
      d = 1 ∷ 1 ∷ 0 ∷ [];
      g = 0 ∷ 0 ∷ 1 ∷ 0 ∷ 1 ∷ 1 ∷ 1 ∷ 1 ∷ 1 ∷ 1 ∷ 1 ∷ 0 ∷ 0 ∷ 0 ∷ 1 ∷ 1 ∷ 0 ∷ 1 ∷ 1 ∷ 0 ∷ 0 ∷ [];
      three = 7 ∷ 0 ∷ 1 ∷ 0 ∷ 7 ∷ 0 ∷ 2 ∷ 1 ∷ 7 ∷ 0 ∷ 1 ∷ 2 ∷ [];
      three_back = 7 ∷ 0 ∷ 1 ∷ 2 ∷ 7 ∷ 0 ∷ 2 ∷ 1 ∷ 7 ∷ 0 ∷ 1 ∷ 0 ∷ [];
      four = 7 ∷ 0 ∷ 1 ∷ 0 ∷ 7 ∷ 0 ∷ 2 ∷ 1 ∷ 7 ∷ 1 ∷ 3 ∷ 2 ∷ 7 ∷ 0 ∷ 1 ∷ 3 ∷ 7 ∷ 2 ∷ 3 ∷ 4 ∷ [];
      four_back = 7 ∷ 2 ∷ 3 ∷ 4 ∷ 7 ∷ 0 ∷ 1 ∷ 3 ∷ 7 ∷ 1 ∷ 3 ∷ 2 ∷ 7 ∷ 0 ∷ 2 ∷ 1 ∷ 7 ∷ 0 ∷ 1 ∷ 0 ∷ [];
    }

-- the same of both wirings
abbrev pub both : {A : Type 0} → (InWiring → A) → List A
both F = map F (in_paper ∷ in_neighbour ∷ [])

abbrev pub abcdefghi : List ℕ
abcdefghi = 97 ∷ 98 ∷ 99 ∷ 100 ∷ 101 ∷ 102 ∷ 103 ∷ 104 ∷ 105 ∷ []

abbrev pub hfbcieadg : List ℕ
hfbcieadg = 104 ∷ 102 ∷ 98 ∷ 99 ∷ 105 ∷ 101 ∷ 97 ∷ 100 ∷ 103 ∷ []

pub case_h : both (λ c. moved c.wiring 9 1 c.g abcdefghi) ≡ both (λ c. hfbcieadg)
unfolding network network_in switch_count switch layer part joined forward cut bytes_of moved
case_h = refl

pub case_i : both (λ c. moved_back c.wiring 9 1 c.g hfbcieadg) ≡ both (λ c. abcdefghi)
unfolding network network_in switch_count switch layer_back part joined backward cut bytes_of moved_back
case_i = refl

pub case_order : both (λ c. order_of c.wiring 9 c.g) ≡ both (λ c. 6 ∷ 2 ∷ 3 ∷ 7 ∷ 5 ∷ 1 ∷ 8 ∷ 0 ∷ 4 ∷ [])
unfolding network network_in switch_count switch layer_back part joined backward tabulate order_of
case_order = refl

pub case_log : both (λ c. words (apply_entries c.wiring 3)) ≡ both (λ c. c.three)
unfolding network network_in switch_count words layer_entries switches apply_entries
case_log = refl

pub case_log_three-back : both (λ c. words (inverse_entries c.wiring 3)) ≡ both (λ c. c.three_back)
unfolding network network_in switch_count words layer_entries switches apply_entries inverse_entries
case_log_three-back = refl

pub case_log_four : both (λ c. words (apply_entries c.wiring 4)) ≡ both (λ c. c.four)
unfolding network network_in switch_count words layer_entries switches apply_entries
case_log_four = refl

-- returning them does the same list backwards
pub case_log_back : both (λ c. words (inverse_entries c.wiring 4)) ≡ both (λ c. c.four_back)
unfolding network network_in switch_count words layer_entries switches apply_entries inverse_entries
case_log_back = refl

-- the logs of cases h and i, run
pub case_run : both (λ c. run 0 c.g (apply_entries c.wiring 9) abcdefghi) ≡ both (λ c. hfbcieadg)
unfolding network network_in switch_count layer_entries switches apply_entries switch run_entry run
case_run = refl

pub case_run-back : both (λ c. run 0 c.g (inverse_entries c.wiring 9) hfbcieadg) ≡ both (λ c. abcdefghi)
unfolding network network_in switch_count layer_entries switches apply_entries inverse_entries switch run_entry run
case_run-back = refl

-- .. and by 01's rule: the bits by the entries' numbers
pub case_by_number : both (λ c. run_by_number 0 (mixing_bit c.g) 0 (apply_entries c.wiring 9) abcdefghi) ≡ both (λ c. hfbcieadg)
unfolding network network_in switch_count layer_entries switches apply_entries switch run_by_number
case_by_number = refl

pub case_by_number-back : both (λ c. run_by_number 0 (returning_bit 9 c.g) 0 (inverse_entries c.wiring 9) hfbcieadg)
    ≡ both (λ c. abcdefghi)
unfolding W by_halves network network_in switch_count layer_entries switches apply_entries inverse_entries switch run_by_number
case_by_number-back = refl

-- three blocks of two bytes under case d's setting: ab, cd, ef become ef, ab, cd
pub case_width : both (λ c. moved c.wiring 3 2 c.d (97 ∷ 98 ∷ 99 ∷ 100 ∷ 101 ∷ 102 ∷ []))
    ≡ both (λ c. 101 ∷ 102 ∷ 97 ∷ 98 ∷ 99 ∷ 100 ∷ [])
unfolding network network_in switch_count switch layer part joined forward cut bytes_of moved
case_width = refl

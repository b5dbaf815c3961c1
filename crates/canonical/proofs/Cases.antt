-- Cases a to g of 01, and the orders that tell 'lowest' from 'highest', in the paper's wiring and in the neighbour wiring (02,
-- F-6): each setting is the canonical one. The witness computes it; that it is the only one is proved in Only.antt.
-- Assumes nothing.
use mathlib.Core.Path.{◌≡◌, refl, subst}
use mathlib.Core.List.{List, [], ◌∷◌, map}
use Prim.Native.Nat.{ℕ}
use lib.ListN.{length}
use Rattle.answers.specs.Questions.{first_bad_from}
use Rattle.network.specs.Wiring.{Wiring, Lawful, paper, neighbour}
use Rattle.network.specs.Network.{network, network_in}
use Rattle.network.proofs.Paper.{paper_lawful}
use Rattle.network.proofs.Neighbour.{neighbour_lawful}
use Rattle.permutation.specs.Permutations.{how_many, good_entry, first_bad_entry, tabulate}
use Rattle.permutation.proofs.Permutations.{passes_permutation}
use Rattle.canonical.specs.Rule.{held, half, order_of_half, Canonical}
use Rattle.canonical.proofs.Marks.{lowest}
use Rattle.canonical.proofs.Held.{place_for, seat, mate}
use Rattle.canonical.proofs.Setting.{outputs, setting, canonical_exists}

-- an order, its setting in the paper's wiring, and in the neighbour wiring
pub record Case : Type 0 where
  pub order : List ℕ
  pub in_paper : List ℕ
  pub in_neighbour : List ℕ

abbrev given : List ℕ → List ℕ → List ℕ → Case
given o p q = record { order = o; in_paper = p; in_neighbour = q }

abbrev pub a : Case
a = given [] [] []

abbrev pub b : Case
b = given (0 ∷ []) [] []

abbrev pub c : Case
c = given (1 ∷ 0 ∷ []) (1 ∷ []) (1 ∷ [])

abbrev pub d : Case
d = given (1 ∷ 2 ∷ 0 ∷ []) (0 ∷ 1 ∷ 1 ∷ []) (1 ∷ 1 ∷ 0 ∷ [])

abbrev pub e : Case
e = given (1 ∷ 3 ∷ 0 ∷ 2 ∷ []) (1 ∷ 0 ∷ 1 ∷ 0 ∷ 1 ∷ []) (1 ∷ 1 ∷ 0 ∷ 0 ∷ 1 ∷ [])

abbrev pub f : Case
f = given (1 ∷ 2 ∷ 3 ∷ 4 ∷ 0 ∷ []) (0 ∷ 0 ∷ 0 ∷ 1 ∷ 1 ∷ 1 ∷ 1 ∷ 0 ∷ []) (1 ∷ 1 ∷ 1 ∷ 1 ∷ 0 ∷ 0 ∷ 0 ∷ 0 ∷ [])

abbrev pub g : Case
g =
    given
    (6 ∷ 2 ∷ 3 ∷ 7 ∷ 5 ∷ 1 ∷ 8 ∷ 0 ∷ 4 ∷ [])
    (0 ∷ 0 ∷ 0 ∷ 1 ∷ 0 ∷ 0 ∷ 0 ∷ 1 ∷ 1 ∷ 1 ∷ 1 ∷ 0 ∷ 1 ∷ 0 ∷ 1 ∷ 0 ∷ 1 ∷ 1 ∷ 1 ∷ 0 ∷ 0 ∷ [])
    (0 ∷ 0 ∷ 1 ∷ 0 ∷ 1 ∷ 1 ∷ 1 ∷ 1 ∷ 1 ∷ 1 ∷ 1 ∷ 0 ∷ 0 ∷ 0 ∷ 1 ∷ 1 ∷ 0 ∷ 1 ∷ 1 ∷ 0 ∷ 0 ∷ [])

-- pairs 0 and 1 form a ring without the last pair: the lower has bit 0, so the other has 1. Cases a to g pass also where the
-- highest pair of each ring has bit 0; this one does not in the paper's wiring, and the next does not in the neighbour wiring
abbrev pub lowest_told : Case
lowest_told = given (0 ∷ 3 ∷ 2 ∷ 1 ∷ 4 ∷ []) (0 ∷ 1 ∷ 0 ∷ 0 ∷ 0 ∷ 1 ∷ 0 ∷ 1 ∷ []) (0 ∷ 0 ∷ 0 ∷ 0 ∷ 0 ∷ 1 ∷ 0 ∷ 0 ∷ [])

abbrev pub lowest_told_neighbour : Case
lowest_told_neighbour = given (0 ∷ 2 ∷ 1 ∷ 3 ∷ 4 ∷ []) (0 ∷ 0 ∷ 1 ∷ 1 ∷ 1 ∷ 0 ∷ 0 ∷ 0 ∷ []) (0 ∷ 1 ∷ 0 ∷ 0 ∷ 0 ∷ 1 ∷ 0 ∷ 1 ∷ [])

abbrev pub cases : List Case
cases = a ∷ b ∷ c ∷ d ∷ e ∷ f ∷ g ∷ lowest_told ∷ lowest_told_neighbour ∷ []

-- the bits of each case are the canonical setting of its order
abbrev pub Holds : Wiring → (Case → List ℕ) → List Case → Type 0
Holds w bits [] = Unit {0}
Holds w bits (x ∷ xs) = Canonical w (network (length x.order)) x.order (bits x) × Holds w bits xs

abbrev entries_good : Case → ℕ
entries_good x = first_bad_entry x.order

abbrev places : Case → ℕ
places x = length x.order

abbrev found : Wiring → Case → List ℕ
found w x = setting w (network (length x.order)) x.order

hold : {w : Wiring} → Lawful w → (bits : Case → List ℕ) (xs : List Case)
    → map entries_good xs ≡ map places xs → map (found w) xs ≡ map bits xs → Holds w bits xs
hold L bits [] p q = tt
hold {w} L bits (x ∷ xs) p q =
    let good : first_bad_entry x.order ≡ length x.order = cc in
    let set : setting w (network (length x.order)) x.order ≡ bits x = cc in (
      subst (Canonical w (network (length x.order)) x.order) set
          (canonical_exists L (length x.order) x.order (passes_permutation x.order good)),
      hold L bits xs (cc) (cc),
    )

pub paper_holds : Holds paper (λ x. x.in_paper) cases
unfolding first_bad_from how_many good_entry network network_in tabulate held half order_of_half lowest place_for seat mate outputs setting
paper_holds = hold paper_lawful (λ x. x.in_paper) cases refl refl

pub neighbour_holds : Holds neighbour (λ x. x.in_neighbour) cases
unfolding first_bad_from how_many good_entry network network_in tabulate held half order_of_half lowest place_for seat mate outputs setting
neighbour_holds = hold neighbour_lawful (λ x. x.in_neighbour) cases refl refl

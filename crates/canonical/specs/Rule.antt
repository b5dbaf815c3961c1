-- The canonical setting of an order (01, 'The house setting'): a relation between a network, an order and bits. It says
-- which setting is meant, and not how to find it. Assumes nothing: these are definitions.
use Rattle.std.specs.Prelude.{◌≡◌, ◌≢◌, Bool, true, false, not, cond, List, [], ◌++◌, ℕ, ◌-◌, ◌≤◌, ◌<◌, eqb, length, get_or}
use Rattle.bits.specs.Bits.{Bits}
use Rattle.counts.specs.Counts.{up}
use Rattle.network.specs.Wiring.{Wiring, Side}
use Rattle.network.specs.Network.{Network, wires, split, network, down}
use Rattle.permutation.specs.Permutations.{tabulate}

-- Places and values of a network of k pairs are named alike, by their pair and side. The value that place p holds: for an
-- odd size the last place is imagined, stands past the end of the order, and holds the value of its own number.
unfoldable pub held : Wiring → ℕ → List ℕ → Side → Side
held w k o p = w.dec k (get_or o (w.enc k p) (w.enc k p))

-- The half that the item at place p enters, false for the top: its side, turned over where the bit of its pair is 1. The
-- last pair has no input switch; it stands past the end of the input bits and counts as bit 0.
unfoldable pub half : List ℕ → Side → Bool
half input p = cond (eqb (get_or input p.0 0) 1) (not p.1) p.1

-- places p and q hold associates: the two values of one pair
pub record HoldAssociates (w : Wiring) (k : ℕ) (o : List ℕ) (p q : Side) : Type 0 where
  pub first_below : p.0 < k
  pub second_below : q.0 < k
  pub one_pair : (held w k o p).0 ≡ (held w k o q).0
  pub two_sides : (held w k o p).1 ≢ (held w k o q).1

-- associates always enter different halves
unfoldable pub Apart : Wiring → ℕ → List ℕ → List ℕ → Type 0
Apart w k o input = (p q : Side) → HoldAssociates w k o p q → half input p ≢ half input q

-- two pairs are linked when they hold associates
unfoldable pub Linked : Wiring → ℕ → List ℕ → ℕ → ℕ → Type 0
Linked w k o i j = (s : Bool) × (t : Bool) × HoldAssociates w k o (i, s) (j, t)

-- linked pairs form rings: j is in the ring of i
pub data Ring (w : Wiring) (k : ℕ) (o : List ℕ) : ℕ → ℕ → Type 0 where
  here : {i : ℕ} → Ring w k o i i
  link : {i h j : ℕ} → Linked w k o i h → Ring w k o h j → Ring w k o i j

-- the house rule: in each ring without the last pair the lowest pair has bit 0
unfoldable pub LowestStraight : Wiring → ℕ → List ℕ → List ℕ → Type 0
LowestStraight w k o input =
    (i : ℕ)
    → i < k
    → ¬ (Ring w k o i (k - 1))
    → ((j : ℕ) → Ring w k o i j → i ≤ j)
    → get_or input i 0 ≡ 0

-- the output switches finish the work: output bit j is 1 exactly where the value (j, true) comes out of the top
unfoldable pub Finished : Wiring → ℕ → List ℕ → List ℕ → List ℕ → Type 0
Finished w m o input output =
    (j : ℕ)
    → j < down m
    → (p : Side)
    → p.0 < up m
    → held w (up m) o p ≡ (j, true)
    → get_or output j 0 ≡ cond (half input p) 0 1

-- The order of one half (t false: the top) of c places. The item that enters the half at place i comes from that place of
-- pair i whose half it is, and has to leave it at the place of its value's pair.
unfoldable pub order_of_half : Wiring → ℕ → List ℕ → List ℕ → Bool → ℕ → List ℕ
order_of_half w k o input t c = tabulate (λ i. (held w k o (i, half input (i, t))).0) c

-- what the input and the output bits of one network have to be
pub record Settled (w : Wiring) (m : ℕ) (o input output : List ℕ) : Type 0 where
  pub input_count : length input ≡ up m - 1
  pub output_count : length output ≡ down m
  pub input_are_bits : Bits input
  pub apart : Apart w (up m) o input
  pub lowest_straight : LowestStraight w (up m) o input
  pub finished : Finished w m o input output

-- the bits of a network in their sequence: input, top, bottom, output; the halves settle their own orders
pub record SettledWith (w : Wiring) (m : ℕ) (Top Bottom : List ℕ → List ℕ → Type 0) (o bits : List ℕ) : Type 0 where
  pub input : List ℕ
  pub top : List ℕ
  pub bottom : List ℕ
  pub output : List ℕ
  pub in_sequence : bits ≡ input ++ (top ++ (bottom ++ output))
  pub settled : Settled w m o input output
  pub in_top : Top (order_of_half w (up m) o input false (up m)) top
  pub in_bottom : Bottom (order_of_half w (up m) o input true (down m)) bottom

-- The bits are the canonical setting of the order (01: the house setting). In a network of 2 places there is one pair, the
-- last: so the rule asks nothing more of it than to carry.
unfoldable pub Canonical : Wiring → Network → List ℕ → List ℕ → Type 0
Canonical w wires o bits = bits ≡ []
Canonical w (split m top bottom) o bits = SettledWith w m (Canonical w top) (Canonical w bottom) o bits

-- exactly one setting of an order obeys the rule
pub record ExactlyOne (w : Wiring) (n : ℕ) (o : List ℕ) : Type 0 where
  pub setting : List ℕ
  pub canonical : Canonical w (network n) o setting
  pub only : (bits : List ℕ) → Canonical w (network n) o bits → bits ≡ setting

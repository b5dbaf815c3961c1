-- A wiring: how the places of a network fall into pairs, and the pairs' places into the halves (01, 'The network'; 001, Figure 2;
-- 02, F-6).
-- Assumes nothing: these are definitions.
use Rattle.std.specs.Prelude.{◌≡◌, Bool, true, false, cond, ℕ, suc, ◌+◌, ◌-◌, ◌*◌, ◌/◌, ◌%◌, ◌<◌, ltb, eqb}

-- a side of a pair: the pair, and false for the place that feeds the top when its switch is straight, true for the other
abbrev pub Side : Type 0
Side = ℕ × Bool

-- the places of a network of k pairs, numbered from 0: the place of a side, and the side of a place
pub record Wiring : Type 0 where
  pub enc : ℕ → Side → ℕ
  pub dec : ℕ → ℕ → Side

-- the paper's wiring: places i and k + i are pair i; straight, the lower place feeds the top
abbrev pub paper : Wiring
paper = record { enc = λ k p. cond p.1 (k + p.0) p.0; dec = λ k q. cond (ltb q k) (q, false) (q - k, true) }

-- 02, F-6: neighbour wiring, the partner's: places 2i and 2i + 1 are pair i; straight, the even place feeds the top
abbrev pub neighbour : Wiring
neighbour = record { enc = λ k p. p.0 * 2 + cond p.1 1 0; dec = λ k q. (q / 2, eqb (q % 2) 1) }

-- what every proof asks of a wiring: the two numberings undo each other, and the last place is the last pair's other side
-- (for an odd size that place is imagined)
pub record Lawful (w : Wiring) : Type 0 where
  pub enc< : (k : ℕ) (p : Side) → p.0 < k → w.enc k p < k + k
  pub dec< : (k q : ℕ) → q < k + k → (w.dec k q).0 < k
  pub enc_dec : (k q : ℕ) → q < k + k → w.enc k (w.dec k q) ≡ q
  pub dec_enc : (k : ℕ) (p : Side) → p.0 < k → w.dec k (w.enc k p) ≡ p
  pub enc_last : (j : ℕ) → w.enc (suc j) (j, true) ≡ j + suc j

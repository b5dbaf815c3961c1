-- The setter's six steps, as 01 numbers them, over a wiring ('Steps of the setter, and the log').
-- Assumes nothing: these are definitions.
use Rattle.std.specs.Prelude.{Bool, false, not, cond, ℕ, zero, suc, ◌+◌, ◌-◌, ◌*◌, ◌/◌, ◌%◌, ltb, eqb, get_or}
use Rattle.counts.specs.Counts.{up}
use Rattle.network.specs.Wiring.{Side, Wiring}
use Rattle.steps.specs.Sweeps.{look, seek, store, each, act, none_marked, lowest_unmarked}
use Rattle.steps.specs.State.{State, Subnetwork, output_bit}

-- the other place of a place's pair; of values, the associate
abbrev pub other : Wiring → ℕ → ℕ → ℕ
other w k q = w.enc k ((w.dec k q).0, not (w.dec k q).1)

abbrev pub digit : Bool → ℕ
digit b = cond b 1 0

module _ (w : Wiring) (N : Subnetwork) where
  -- where the sides of the network's pairs lie
  abbrev pub sides : Side → ℕ
  sides p = N.place (w.enc (up N.size) p)

  -- 1. If no pair is marked, f = c = k−1. Then g is the value at f. (k−1 is the last pair's place that feeds the top.)
  unfoldable pub step1 : State → State
  step1 x =
      let k = up N.size in
      let none = none_marked x.marks k in
      let f = cond none (w.enc k (k - 1, false)) x.f in
      record {
        values = x.values;
        trails = x.trails;
        marks = x.marks;
        bits = x.bits;
        f = f;
        c = cond none (w.enc k (k - 1, false)) x.c;
        g = look N.place N.size x.values f;
        s = x.s;
      }

  -- 2. s is the place that holds g's associate.
  unfoldable pub step2 : State → State
  step2 x =
      record {
        values = x.values;
        trails = x.trails;
        marks = x.marks;
        bits = x.bits;
        f = x.f;
        c = x.c;
        g = x.g;
        s = seek N.place N.size x.values (other w (up N.size) x.g);
      }

  -- 3. If s's pair has an input switch, its bit is 1 where s is below k, else 0. The pair is marked and f is the other place of it.
  -- If f = c and a pair is unmarked, f = c = the lower place of the lowest unmarked pair. (Below k: s would feed the top if straight.)
  unfoldable pub step3 : State → State
  step3 x =
      let k = up N.size in
      let pair = (w.dec k x.s).0 in
      let marks = store (λ i. i) k pair 1 x.marks in
      let low = lowest_unmarked marks k in
      let f = other w k x.s in
      let again = cond (eqb f x.c) (ltb low k) false in
      record {
        values = x.values;
        trails = x.trails;
        marks = marks;
        bits = store (λ i. N.bit + i) (k - 1) pair (digit (not (w.dec k x.s).1)) x.bits;
        f = cond again (w.enc k (low, false)) f;
        c = cond again (w.enc k (low, false)) x.c;
        g = x.g;
        s = x.s;
      }

  -- 4. The input switches act on the table and all marks are cleared.
  unfoldable pub step4 : State → State
  step4 x =
      let k = up N.size in
      record {
        values = act sides x.bits N.bit (k - 1) x.values;
        trails = act sides x.bits N.bit (k - 1) x.trails;
        marks = each (λ i. i) k (λ i mark. 0) x.marks;
        bits = x.bits;
        f = x.f;
        c = x.c;
        g = x.g;
        s = x.s;
      }

  -- 5. Each value of k or more loses k and gains 1 on its trail; each other gains 0. (A value keeps its pair; its trail gains the side.)
  unfoldable pub step5 : State → State
  step5 x =
      let k = up N.size in
      record {
        values = each N.place N.size (λ i v. (w.dec k v).0) x.values;
        trails = each N.place N.size (λ i t. t * 2 + digit (w.dec k (get_or x.values (N.place i) 0)).1) x.trails;
        marks = x.marks;
        bits = x.bits;
        f = x.f;
        c = x.c;
        g = x.g;
        s = x.s;
      }

  -- 6. For i = 0 to m−k−1, output bit i is the last trail bit at o+i, and the switches act.
  -- Then every trail loses its last bit and the value regains k where that bit was 1. (o+i: the place of pair i that comes from the top.)
  unfoldable pub step6 : State → State
  step6 x =
      let k = up N.size in
      let h = N.size - k in
      let bits = each (λ i. output_bit N + i) h (λ i bit. get_or x.trails (sides (i, false)) 0 % 2) x.bits in
      let values = act sides bits (output_bit N) h x.values in
      let trails = act sides bits (output_bit N) h x.trails in
      record {
        values = each N.place N.size (λ i v. w.enc k (v, eqb (get_or trails (N.place i) 0 % 2) 1)) values;
        trails = each N.place N.size (λ i t. t / 2) trails;
        marks = x.marks;
        bits = bits;
        f = x.f;
        c = x.c;
        g = x.g;
        s = x.s;
      }

  -- the step of a kind; there is no other
  abbrev pub step : ℕ → State → State
  step zero x = x
  step (suc zero) x = step1 x
  step (suc (suc zero)) x = step2 x
  step (suc (suc (suc zero))) x = step3 x
  step (suc (suc (suc (suc zero)))) x = step4 x
  step (suc (suc (suc (suc (suc zero))))) x = step5 x
  step (suc (suc (suc (suc (suc (suc zero)))))) x = step6 x
  step (suc (suc (suc (suc (suc (suc (suc _))))))) x = x

-- What the functions of the setter's recursion ask of their callers.
-- Assumes nothing: these are definitions.
use Rattle.std.specs.Prelude.{ℕ, ◌+◌, ◌-◌, ◌*◌, ◌≤◌, ◌<◌, List, length, get_or, replicate}
use Rattle.counts.specs.Counts.{W, E}
use Rattle.network.specs.Log.{entry_words}
use Rattle.steps.specs.State.{State}
use Rattle.wirings.specs.declared.Net.{Net}
use Rattle.control_sweeps.specs.Tables.{Below, Covers}
use Rattle.control_walk.specs.declared.Walk.{Walk}
use Rattle.control_walk.specs.Walks.{state}

-- the state that the tables and a walk are where none of j pairs is marked
abbrev pub unmarked : ℕ → List ℕ → List ℕ → List ℕ → Walk → State
unmarked j values trails bits w = state values trails (replicate j 0) bits w

-- the tables, the bits and the log have room for the network
pub record Room (net : Net) (w : Walk) (values trails bits log : List ℕ) : Type 0 where
  pub values_room : Covers net values
  pub trails_room : Covers net trails
  pub bits_room : w.b + W net.size ≤ length bits
  pub few : w.b + W net.size ≤ 9217
  pub log_room : entry_words * (w.e + E net.size) ≤ length log

-- bits are 0 or 1, and the walk's numbers are small, so that no sum of 16 bits overflows
pub record TidyIn (bits : List ℕ) (f c g s : ℕ) : Type 0 where
  pub bits_below : Below 2 bits
  pub f_below : f < 32768
  pub c_below : c < 32768
  pub g_below : g < 32768
  pub s_below : s < 32768

-- those of a state
abbrev pub Tidy : State → Type 0
Tidy x = TidyIn x.bits x.f x.c x.g x.s

-- and trails are short: a network of m places can lengthen each of those of its places
unfoldable pub Lengthens : (ℕ → ℕ) → ℕ → List ℕ → Type 0
Lengthens place m trails = (i : ℕ) → i < m → (get_or trails (place i) 0 + 1) * (m - 1) ≤ 1023

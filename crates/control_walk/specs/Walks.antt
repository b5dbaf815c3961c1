-- The state that a walk belongs to, and how it goes on.
-- Assumes nothing: these are definitions.
use Rattle.std.specs.Prelude.{◌≡◌, List, ℕ, ◌+◌, ◌*◌, length}
use Rattle.answers.specs.Buffers.{overlay}
use Rattle.network.specs.Log.{Entry, entry_words, words}
use Rattle.steps.specs.State.{State, Subnetwork}
use Rattle.wirings.specs.declared.Net.{Net}
use Rattle.wirings.specs.Nets.{place_of}
use Rattle.control_walk.specs.declared.Walk.{Walk}

-- the state that the tables and a walk are
abbrev pub state : List ℕ → List ℕ → List ℕ → List ℕ → Walk → State
state values trails marks bits w =
    record { values = values; trails = trails; marks = marks; bits = bits; f = w.f; c = w.c; g = w.g; s = w.s }

-- the network of m places that lie as `place` says, whose bits begin at `bit`
abbrev pub lying : (ℕ → ℕ) → ℕ → ℕ → Subnetwork
lying place m bit = record { place = place; size = m; bit = bit }

-- that of the places of `net`
abbrev pub subnetwork_of : Net → ℕ → Subnetwork
subnetwork_of net bit = lying (place_of net) net.size bit

-- the entries were written behind those before, and the walk went on by them and by n bits
pub record Went (entries : List Entry) (n : ℕ) (w r : Walk) (before after : List ℕ) : Type 0 where
  pub count : r.e ≡ w.e + length entries
  pub bit : r.b ≡ w.b + n
  pub log : after ≡ overlay before (entry_words * w.e) (words entries)

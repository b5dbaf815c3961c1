-- 02, F-7: each entry names the position of its bits, and so a log is replayed from the middle by the words that follow.
-- Assumes nothing: these are definitions.
use Rattle.std.specs.Prelude.{◌≡◌, ℕ, ◌-◌, ◌*◌, ◌<◌, take, drop}
use Rattle.counts.specs.Counts.{W}
use Rattle.network.specs.Network.{network}
use Rattle.network.specs.Log.{Entry, entry_words, entries, entry_at}
use Rattle.steps.specs.Run.{subnetworks, Of}
use Rattle.wirings.specs.declared.Topology.{Topology}
use Rattle.wirings.specs.Nets.{wiring_of}
use Rattle.claims.specs.Calls.{mixing, returning, Call, Kind, setting}
use Rattle.claims.specs.Calls.{moving, ranking, described, outcome_of, wiring_of_call, count_of, written}

-- an entry of the setter for n places: it is of a network within these, and has the position of that network's first bit
abbrev pub OfNetwork : Topology → ℕ → Entry → Type 0
OfNetwork t n x = Of (subnetworks (wiring_of t) (network n) (λ i. i) 0) x

-- what entry number e of a call for n places has to have as its position: of mix and return that of its own bit
abbrev pub Positioned : Topology → Kind → (n e : ℕ) → Entry → Type 0
Positioned t setting n e x = OfNetwork t n x
Positioned t (moving mixing) n e x = x.bit ≡ e
Positioned t (moving returning) n e x = x.bit ≡ W n - 1 - e
Positioned t ranking n e x = OfNetwork t n x

-- what holds of the whole log of one accepted call
pub record FromTheMiddle (c : Call) : Type 0 where
  -- the position of each entry
  pub positions : (e : ℕ) → e < count_of c
      → Positioned (wiring_of_call c) (described c).kind (described c).places e (entry_at (written c) e)
  -- the log cut behind its first i entries: running what follows on what these leave is running the whole. That holds of any running
  -- that goes entry by entry; that what follows names its own bits is `positions`, and that running reads them there `Logs.replays`
  pub goes_on : (i : ℕ)
      → (described c).act (entries (drop (entry_words * i) (written c)))
      ((described c).act (entries (take (entry_words * i) (written c))) (described c).begun)
      ≡ (described c).act (entries (written c)) (described c).begun
  -- and leaves what the call left
  pub ends : (i : ℕ)
      → (described c).end
      ((described c).act (entries (drop (entry_words * i) (written c)))
      ((described c).act (entries (take (entry_words * i) (written c))) (described c).begun))
      ≡ (outcome_of c).buffer

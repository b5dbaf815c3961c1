-- The access log of mixing and returning, and running it (01, 'Steps of the setter, and the log', 'Running a log').
-- Assumes nothing: these are definitions.
use Rattle.std.specs.Prelude.{true, false, cond, List, [], ◌∷◌, ◌++◌, reverse, ℕ, zero, suc, ◌+◌, ◌-◌, ◌*◌, eqb, get_or}
use Rattle.counts.specs.Counts.{up}
use Rattle.network.specs.Wiring.{Wiring, Side}
use Rattle.network.specs.Network.{Network, wires, split, network, switch_count, down}
use Rattle.network.specs.Move.{switch}

-- an entry: its kind, two numbers (of kind 7: the lower and the upper place of a switch, counted in the whole network), and a
-- position in the setting (02, F-7): of kind 7 that of its own bit, of the setter's kinds that of its network's first bit
pub record Entry : Type 0 where
  pub kind : ℕ
  pub first : ℕ
  pub second : ℕ
  pub bit : ℕ

abbrev pub entry : ℕ → ℕ → ℕ → ℕ → Entry
entry kind first second bit = record { kind = kind; first = first; second = second; bit = bit }

-- how many words an entry has
abbrev pub entry_words : ℕ
entry_words = 4

-- entries as words, and words read as entries, what is left over at the end being none
unfoldable pub words : List Entry → List ℕ
words [] = []
words (e ∷ es) = e.kind ∷ e.first ∷ e.second ∷ e.bit ∷ words es

unfoldable pub entries : List ℕ → List Entry
entries [] = []
entries (a ∷ []) = []
entries (a ∷ b ∷ []) = []
entries (a ∷ b ∷ c ∷ []) = []
entries (a ∷ b ∷ c ∷ d ∷ rest) = entry a b c d ∷ entries rest

-- what stands for an entry past the end of some: no call writes it
abbrev pub none_such : Entry
none_such = entry 0 0 0 0

-- one entry of them, number e
abbrev pub entry_at : List ℕ → ℕ → Entry
entry_at log e =
    let at = entry_words * e in
    entry (get_or log at 0) (get_or log (at + 1) 0) (get_or log (at + 2) 0) (get_or log (at + 3) 0)

-- the first c switches of a layer whose bits begin at b: pair i at the places that `place` gives its two sides
unfoldable pub layer_entries : (Side → ℕ) → ℕ → ℕ → List Entry
layer_entries place b zero = []
layer_entries place b (suc i) = layer_entries place b i ++ (entry 7 (place (i, false)) (place (i, true)) (b + i) ∷ [])

module _ (w : Wiring) where
  -- all switches of a network in the sequence of their bits, which begin at b; its places lie where `place` says
  unfoldable pub switches : Network → (ℕ → ℕ) → ℕ → List Entry
  switches wires place b = []
  switches (split m top bottom) place b =
      let at : Side → ℕ = λ p. place (w.enc (up m) p) in
      let below = b + ((up m - 1) + switch_count top) in
      layer_entries at b (up m - 1)
      ++ (switches top (λ i. at (i, false)) (b + (up m - 1))
      ++ (switches bottom (λ i. at (i, true)) below
      ++ layer_entries at (below + switch_count bottom) (down m)))

  -- the entries of mixing n blocks, and of returning them: the same list backwards
  unfoldable pub apply_entries : ℕ → List Entry
  apply_entries n = switches (network n) (λ i. i) 0

  unfoldable pub inverse_entries : ℕ → List Entry
  inverse_entries n = reverse (apply_entries n)

module _ {A : Type 0} (d : A) where
  -- an entry of kind 7 exchanges the items at its two places where the bit at its position is 1; no call that moves blocks writes
  -- another kind
  unfoldable pub run_entry : List ℕ → Entry → List A → List A
  run_entry bits e xs = cond (eqb e.kind 7) (switch d e.first e.second (get_or bits e.bit 0) xs) xs

  -- entries one after the other, each by its own words: a log of mixing, or of returning, or the rest of one
  unfoldable pub run : List ℕ → List Entry → List A → List A
  run bits [] xs = xs
  run bits (e ∷ es) xs = run bits es (run_entry bits e xs)

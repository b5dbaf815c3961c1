-- From the run of the whole network to what a call comes to, in each wiring.
-- Assumes nothing.
use mathlib.Core.Path.{◌≡◌, sym, ap, ◌∙◌, fun_ext}
use mathlib.Core.List.{List, [], reverse}
use Prim.Native.Nat.{ℕ, ◌+◌, ◌*◌, ◌≤◌}
use native.Mathlib.Nat.{zero-add}
use native.Mathlib.Omega.{arith}
use lib.ListN.{length}
use Rattle.answers.specs.declared.Answer.{Answer}
use Rattle.answers.specs.Answers.{accepted}
use Rattle.answers.specs.Questions.{Verdict, all_yes, first_no}
use Rattle.answers.specs.Buffers.{overlay}
use Rattle.answers.specs.Outcomes.{answer_of, logged, settled_logged}
use Rattle.answers.proofs.Buffers.{overlay_whole}
use Rattle.answers.proofs.Outcomes.{logged-accepted}
use Rattle.counts.specs.Counts.{W}
use Rattle.counts.proofs.Most.{switches_few}
use Rattle.network.specs.Network.{network}
use Rattle.network.specs.Move.{forward, backward}
use Rattle.network.specs.Blocks.{cut, bytes_of, moved, moved_back}
use Rattle.network.specs.Log.{Entry, words, switches, apply_entries, inverse_entries, run}
use Rattle.network.proofs.Blocks.{length_cut, bytes_cut}
use Rattle.network.proofs.Run.{run_apply}
use Rattle.network.proofs.RunBack.{run_inverse}
use Rattle.network.proofs.Shift.{shifted_none}
use Rattle.wirings.specs.declared.Topology.{Topology}
use Rattle.wirings.specs.Nets.{wiring_of, whole_of, Inside}
use Rattle.wirings.proofs.Halves.{lawful}
use Rattle.apply_layers.specs.Ran.{blocks_in, Lent, Ran, back_from, switches_of}
use Rattle.apply_layers.proofs.Runs.{many}
use Rattle.apply_questions.specs.Questions.{apply_questions}
use Rattle.apply.specs.Calls.{apply_call_in, inverse_call_in}
use Rattle.apply_questions.proofs.Asked.{Fits, passes, asked_well}

-- the switches of the whole are all entries
all_switches : (t : Topology) (n : ℕ) → switches_of (whole_of t n) 0 ≡ apply_entries (wiring_of t) n
unfolding apply_entries
all_switches t n =
    ap (λ (place : ℕ → ℕ). switches (wiring_of t) (network n) place 0) (fun_ext (λ i. let e : i * 1 ≡ i = omega arith in e))

-- every question got a yes, and all entries of n places were run: what they leave is `after`
settles : (n width : ℕ) {b l b' l' : List ℕ} {bits : List ℕ} {es : List Entry} {count : ℕ} {a : Answer} (v : Verdict)
    (after : List (List ℕ)) → v ≡ all_yes
    → a ≡ accepted count → count ≡ W n → 1 ≤ width → length b ≡ n * width → length b' ≡ length b → run [] bits es (cut width n b) ≡
    after
    → Ran width bits es 0 0 b l b' l' → logged a b' l' ≡ settled_logged v (W n) (bytes_of after) b (words es) l
settles n width {b} {l} {b'} {l'} {bits} {es} v after asked told all low filled kept is ran =
    let left : cut width n b' ≡ run [] bits es (cut width n b) = rw (many n width b low filled) at ran.blocks in
    let bytes : bytes_of after ≡ b' = ap bytes_of (sym (left ∙ is)) ∙ bytes_cut width n b' (kept ∙ filled) in
    logged-accepted v (W n) (bytes_of after) b (words es) l
    asked (told ∙ ap accepted all)
    (sym bytes ∙ sym (overlay_whole b (bytes_of after) (ap length bytes ∙ kept)))
    (ran.logged ∙ ap (λ t. overlay l 0 (words t)) (shifted_none es))

module _ (t : Topology) (n width : ℕ) (b bits l : List ℕ) where
  abbrev verdict : Verdict
  verdict = first_no (apply_questions n width (length b) bits (length l))

  -- the questions were asked, and passed
  module _ (told : accepted 0 ≡ answer_of verdict 0) where
    well : verdict ≡ all_yes
    well = asked_well n width (length b) bits (length l) 0 (sym (ap (λ a. a.number) told))

    fits : Fits n width (length b) bits (length l)
    fits = passes n width (length b) bits (length l) well

    pub lent : Lent width 0 (W n) 0 b bits l × Inside (0 + blocks_in width b) (whole_of t n)
    lent =
        let f = fits in
        let all = many n width b f.low f.whole in (
          record {
            places = rw all (omega arith);
            wide = f.low;
            narrow = f.high;
            whole = rw all (sym f.whole);
            enough = omega arith;
            room = omega arith;
            short = omega (arith, switches_few n f.places);
            settings = f.settings;
          },
          rw all (record { apart = omega arith; lies = λ i h. omega arith }),
        )

    module _ {b' l' : List ℕ} {count : ℕ} {a : Answer} (reports : a ≡ accepted count) (counted : count ≡ 0 + W n)
        (kept : length b' ≡ length b) where
      pub apply_settles : Ran width bits (switches_of (whole_of t n) 0) 0 0 b l b' l'
          → logged a b' l' ≡ apply_call_in (wiring_of t) n width b bits l
      unfolding moved
      apply_settles ran =
          let f = fits in
          settles n width verdict (forward [] (wiring_of t) (network n) bits (cut width n b)) well reports (counted ∙ zero-add (W n))
          f.low
          f.whole kept
          (run_apply [] (lawful t) n bits (cut width n b) (length_cut width n b)) (rw (all_switches t n) at ran)

      pub inverse_settles : Ran width bits (reverse (switches_of (whole_of t n) (back_from bits 0 (W n)))) 0 0 b l b' l'
          → logged a b' l' ≡ inverse_call_in (wiring_of t) n width b bits l
      unfolding moved_back inverse_entries
      inverse_settles ran =
          let f = fits in
          let all : back_from bits 0 (W n) ≡ 0 = omega (arith, f.count) in
          settles n width verdict (backward [] (wiring_of t) (network n) bits (cut width n b)) well reports (counted ∙ zero-add (W n))
          f.low
          f.whole kept
          (run_inverse [] (lawful t) n bits (cut width n b) (length_cut width n b)) (rw (all, all_switches t n) at ran)

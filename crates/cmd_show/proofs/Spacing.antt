-- The lines, part by part.
-- Assumes nothing.
use mathlib.Core.Path.{◌≡◌, refl, sym, ap, ◌∙◌}
use mathlib.Core.List.{List, [], ◌∷◌, ◌++◌, append_assoc, append-nil}
use Prim.Native.Nat.{ℕ, ◌+◌, ◌*◌, ◌≤◌, ◌<◌}
use native.Mathlib.Numerals.{add-one}
use native.Mathlib.Omega.{arith}
use borrow.Author.Tests.{le-leb, lt-leb}
use lib.ListN.{length, get_or, take}
use lib.Seq.{take-suc, take_all}
use Rattle.answers.specs.Buffers.{Put}
use Rattle.answers.proofs.Putting.{put_none, put_then}
use Rattle.cmd_text.specs.Text.{text, decimal}
use Rattle.cmd_text.proofs.Decimal.{digits_few}
use Rattle.cmd_picture.specs.Picture.{picture}
use Rattle.cmd_show.specs.Show.{spaced, order_text, pictured}

-- ---- one entry

pub entry_few : (v : ℕ) → v < 65536 → length (decimal v) ≤ 5
entry_few v h = digits_few 4 v (let z : v < 100000 = omega arith in z)

-- ---- all entries

spaced_more : (vs : List ℕ) (v : ℕ) → spaced (vs ++ (v ∷ [])) ≡ spaced vs ++ (text " " ++ decimal v)
unfolding spaced
spaced_more [] v = ap (λ l. text " " ++ l) (append-nil (decimal v))
spaced_more (x ∷ vs) v = ap (λ l. text " " ++ (decimal x ++ l)) (spaced_more vs v) ∙ ap (λ l. text " " ++ l) (sym (append_assoc (decimal x) (spaced vs) (text " " ++ decimal v)))

some_order : (vs : List ℕ) → (length vs ≡ 0 → ⊥) → order_text vs ≡ spaced vs
unfolding order_text
some_order [] n = absurd (n refl)
some_order (v ∷ vs) n = refl

-- what the loop of `put_order_text` keeps
pub record Spacing (order before : List ℕ) (at : ℕ) (out : List ℕ) (end j : ℕ) : Type 0 where
  pub within : j ≤ length order
  pub same : length out ≡ length before
  pub room : end ≤ at + 6 * j
  pub put : Put before at (spaced (take j order)) end out

pub spacing_starts : (order before : List ℕ) (at : ℕ) → Spacing order before at before at 0
unfolding spaced
spacing_starts order before at = record { within = omega arith; same = refl; room = omega arith; put = put_none before at }

module _ (order before : List ℕ) (at : ℕ) (space : at + 2 + 6 * length order ≤ length before) {out : List ℕ} {end j : ℕ} (S : Spacing order before at out end j) where
  pub spacing_more :
      {v r : ℕ} {after : List ℕ}
      → j < length order
      → v ≡ get_or order j 0
      → length after ≡ length out
      → Put out end (text " " ++ decimal v) r after × (r ≤ end + 6)
      → Spacing order before at after r (j + 1)
  spacing_more {v} h e n P =
      let more : take (j + 1) order ≡ take j order ++ (v ∷ []) = rw (e, add-one) (take-suc order j 0 h) in
      let all : spaced (take (j + 1) order) ≡ spaced (take j order) ++ (text " " ++ decimal v) = ap spaced more ∙ spaced_more (take j order) v in
      record {
        within = omega arith;
        same = n ∙ S.same;
        room = omega (arith, P.1, S.room);
        put = rw all (put_then (omega (arith, S.put.place, S.room)) S.put P.0);
      }

  pub spacing_ends : (length order ≡ 0 → ⊥) → length order ≤ j → Put before at (order_text order) end out
  spacing_ends some h = rw (some_order order some) (rw (take_all j order h) at S.put)

pub no_order : (order : List ℕ) → length order ≡ 0 → order_text order ≡ text " -"
unfolding order_text
no_order [] e = refl
no_order (v ∷ vs) e = absurd (omega arith)

-- ---- the picture

module _ (n : ℕ) (bits : List ℕ) where
  pub few_places : n < 2 → pictured n bits ≡ []
  unfolding pictured
  few_places h = rw (pictured, lt-leb 2 n h)

  pub many_places : 2 ≤ n → 16 < n → pictured n bits ≡ []
  unfolding pictured
  many_places g h = rw (pictured, le-leb 2 n g, lt-leb n 16 h)

  pub some_places : 2 ≤ n → n ≤ 16 → pictured n bits ≡ picture n bits
  unfolding pictured
  some_places g h = rw (pictured, le-leb 2 n g, le-leb n 16 h)

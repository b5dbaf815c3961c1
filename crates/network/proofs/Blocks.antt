-- Cutting bytes into blocks and putting blocks together undo each other, and both respect block boundaries.
-- Assumes nothing.
use mathlib.Core.Path.{◌≡◌, refl, sym, ap, ◌∙◌}
use mathlib.Core.List.{List, [], ◌∷◌, ◌++◌}
use Prim.Native.Nat.{ℕ, zero, suc, ◌+◌, ◌*◌, ◌≤◌, ◌<◌}
use native.Mathlib.Nat.{suc-mul, zero-mul, zero-add, suc-add, mul-le-mul_right}
use native.Mathlib.Omega.{arith}
use lib.ListN.{length, get_or, take, drop, length-append, length-drop}
use lib.Seq.{take-add, take_all, take_at, take-nil, take-take, take-append-le, drop_at, drop-drop, drop-append-le, length-take-le}
use Rattle.network.specs.Blocks.{cut, bytes_of}

-- every block has the width
abbrev pub Wide : ℕ → List (List ℕ) → Type 0
Wide width bs = (i : ℕ) → i < length bs → length (get_or bs i []) ≡ width

drop_of_take : (n r : ℕ) (l : List ℕ) → drop n (take (n + r) l) ≡ take r (drop n l)
drop_of_take zero r l = rw (zero-add r)
drop_of_take (suc n) r [] = rw (suc-add n r) (sym (take-nil r))
drop_of_take (suc n) r (x ∷ l) = rw (suc-add n r) (drop_of_take n r l)

module _ (width : ℕ) where
  pub length_cut : (n : ℕ) (bytes : List ℕ) → length (cut width n bytes) ≡ n
  unfolding cut
  length_cut zero bytes = refl
  length_cut (suc n) bytes = ap suc (length_cut n (drop width bytes))

  pub length_bytes_of : (bs : List (List ℕ)) → Wide width bs → length (bytes_of bs) ≡ length bs * width
  unfolding bytes_of
  length_bytes_of [] wide = sym (zero-mul width)
  length_bytes_of (b ∷ bs) wide =
      rw (length-append, length_bytes_of bs (λ i h. wide (suc i) (omega arith)), wide zero (omega arith), suc-mul (length bs) width)
      (omega arith)

  bytes_front : (n : ℕ) (bytes : List ℕ) → bytes_of (cut width n bytes) ≡ take (n * width) bytes
  unfolding cut bytes_of
  bytes_front zero bytes = rw zero-mul
  bytes_front (suc n) bytes =
      let more : suc n * width ≡ width + n * width = omega (arith, suc-mul n width) in
      rw (bytes_front n (drop width bytes), more) (sym (take-add width (n * width) bytes))

  pub bytes_cut : (n : ℕ) (bytes : List ℕ) → length bytes ≡ n * width → bytes_of (cut width n bytes) ≡ bytes
  bytes_cut n bytes e = bytes_front n bytes ∙ take_all (n * width) bytes (omega arith)

  pub cut_bytes : (n : ℕ) (bs : List (List ℕ)) → Wide width bs → length bs ≡ n → cut width n (bytes_of bs) ≡ bs
  unfolding cut bytes_of
  cut_bytes zero [] wide e = refl
  cut_bytes (suc n) [] wide e = absurd (omega arith)
  cut_bytes zero (b ∷ bs) wide e = absurd (omega arith)
  cut_bytes (suc n) (b ∷ bs) wide e =
      rw (take_at b (bytes_of bs) width (wide zero (omega arith)), drop_at b (bytes_of bs) width (wide zero (omega arith)))
      (ap (λ (l : List (List ℕ)). b ∷ l) (cut_bytes n bs (λ i h. wide (suc i) (omega arith)) (omega arith)))

  -- block i of the bytes
  pub get_d_cut : (n : ℕ) (bytes : List ℕ) (i : ℕ) → i < n → get_or (cut width n bytes) i [] ≡ take width (drop (i * width) bytes)
  unfolding cut
  get_d_cut zero bytes i h = absurd (omega arith)
  get_d_cut (suc n) bytes zero h = rw (zero-mul width)
  get_d_cut (suc n) bytes (suc i) h =
      let more : suc i * width ≡ width + i * width = omega (arith, suc-mul i width) in
      get_d_cut n (drop width bytes) i (omega arith) ∙ rw (drop-drop (i * width) width bytes, more)

  -- block i ends where the n blocks do, at the latest
  pub block-ends : (n i : ℕ) → i < n → i * width + width ≤ n * width
  block-ends n i h = rw (← suc-mul) (mul-le-mul_right width h)

  pub cut_wide : (n : ℕ) (bytes : List ℕ) → n * width ≤ length bytes → Wide width (cut width n bytes)
  cut_wide n bytes e i h =
      let below : i < n = rw length_cut at h in
      rw (get_d_cut n bytes i below)
      (length-take-le width (drop (i * width) bytes) (rw length-drop (omega (arith, block-ends n i below))))

  pub cut-append : (p q : ℕ) (a b : List ℕ) → length a ≡ p * width → cut width (p + q) (a ++ b) ≡ cut width p a ++ cut width q b
  unfolding cut
  cut-append zero q [] b e = rw (zero-add q)
  cut-append zero q (x ∷ a) b e = absurd (omega (arith, zero-mul width))
  cut-append (suc p) q a b e =
      let size : length a ≡ p * width + width = e ∙ suc-mul p width in
      let more : suc p + q ≡ suc (p + q) = omega arith in
      rw (more, cut, take-append-le width a b (omega arith), drop-append-le width a b (omega arith))
      (ap (λ (l : List (List ℕ)). take width a ∷ l) (cut-append p q (drop width a) b (rw length-drop (omega arith))))

  -- the first p blocks lie in the first p * width bytes
  pub cut_of_take : (p : ℕ) (bytes : List ℕ) → cut width p (take (p * width) bytes) ≡ cut width p bytes
  unfolding cut
  cut_of_take zero bytes = refl
  cut_of_take (suc p) bytes =
      let more : suc p * width ≡ width + p * width = omega (arith, suc-mul p width) in
      rw (more, take-take width (width + p * width) bytes (omega arith), drop_of_take width (p * width) bytes)
      (ap (λ (l : List (List ℕ)). take width bytes ∷ l) (cut_of_take p (drop width bytes)))

  pub take-cut : (p n : ℕ) (bytes : List ℕ) → p ≤ n → take p (cut width n bytes) ≡ cut width p bytes
  unfolding cut
  take-cut zero n bytes h = refl
  take-cut (suc p) zero bytes h = absurd (omega arith)
  take-cut (suc p) (suc n) bytes h = ap (λ (l : List (List ℕ)). take width bytes ∷ l) (take-cut p n (drop width bytes) (omega arith))

  pub drop-cut : (p q : ℕ) (bytes : List ℕ) → drop p (cut width (p + q) bytes) ≡ cut width q (drop (p * width) bytes)
  unfolding cut
  drop-cut zero q bytes = rw (zero-add q, zero-mul width)
  drop-cut (suc p) q bytes =
      let more : suc p * width ≡ width + p * width = omega (arith, suc-mul p width) in
      let one : suc p + q ≡ suc (p + q) = omega arith in
      rw (one, cut, more, ← drop-drop (p * width) width bytes) (drop-cut p q (drop width bytes))

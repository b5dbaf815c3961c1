-- The bytes of a number of bytes, and two parts of bytes switched as numbers.
-- Assumes nothing.
use Rattle.std.proofs.Common.{◌≡◌, ℕ, zero, suc, ◌+◌, ◌*◌, ◌/◌, ◌<◌, ◌≤◌, ◌-◌, w64, List, [], ◌∷◌, ◌++◌, length, take, drop, get_or, refl, ap, ◌∙◌, arith, get_or-drop}
use Rattle.std.specs.Int.{from_le_bytes, to_le_bytes}
use Rattle.exchange_words.specs.Bytes.{bytes_switched}
use Rattle.exchange_words.specs.Words.{number, byte_of, from, written, pick}
use Rattle.std.proofs.lemmas.List.{get_or-append-add, get_or_append_left}
use Rattle.exchange_words.proofs.Written.{taken, Picked, parts_switched}

pub number_byte : (n j : ℕ) (f : ℕ → ℕ) → j < n → ((i : ℕ) → f i < 256) → byte_of j (number n f) ≡ f j
unfolding number byte_of
number_byte zero j f h b = absurd (omega arith)
number_byte (suc n) zero f h b = omega (arith, b 0)
number_byte (suc n) (suc j) f h b =
    let rest : (f 0 + 256 * number n (λ i. f (suc i))) / 256 ≡ number n (λ i. f (suc i)) = omega (arith, b 0) in
    ap (byte_of j) rest ∙ number_byte n j (λ i. f (suc i)) (omega arith) (λ i. b (suc i))

-- ---- eight bytes

-- bytes and zeros behind them
pub number_padded : (n m : ℕ) (f g : ℕ → ℕ) → n ≤ m → ((j : ℕ) → j < n → g j ≡ f j) → ((j : ℕ) → n ≤ j → g j ≡ 0) → number m g ≡ number n f
unfolding number
number_padded zero zero f g h same none = refl
number_padded zero (suc m) f g h same none =
    omega (arith, none 0 (omega arith), number_padded 0 m f (λ j. g (suc j)) (omega arith) (λ j l. absurd (omega arith)) (λ j l. none (suc j) (omega arith)))
number_padded (suc n) zero f g h same none = absurd (omega arith)
number_padded (suc n) (suc m) f g h same none =
    omega (
      arith,
      same 0 (omega arith),
      number_padded n m (λ j. f (suc j)) (λ j. g (suc j)) (omega arith) (λ j l. same (suc j) (omega arith)) (λ j l. none (suc j) (omega arith)),
    )

pub number-le : (bytes : List ℕ) → from_le_bytes w64 bytes ≡ number 8 (λ j. get_or bytes j 0)
unfolding number
number-le bytes = omega arith

pub byte-le : (v j : ℕ) → j < 8 → get_or (to_le_bytes w64 v) j 0 ≡ byte_of j v
unfolding byte_of
byte-le v zero h = omega arith
byte-le v (suc zero) h = omega arith
byte-le v (suc (suc zero)) h = omega arith
byte-le v (suc (suc (suc zero))) h = omega arith
byte-le v (suc (suc (suc (suc zero)))) h = omega arith
byte-le v (suc (suc (suc (suc (suc zero))))) h = omega arith
byte-le v (suc (suc (suc (suc (suc (suc zero)))))) h = omega arith
byte-le v (suc (suc (suc (suc (suc (suc (suc zero))))))) h = omega arith
byte-le v (suc (suc (suc (suc (suc (suc (suc (suc j)))))))) h = absurd (omega arith)

abbrev eight : List ℕ
eight = 0 ∷ 0 ∷ 0 ∷ 0 ∷ 0 ∷ 0 ∷ 0 ∷ 0 ∷ []

zeros : (j : ℕ) → get_or eight j 0 ≡ 0
zeros zero = refl
zeros (suc zero) = refl
zeros (suc (suc zero)) = refl
zeros (suc (suc (suc zero))) = refl
zeros (suc (suc (suc (suc zero)))) = refl
zeros (suc (suc (suc (suc (suc zero))))) = refl
zeros (suc (suc (suc (suc (suc (suc zero)))))) = refl
zeros (suc (suc (suc (suc (suc (suc (suc zero))))))) = refl
zeros (suc (suc (suc (suc (suc (suc (suc (suc j)))))))) = refl

-- n bytes in front of zeros
pub number_behind : (n k at : ℕ) (bytes part : List ℕ) → k ≡ n → n ≤ 8 → at + n ≤ length bytes → part ≡ take k (drop at bytes)
    → from_le_bytes w64 (part ++ drop n eight) ≡ number n (from at bytes)
number_behind n k at bytes part size h fits is =
    let t = taken n k at bytes part size fits is in
    number-le _
    ∙ number_padded n 8 (from at bytes) _ h
    (λ j l. get_or_append_left part _ 0 j (omega (arith, t.long)) ∙ t.here j l)
    (λ j l. ap (λ i. get_or (part ++ drop n eight) i 0) (let e : j ≡ length part + (j - n) = omega (arith, t.long) in e)
    ∙ get_or-append-add part _ (j - n) 0 ∙ get_or-drop n _ (j - n) 0 ∙ zeros (n + (j - n)))

-- ---- two parts as numbers

-- n bytes of two parts are switched where their numbers are
pub numbers_switched : (n a gap s : ℕ) (l : List ℕ) (x y x' y' : ℕ) → s < 2 → n ≤ gap → ((i : ℕ) → get_or l i 0 < 256)
    → x ≡ number n (from a l) → y ≡ number n (from (a + gap) l) → (x' ≡ pick s x y) × (y' ≡ pick s y x)
    → written n a (λ j. byte_of j x') (written n (a + gap) (λ j. byte_of j y') l) ≡ bytes_switched a gap s n l
numbers_switched n a gap s l x y x' y' hs h bytes ex ey p =
    parts_switched n a gap s l (λ j. byte_of j x') (λ j. byte_of j y') hs h (go s hs p)
  where
    byte : (p j : ℕ) → j < n → byte_of j (number n (from p l)) ≡ get_or l (p + j) 0
    byte p j m = number_byte n j (from p l) m (λ i. bytes (p + i))

    go : (s : ℕ) → s < 2 → (x' ≡ pick s x y) × (y' ≡ pick s y x) → (j : ℕ) → j < n
        → Picked s (get_or l (a + j) 0) (get_or l (a + gap + j) 0) (byte_of j x') (byte_of j y')
    go zero k q j m =
        record { lower = ap (byte_of j) (q.0 ∙ ex) ∙ byte a j m; upper = ap (byte_of j) (q.1 ∙ ey) ∙ byte (a + gap) j m }
    go (suc zero) k q j m =
        record { lower = ap (byte_of j) (q.0 ∙ ey) ∙ byte (a + gap) j m; upper = ap (byte_of j) (q.1 ∙ ex) ∙ byte a j m }
    go (suc (suc s)) k q j m = absurd (omega arith)

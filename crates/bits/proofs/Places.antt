-- A row of bytes as a row of bits.
use Rattle.std.proofs.Common.{◌≡◌, ℕ, zero, suc, ◌+◌, ◌-◌, ◌*◌, ◌<◌, Bool, true, false, cond, List, [], ◌∷◌, ◌++◌, length, get_or, set, Some, None, unwrap_or, sym, refl, ap, ◌∙◌, inl, inr, arith}
use Rattle.std.proofs.lemmas.Bool.{cases_lt}
use Rattle.std.proofs.lemmas.Bool.Decides.{nat_tests}
use Rattle.std.proofs.lemmas.List.{get_or_past, set_past, get_or_append_left, get_or-append_right, set-append_left, set-append_right}
use Rattle.bits.specs.Order.{bit_at, with_bit, byte_bits, row_bits, has_place, taken, stored, ChangesItsPlace}

in_byte : (b p : ℕ) → p < 8 → get_or (byte_bits b) p false ≡ bit_at b p
in_byte b zero h = refl
in_byte b (suc zero) h = refl
in_byte b (suc (suc zero)) h = refl
in_byte b (suc (suc (suc zero))) h = refl
in_byte b (suc (suc (suc (suc zero)))) h = refl
in_byte b (suc (suc (suc (suc (suc zero))))) h = refl
in_byte b (suc (suc (suc (suc (suc (suc zero)))))) h = refl
in_byte b (suc (suc (suc (suc (suc (suc (suc zero))))))) h = refl
in_byte b (suc (suc (suc (suc (suc (suc (suc (suc p)))))))) h = absurd (omega arith)

pub row_at : (bs : List ℕ) (i p : ℕ) → i < length bs → p < 8 → get_or (row_bits bs) (8 * i + p) false ≡ bit_at (get_or bs i 0) p
row_at [] i p h k = absurd (omega arith)
row_at (b ∷ bs) zero p h k =
    let at : 8 * zero + p ≡ p = omega arith in
    ap (λ (n : ℕ). get_or (byte_bits b ++ row_bits bs) n false) at
    ∙ get_or_append_left (byte_bits b) (row_bits bs) false p k ∙ in_byte b p k
row_at (b ∷ bs) (suc i) p h k =
    let at : 8 * suc i + p - 8 ≡ 8 * i + p = omega arith in
    get_or-append_right (byte_bits b) (row_bits bs) 8 (8 * suc i + p) false refl (omega arith)
    ∙ ap (λ (n : ℕ). get_or (row_bits bs) n false) at ∙ row_at bs i p (omega arith) k

-- a byte that differs at one place makes a row that differs there
pub row_set : (bs : List ℕ) (i p v : ℕ) (bit : Bool) → i < length bs → p < 8 → byte_bits v ≡ set (byte_bits (get_or bs i 0)) p bit
    → row_bits (set bs i v) ≡ set (row_bits bs) (8 * i + p) bit
row_set [] i p v bit h k e = absurd (omega arith)
row_set (b ∷ bs) zero p v bit h k e =
    let at : p ≡ 8 * zero + p = omega arith in
    ap (λ (r : List Bool). r ++ row_bits bs) e
    ∙ sym (set-append_left (byte_bits b) (row_bits bs) p bit k)
    ∙ ap (λ (n : ℕ). set (byte_bits b ++ row_bits bs) n bit) at
row_set (b ∷ bs) (suc i) p v bit h k e =
    let at : 8 * suc i + p - 8 ≡ 8 * i + p = omega arith in
    ap (λ (r : List Bool). byte_bits b ++ r) (row_set bs i p v bit (omega arith) k e)
    ∙ ap (λ (n : ℕ). byte_bits b ++ set (row_bits bs) n bit) (sym at)
    ∙ sym (set-append_right (byte_bits b) (row_bits bs) 8 (8 * suc i + p) bit refl (omega arith))

pub length_row : (bs : List ℕ) → length (row_bits bs) ≡ 8 * length bs
length_row [] = refl
length_row (b ∷ bs) = let k = length_row bs in omega arith

-- Beyond the row a taken bit counts as 0, and a stored one changes nothing.
pub take_anywhere : (bs : List ℕ) (i p : ℕ) → p < 8 → unwrap_or (taken bs i p) false ≡ get_or (row_bits bs) (8 * i + p) false
take_anywhere bs i p h =
    elim (cases_lt i (length bs)) [
      | inl l ↦
          (let t : has_place bs i p ≡ true = grind (arith, nat_tests) in
          ap (λ (b : Bool). unwrap_or (cond b (Some (bit_at (get_or bs i 0) p)) None) false) t ∙ sym (row_at bs i p l h))
      | inr l ↦
          (let f : has_place bs i p ≡ false = grind (arith, nat_tests) in
          let k = length_row bs in
          ap (λ (b : Bool). unwrap_or (cond b (Some (bit_at (get_or bs i 0) p)) None) false) f ∙ sym (get_or_past (row_bits bs) (8 * i + p) false (omega arith)))
    ]

pub store_anywhere : (bs after : List ℕ) (i p : ℕ) (bit : Bool) → p < 8 → after ≡ stored bs i p bit → ChangesItsPlace bs i p bit after
    → row_bits after ≡ set (row_bits bs) (8 * i + p) bit
store_anywhere bs after i p bit h e c =
    elim (cases_lt i (length bs)) [
      | inl l ↦ c l h
      | inr l ↦
          (let f : has_place bs i p ≡ false = grind (arith, nat_tests) in
          let k = length_row bs in
          ap row_bits (e ∙ ap (λ (b : Bool). cond b (set bs i (with_bit (get_or bs i 0) p bit)) bs) f) ∙ sym (set_past (row_bits bs) (8 * i + p) bit (omega arith)))
    ]

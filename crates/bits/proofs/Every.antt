-- What one computed test says of every byte and every place in it.
use Rattle.std.proofs.Common.{◌≡◌, ℕ, zero, suc, ◌+◌, ◌<◌, ◌≤◌, Bool, true, false, cond, ◌&&◌, ltb, leb, List, [], ◌∷◌, set, refl, ap₂, inl, inr, arith, ltb-true, leb-true}
use Rattle.std.proofs.lemmas.Bool.{cases_eq}
use Rattle.bits.specs.Order.{weight, bit_at, with_bit, byte_bits}

abbrev all_below : ℕ → (ℕ → Bool) → Bool
all_below zero f = true
all_below (suc n) f = f n && all_below n f

both_left : (a b : Bool) → (a && b) ≡ true → a ≡ true
both_left true b e = refl
both_left false b e = e

both_right : (a b : Bool) → (a && b) ≡ true → b ≡ true
both_right true b e = e
both_right false b e = absurd (let z : ◌≡◌ {A = ℕ} 0 1 = cc in omega arith)

below : (n : ℕ) (f : ℕ → Bool) → all_below n f ≡ true → (k : ℕ) → k < n → f k ≡ true
below zero f e k h = absurd (omega arith)
below (suc n) f e k h =
    elim (cases_eq k n) [
      | inl s ↦ rw s (both_left (f n) (all_below n f) e)
      | inr d ↦ below n f (both_right (f n) (all_below n f) e) k (omega arith)
    ]

abbrev same_bit : Bool → Bool → Bool
same_bit true b = b
same_bit false true = false
same_bit false false = true

same_bit_is : (a b : Bool) → same_bit a b ≡ true → a ≡ b
same_bit_is true true e = refl
same_bit_is true false e = cc
same_bit_is false true e = cc
same_bit_is false false e = refl

abbrev same_bits : List Bool → List Bool → Bool
same_bits [] [] = true
same_bits [] (y ∷ ys) = false
same_bits (x ∷ xs) [] = false
same_bits (x ∷ xs) (y ∷ ys) = same_bit x y && same_bits xs ys

same_bits_are : (xs ys : List Bool) → same_bits xs ys ≡ true → xs ≡ ys
same_bits_are [] [] e = refl
same_bits_are [] (y ∷ ys) e = cc
same_bits_are (x ∷ xs) [] e = cc
same_bits_are (x ∷ xs) (y ∷ ys) e =
    ap₂ ◌∷◌ (same_bit_is x y (both_left _ _ e)) (same_bits_are xs ys (both_right _ _ e))

-- a set bit's weight can be taken off, and a clear one's put on
abbrev room : ℕ → ℕ → Bool
room b p = cond (bit_at b p) (leb (weight p) b) (ltb (b + weight p) 256)

abbrev lands : Bool → ℕ → ℕ → Bool
lands v b p = same_bits (byte_bits (with_bit b p v)) (set (byte_bits b) p v)

abbrev fine : ℕ → ℕ → Bool
fine b p = room b p && (lands true b p && lands false b p)

all_fine : all_below 256 (λ b. all_below 8 (fine b)) ≡ true
all_fine = refl

fine_at : (b p : ℕ) → b < 256 → p < 8 → fine b p ≡ true
fine_at b p hb hp = below 8 (fine b) (below 256 (λ b. all_below 8 (fine b)) all_fine b hb) p hp

-- what a set bit counts for is in the byte, and a clear one's still fits it
pub weight_within : (b p : ℕ) → b < 256 → p < 8 → true ≡ bit_at b p → weight p ≤ b
weight_within b p hb hp e =
    let r : leb (weight p) b ≡ true = rw (← e) at (both_left (room b p) _ (fine_at b p hb hp)) in
    omega (arith, leb-true, r)

pub weight_fits : (b p : ℕ) → b < 256 → p < 8 → false ≡ bit_at b p → b + weight p < 256
weight_fits b p hb hp e =
    let r : ltb (b + weight p) 256 ≡ true = rw (← e) at (both_left (room b p) _ (fine_at b p hb hp)) in
    omega (arith, ltb-true, r)

pub byte_with_bit : (b p : ℕ) (v : Bool) → b < 256 → p < 8 → byte_bits (with_bit b p v) ≡ set (byte_bits b) p v
byte_with_bit b p true hb hp = same_bits_are _ _ (both_left _ _ (both_right (room b p) _ (fine_at b p hb hp)))
byte_with_bit b p false hb hp = same_bits_are _ _ (both_right (lands true b p) _ (both_right (room b p) _ (fine_at b p hb hp)))

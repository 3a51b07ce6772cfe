-- The order of bits in a byte and in a row of bytes. Nothing else in the repository knows it.
use Rattle.std.specs.Prelude.{◌≡◌, ℕ, ◌+◌, ◌-◌, ◌*◌, ◌/◌, ◌%◌, ◌^◌, ◌<◌, Bool, false, cond, ◌&&◌, List, [], ◌∷◌, ◌++◌, length, Some, None, Option, ◌==◌, nat_lt, slice_index, slice_index_or, slice_set}

-- what the bit at a place counts for in its byte: place 0 is the high end
abbrev pub weight : ℕ → ℕ
weight place = 2 ^ (7 - place)

abbrev pub bit_at : ℕ → ℕ → Bool
bit_at byte place = (byte / weight place) % 2 == 1

-- the byte with this bit at this place, and its other bits
abbrev pub with_bit : ℕ → ℕ → Bool → ℕ
with_bit byte place bit =
    cond (bit_at byte place) (cond bit byte (byte - weight place)) (cond bit (byte + weight place) byte)

-- the eight bits of a byte, in order
abbrev pub byte_bits : ℕ → List Bool
byte_bits b = bit_at b 0 ∷ bit_at b 1 ∷ bit_at b 2 ∷ bit_at b 3 ∷ bit_at b 4 ∷ bit_at b 5 ∷ bit_at b 6 ∷ bit_at b 7 ∷ []

-- the bits of a row of bytes, in order
abbrev pub row_bits : List ℕ → List Bool
row_bits [] = []
row_bits (b ∷ bs) = byte_bits b ++ row_bits bs

-- where the row of bytes has a bit
abbrev pub has_place : List ℕ → ℕ → ℕ → Bool
has_place bytes byte place = nat_lt byte (length bytes) && nat_lt place 8

abbrev pub taken : List ℕ → ℕ → ℕ → Option Bool
taken bytes byte place = cond (has_place bytes byte place) (Some (bit_at (slice_index bytes byte) place)) None

abbrev pub stored : List ℕ → ℕ → ℕ → Bool → List ℕ
stored bytes byte place bit =
    cond (has_place bytes byte place) (slice_set bytes byte (with_bit (slice_index bytes byte) place bit)) bytes

-- every byte is one
abbrev pub Bytes : List ℕ → Type 0
Bytes bs = (k : ℕ) → k < length bs → slice_index bs k < 256

-- The two laws in the row's words: a bit is read where it stands, and a stored bit changes that place of the row alone.
abbrev pub ReadsItsPlace : List ℕ → ℕ → ℕ → Option Bool → Type 0
ReadsItsPlace bytes byte place r = byte < length bytes → place < 8 → r ≡ Some (slice_index_or (row_bits bytes) (8 * byte + place) false)

abbrev pub ChangesItsPlace : List ℕ → ℕ → ℕ → Bool → List ℕ → Type 0
ChangesItsPlace bytes byte place bit after =
    byte < length bytes → place < 8 → row_bits after ≡ slice_set (row_bits bytes) (8 * byte + place) bit

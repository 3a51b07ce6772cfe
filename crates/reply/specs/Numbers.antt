-- A number in a reply: two bytes, the high one first.
use Rattle.std.specs.Prelude.{ℕ, zero, suc, ◌+◌, ◌/◌, ◌%◌, Bool, cond, ◌&&◌, List, [], ◌∷◌, length, nat_le, nat_lt, slice_set}
use Rattle.table.specs.declared.Record.{Record}
use Rattle.table.specs.Marks.{numbered, is_excluded}

-- there is room for a number at this place, and it has a form
abbrev pub has_room : List ℕ → ℕ → ℕ → Bool
has_room bytes at number = nat_le (at + 2) (length bytes) && nat_lt number 65536

abbrev pub with_number : List ℕ → ℕ → ℕ → List ℕ
with_number bytes at number =
    cond (has_room bytes at number) (slice_set (slice_set bytes at (number / 256)) (at + 1) (number % 256)) bytes

-- numbers one after the other, from a place on
abbrev pub with_numbers : List ℕ → ℕ → List ℕ → List ℕ
with_numbers bytes at [] = bytes
with_numbers bytes at (n ∷ ns) = with_numbers (with_number bytes at n) (at + 2) ns

-- from number n down, each that is chosen and excluded
abbrev pub listed : List Record → ℕ → List ℕ
listed rs zero = []
listed rs (suc n) = cond ((numbered rs (suc n)).chosen && is_excluded rs (suc n)) (suc n ∷ listed rs n) (listed rs n)

-- A place in a row of bits.
use Rattle.std.specs.Prelude.{◌≡◌, ℕ, ◌+◌, ◌*◌, ◌/◌, ◌%◌, ◌^◌, ◌<◌, cond, nat_lt}
use Rattle.bits.specs.declared.BitPlace.{BitPlace}

-- how many bits stand before it
abbrev pub flat : BitPlace → ℕ
flat p = 8 * p.byte + p.place

abbrev pub next_place : BitPlace → BitPlace
next_place p =
    cond (nat_lt p.place 7) (record { byte = p.byte; place = p.place + 1 }) (record { byte = (p.byte + 1) % 2 ^ 64; place = 0 })

abbrev pub skipped : BitPlace → ℕ → BitPlace
skipped p n = record { byte = (p.byte + (p.place % 8 + n) / 8) % 2 ^ 64; place = (p.place % 8 + n) % 8 }

-- From a place inside a byte, n bits further on is a place inside a byte with n bits more before it.
abbrev pub FlatAfter : BitPlace → ℕ → BitPlace → Type 0
FlatAfter p n q = p.place < 8 → flat p + n < 2 ^ 64 → (q.place < 8) × (flat q ≡ flat p + n)

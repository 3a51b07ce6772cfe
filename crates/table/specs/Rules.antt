-- The SIB table and its rules. Record number n stands at index n - 1; SIB N, the last, is nearest to scan-out.
use Rattle.std.specs.Prelude.{◌≡◌, ℕ, suc, ◌+◌, ◌-◌, ◌<◌, ◌≤◌, Bool, true, false, cond, not, ◌&&◌, List, [], ◌∷◌, length, drop, Some, None, Ok, Err, Option, Result, ◌==◌, nat_le, slice_index_or}
use Rattle.std.specs.Option.{option_map}
use Rattle.refusal.specs.declared.TableFault.{TableFault}
use Rattle.refusal.specs.declared.TableFault.TheVariants.{Size, Broken}
use Rattle.refusal.specs.Checks.{or_else}
use Rattle.table.specs.declared.Kind.{Kind}
use Rattle.table.specs.declared.Kind.TheVariants.{Doorway, Instrument}
use Rattle.table.specs.declared.Record.{Record}

abbrev pub is_doorway : Kind → Bool
is_doorway Doorway = true
is_doorway Instrument = false

-- what stands where there is no record
abbrev pub blank : Record
blank = record { kind = Doorway; depth = 0; length = 0; chosen = false; write = false; excluded = false }

-- a depth is 1 to 8
abbrev pub depth_fits : Record → Bool
depth_fits r = nat_le 1 r.depth && nat_le r.depth 8

-- a doorway has length 0, an instrument 1 to 256 bits
abbrev pub length_fits : Record → Bool
length_fits r = cond (is_doorway r.kind) (r.length == 0) (nat_le 1 r.length && nat_le r.length 256)

-- a doorway is never chosen
abbrev pub marks_fit : Record → Bool
marks_fit r = not (is_doorway r.kind && r.chosen)

abbrev pub fits : Record → Bool
fits r = depth_fits r && (length_fits r && marks_fit r)

-- how deep the next lower number may stand: deeper only directly below a doorway, and then by one
abbrev pub floor_under : Record → ℕ
floor_under r = cond (is_doorway r.kind) (r.depth + 1) r.depth

-- the same under the first of the records that stand above; above SIB N there is none, and its depth is 1
abbrev pub floor_of : List Record → ℕ
floor_of [] = 1
floor_of (r ∷ rs) = floor_under r

-- the record obeys every rule, where those above it, the next higher number first, are these
abbrev pub obeys : Record → List Record → Bool
obeys r above = nat_le r.depth (floor_of above) && fits r

-- the highest number, counted from n, whose record breaks a rule
abbrev pub highest_broken : ℕ → List Record → Option ℕ
highest_broken n [] = None
highest_broken n (r ∷ rs) = or_else (highest_broken (n + 1) rs) (cond (obeys r rs) None (Some n))

-- the number of records is 1 to 16,382
abbrev pub size_fits : List Record → Bool
size_fits rs = nat_le 1 (length rs) && nat_le (length rs) 16382

-- why a table is refused, if it is
abbrev pub table_fault : List Record → Option TableFault
table_fault rs = cond (size_fits rs) (option_map Broken (highest_broken 1 rs)) (Some Size)

-- In words: the record of number i + 1 obeys every rule.
abbrev pub obeys_at : List Record → ℕ → Bool
obeys_at rs i = obeys (slice_index_or rs i blank) (drop (suc i) rs)

-- every record obeys; or the number breaks a rule, and every higher one obeys
abbrev pub Lawful : List Record → Type 0
Lawful rs = (i : ℕ) → i < length rs → obeys_at rs i ≡ true

pub record HighestBroken (rs : List Record) (n : ℕ) : Type 0 where
  pub from_one : 1 ≤ n
  pub within : n ≤ length rs
  pub breaks : obeys_at rs (n - 1) ≡ false
  pub higher_obey : (i : ℕ) → n ≤ i → i < length rs → obeys_at rs i ≡ true

-- What the answer of the test says of the table.
abbrev pub SaysOfTable : List Record → Result (Unit {0}) TableFault → Type 0
SaysOfTable rs (Ok u) = (size_fits rs ≡ true) × Lawful rs
SaysOfTable rs (Err Size) = size_fits rs ≡ false
SaysOfTable rs (Err (Broken n)) = (size_fits rs ≡ true) × HighestBroken rs n

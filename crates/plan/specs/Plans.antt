-- A plan by its table: what each SIB gets in each pass.
use Rattle.std.specs.Prelude.{◌≡◌, ℕ, zero, suc, Bool, true, false, cond, ◌&&◌, ◌||◌, leb, List, length, Some, None, Option, nat_le, nat_lt}
use Rattle.table.specs.declared.Record.{Record}
use Rattle.table.specs.Marks.{numbered, names_sib}
use Rattle.retarget.specs.Shapes.{Shape, reach_after}
use Rattle.retarget.specs.Wants.{wanted, needed, deepest}
use Rattle.plan.specs.declared.wanted.Wanted.{Wanted}
use Rattle.plan.specs.declared.wanted.Plan.{Plan}
use Rattle.plan.specs.declared.visit.Row.{Row}
use Rattle.plan.specs.declared.visit.Row.TheVariants.{Hidden, Read, Write}
use Rattle.plan.specs.declared.visit.Visit.{Visit}
use Rattle.plan.specs.Order.{shape_at, shapes, wanted_at, wanteds}

abbrev pub table_of : Plan → List Record
table_of p = p.records.now

abbrev pub plan_shapes : Plan → ℕ → List Shape
plan_shapes p n = shapes (table_of p) n

abbrev pub plan_wants : Plan → ℕ → List Bool
plan_wants p n = wanteds p.wanted (table_of p) n

-- A plan made from a table has the greatest depth of a wanted instrument.
abbrev pub depth_of : Wanted → List Record → ℕ
depth_of w rs = deepest (shapes rs (length rs)) (wanteds w rs (length rs))

-- Of number n: whether it is wanted, a needed doorway, what it gets in a pass, and whether it is open while the pass shifts.
abbrev pub wanted_in : Plan → ℕ → Bool
wanted_in p n = wanted (shape_at (table_of p) n) (wanted_at p.wanted (table_of p) n)

abbrev pub needed_in : Plan → ℕ → Bool
needed_in p zero = false
needed_in p (suc k) = needed (shape_at (table_of p) (suc k)) (plan_shapes p k) (plan_wants p k)

-- whether number n is a SIB's that stands deeper than this
abbrev pub deeper_at : List Record → ℕ → ℕ → Bool
deeper_at rs depth n = names_sib rs n && nat_lt depth (numbered rs n).depth

abbrev pub aim_at : Plan → ℕ → ℕ → Bool
aim_at p pass n = needed_in p n || (wanted_in p n && nat_le p.depth pass)

abbrev pub open_at : Plan → ℕ → ℕ → Bool
open_at p pass n = (needed_in p n && nat_lt (shape_at (table_of p) n).depth pass) || (wanted_in p n && nat_lt p.depth pass)

-- Whether the row of number n is on the path with it, and what for.
abbrev pub RowIs : Plan → ℕ → ℕ → Row → Type 0
RowIs p pass n Hidden = (open_at p pass n && wanted_in p n) ≡ false
RowIs p pass n (Read cells) =
    ((open_at p pass n && wanted_in p n) ≡ true) × ((numbered (table_of p) n).write ≡ false) × (cells ≡ (shape_at (table_of p) n).cells)
RowIs p pass n (Write cells) =
    ((open_at p pass n && wanted_in p n) ≡ true) × ((numbered (table_of p) n).write ≡ true) × (cells ≡ (shape_at (table_of p) n).cells)

pub record Visited (p : Plan) (pass before n : ℕ) (v : Visit) : Type 0 where
  pub names : names_sib (table_of p) n ≡ true
  pub near : leb (shape_at (table_of p) n).depth before ≡ true
  pub bit : v.bit ≡ aim_at p pass n
  pub reach : v.reach ≡ reach_after before (shape_at (table_of p) n) (open_at p pass n)
  pub row : RowIs p pass n v.row

-- A pass visits a SIB that is in reach, where the depth `before` is in reach before it.
abbrev pub Visits : Plan → ℕ → ℕ → ℕ → Option Visit → Type 0
Visits p pass before n None = (names_sib (table_of p) n && nat_le (shape_at (table_of p) n).depth before) ≡ false
Visits p pass before n (Some v) = Visited p pass before n v

-- The bits that a data command has for number n: those of a chosen write, excluded or not.
abbrev pub sent_to : List Record → ℕ → ℕ
sent_to rs n = cond (names_sib rs n && ((numbered rs n).chosen && (numbered rs n).write)) (numbered rs n).length 0

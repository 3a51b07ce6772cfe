-- From the table's numbers to scan order: SIB N comes first, and number n stands at place N - n.
use Rattle.std.specs.Prelude.{◌≡◌, ℕ, zero, suc, Bool, not, ◌&&◌, List, [], ◌∷◌, map, reverse, length, ◌==◌}
use Rattle.table.specs.declared.Record.{Record}
use Rattle.table.specs.Rules.{is_doorway}
use Rattle.table.specs.Marks.{numbered, names_instrument, is_excluded}
use Rattle.scan.specs.Network.{Site}
use Rattle.retarget.specs.Shapes.{Shape, shapes_of}
use Rattle.plan.specs.declared.wanted.Wanted.{Wanted}
use Rattle.plan.specs.declared.wanted.Wanted.TheVariants.{Chosen, Sound, Only}

-- what the numbers from n down to 1 have
abbrev pub down : {X : Type 0} → (ℕ → X) → ℕ → List X
down f zero = []
down f (suc n) = f (suc n) ∷ down f n

abbrev pub shape : Record → Shape
shape r = record { doorway = is_doorway r.kind; depth = r.depth; cells = r.length }

abbrev pub shape_at : List Record → ℕ → Shape
shape_at rs n = shape (numbered rs n)

-- the shapes of the numbers from n down
abbrev pub shapes : List Record → ℕ → List Shape
shapes rs n = down (shape_at rs) n

-- A table describes a network that has its kinds, depths and lengths.
abbrev pub Describes : List Record → List Site → Type 0
Describes rs ss = shapes_of ss ≡ shapes rs (length rs)

-- The same by the order of the records: the network has them from the last to the first.
abbrev pub LastRecordComesFirst : Type 0
LastRecordComesFirst = (rs : List Record) → shapes rs (length rs) ≡ map shape (reverse rs)

-- Which instruments a run wants.
abbrev pub wants : Wanted → List Record → ℕ → Bool
wants Chosen rs n = (numbered rs n).chosen && not (is_excluded rs n)
wants Sound rs n = not (is_excluded rs n)
wants (Only number) rs n = n == number

abbrev pub wanted_at : Wanted → List Record → ℕ → Bool
wanted_at w rs n = names_instrument rs n && wants w rs n

abbrev pub wanteds : Wanted → List Record → ℕ → List Bool
wanteds w rs n = down (wanted_at w rs) n

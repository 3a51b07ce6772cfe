-- Bits shifted one after the other, and what is kept of those that come out.
use Rattle.std.specs.Prelude.{◌≡◌, ℕ, suc, ◌+◌, ◌^◌, ◌<◌, ◌≤◌, Bool, true, false, List, [], ◌∷◌, length, replicate, Ok, Err, Result, slice_index_or, slice_set}
use Rattle.refusal.specs.declared.Loss.{Loss}
use Rattle.refusal.specs.declared.ScanFault.{ScanFault}
use Rattle.refusal.specs.declared.ScanFault.TheVariants.{Lost, WrongPhase}
use Rattle.bits.specs.declared.BitPlace.{BitPlace}
use Rattle.bits.specs.Place.{flat}
use Rattle.scan.specs.Network.{Network, scan}
use Rattle.scan.specs.Moves.{feed, outs}
use Rattle.scan.specs.Calls.{LostCall}
use Rattle.retarget.specs.Strings.{sift}
use Rattle.plan.specs.declared.visit.Row.{Row}
use Rattle.plan.specs.declared.visit.Row.TheVariants.{Hidden, Read, Write}
use Rattle.plan.specs.declared.visit.Visit.{Visit}
use Rattle.shifting.specs.Orders.{bits_from}

-- a network in scan that bits have been shifted into
abbrev pub fed : Network → List Bool → Network
fed n bits = record { sites = feed n.sites bits; phase = scan; lost = n.lost }

-- bits laid one after the other into a row, from a place on
abbrev pub laid : List Bool → ℕ → List Bool → List Bool
laid row at [] = row
laid row at (b ∷ bs) = laid (slice_set row at b) (suc at) bs

-- The row from this place on is as it was.
abbrev pub StaysFrom : ℕ → List Bool → List Bool → Type 0
StaysFrom at row after = (i : ℕ) → at ≤ i → slice_index_or after i false ≡ slice_index_or row i false

-- A call below was lost: what it did not change.
abbrev pub Loses : (Loss → Type 0) → Network → ScanFault → Network → Type 0
Loses can n (Lost l) m = can l × LostCall n m
Loses can n WrongPhase m = ⊥

-- Bits go in, or a call is lost on the way.
abbrev pub Feeds : (Loss → Type 0) → Network → List Bool → Result (Unit {0}) ScanFault → Network → Type 0
Feeds can n bits (Ok u) m = m ≡ fed n bits
Feeds can n bits (Err e) m = Loses can n e m

-- The same, where all that comes out is kept from a place of a row on.
abbrev pub Reads : (Loss → Type 0) → Network → List Bool → ℕ → List Bool → Result (Unit {0}) ScanFault → Network → List Bool → Type 0
Reads can n bits at row (Ok u) m after = (m ≡ fed n bits) × (after ≡ laid row at (outs n.sites bits))
Reads can n bits at row (Err e) m after = Loses can n e m × StaysFrom (at + length bits) row after

-- a place inside a byte, so far from the end that places do not wrap
abbrev pub Room : BitPlace → ℕ → Type 0
Room p count = (p.place < 8) × (flat p + count < 2 ^ 64)

abbrev pub cells_of : Row → ℕ
cells_of Hidden = 0
cells_of (Read cells) = cells
cells_of (Write cells) = cells

-- What a visit shifts in, and which of the bits that come out it keeps: `at` is where its bits begin in the row of sent bits.
abbrev pub row_bits_of : Row → List Bool → ℕ → List Bool
row_bits_of Hidden row at = []
row_bits_of (Read cells) row at = replicate cells true
row_bits_of (Write cells) row at = bits_from row at cells

abbrev pub row_mask : Row → List Bool
row_mask Hidden = []
row_mask (Read cells) = replicate cells true
row_mask (Write cells) = replicate cells false

abbrev pub visit_bits : Visit → List Bool → ℕ → List Bool
visit_bits v row at = v.bit ∷ row_bits_of v.row row at

abbrev pub visit_mask : Visit → List Bool
visit_mask v = false ∷ row_mask v.row

-- how many bits a visit keeps
abbrev pub kept_cells : Row → ℕ
kept_cells Hidden = 0
kept_cells (Read cells) = cells
kept_cells (Write cells) = 0

abbrev pub VisitShifts : (Loss → Type 0) → Network → List Bool → List Bool → ℕ → BitPlace → List Bool → Result BitPlace ScanFault → Network → List Bool → Type 0
VisitShifts can n bits mask kept to row (Ok next) m after =
    (m ≡ fed n bits) × (next.place < 8) × (flat next ≡ flat to + kept) × (after ≡ laid row (flat to) (sift mask (outs n.sites bits)))
VisitShifts can n bits mask kept to row (Err e) m after = Loses can n e m × StaysFrom (flat to + kept) row after

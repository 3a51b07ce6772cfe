use Rattle.std.proofs.Common.{◌≡◌, ◌+◌, ◌-◌, ◌<◌}
use Rattle.bits.specs.Order.{row_bits}
use Rattle.bits.specs.Place.{flat}
use Rattle.scan.specs.Network.{scan}
use Rattle.shifting.specs.Orders.{bits_from}
use Rattle.shifting.specs.Feeding.{Room}
use Rattle.shifting.proofs.Midway.{Midway}
use Rattle.shifting.proofs.shifts.shift_write.Given as goal

abbrev pub invariant-loop-k : goal.invariant-loop-k
invariant-loop-k g l =
    let net = g.S.Scan.network in
    let valid = g.S.Scan.valid in
    let row = row_bits l.sent in
    (valid l.initial.scan → valid l.scan)
    × (valid l.initial.scan → (net l.initial.scan).phase ≡ scan → Room l.initial.at l.cells
    → (l.at.place < 8) × (flat l.at ≡ flat l.initial.at + l._k)
    × Midway (net l.initial.scan) (net l.scan) (bits_from row (flat l.initial.at) l.cells) (bits_from row (flat l.at) (l.cells - l._k)))

use Rattle.std.proofs.Common.{◌≡◌, ◌+◌, ◌-◌, ◌<◌, true, replicate}
use Rattle.bits.specs.Order.{row_bits}
use Rattle.bits.specs.Place.{flat}
use Rattle.scan.specs.Network.{scan}
use Rattle.shifting.specs.Feeding.{Room}
use Rattle.shifting.proofs.Rows.{Keeping}
use Rattle.shifting.proofs.shifts.shift_read.Given as goal

abbrev pub invariant-loop-k : goal.invariant-loop-k
invariant-loop-k g l =
    let net = g.S.Scan.network in
    let valid = g.S.Scan.valid in
    (valid l.initial.scan → valid l.scan)
    × (valid l.initial.scan → (net l.initial.scan).phase ≡ scan → Room l.initial.at l.cells
    → (l.at.place < 8) × (flat l.at ≡ flat l.initial.at + l._k)
    × Keeping (net l.initial.scan) (net l.scan) (replicate l.cells true) (replicate (l.cells - l._k) true) (row_bits l.initial.body) (row_bits l.body) (flat l.initial.at) (flat l.at) (flat l.initial.at + l.cells))

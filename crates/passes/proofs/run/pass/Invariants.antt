use Rattle.std.proofs.Common.{◌≡◌, ◌<◌}
use Rattle.bits.specs.Order.{row_bits}
use Rattle.bits.specs.Place.{flat}
use Rattle.scan.specs.Network.{scan}
use Rattle.plan.specs.Plans.{table_of}
use Rattle.shifting.specs.Passes.{PassesTest}
use Rattle.shifting.proofs.Walking.{Walking}
use Rattle.passes.proofs.run.pass.Given as goal

abbrev pub invariant-loop-number : goal.invariant-loop-number
invariant-loop-number g l =
    let net = g.S.Scan.network in
    let valid = g.S.Scan.valid in
    (valid l.initial.scan → valid l.scan)
    × (PassesTest (table_of l.plan) → valid l.initial.scan → (net l.initial.scan).phase ≡ scan
    → (l.from.place < 8) × (l.to.place < 8)
    × Walking l.plan l.pass (row_bits l.sent) (net l.initial.scan) (net l.scan) l.reach l.number (flat l.from) (flat l.to) (row_bits l.initial.body) (row_bits l.body))

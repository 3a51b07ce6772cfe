use Rattle.std.proofs.Common.{length}
use Rattle.bits.specs.Order.{row_bits}
use Rattle.plan.specs.Plans.{table_of, plan_shapes}
use Rattle.shifting.specs.Passes.{PassesTest, plan_orders}
use Rattle.passes.proofs.Passing.{Ran}
use Rattle.passes.proofs.run.run_group.Given as goal

abbrev pub invariant-loop-done : goal.invariant-loop-done
invariant-loop-done g l =
    let net = g.S.Scan.network in
    let p = l.plan in
    g.S.Scan.valid l.scan
    × (PassesTest (table_of p) → Ran p.depth (plan_shapes p (length (table_of p))) (plan_orders p (row_bits l.sent)) (net l.fn.scan) (row_bits l.initial.kept) l.done l.shifted (net l.scan) (row_bits l.kept))

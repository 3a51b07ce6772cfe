use Rattle.std.proofs.Common.{◌≡◌}
use Rattle.retarget.specs.Wants.{deepest}
use Rattle.plan.specs.Order.{shapes, wanteds}
use Rattle.plan.proofs.wanted.Plan.new.Given as goal

abbrev pub invariant-loop-i : goal.invariant-loop-i
invariant-loop-i l = l.depth ≡ deepest (shapes l.records l.i) (wanteds l.wanted l.records l.i)

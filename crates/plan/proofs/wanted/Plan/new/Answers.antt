use Rattle.std.proofs.Common.{◌∙◌}
use Rattle.plan.proofs.Numbers.{deepest_more}
use Rattle.plan.proofs.wanted.Plan.new.Goals as goal
use Rattle.plan.proofs.wanted.Plan.new.Goals.{then-takes, else-takes}

pub loop-i-preserved : goal.loop-i-preserved
loop-i-preserved c =
    let more = deepest_more c.args.wanted c.args.records.now c.loop-i.i c.loop-i.depth c.takes.result c.loop-i-test.true c.takes.ensures c.loop-i.invariant in
    elim c.if-takes.branch [
      | then-takes w ↦ w.depth-is ∙ w.max-depth.ensures ∙ (rw w.if-takes.true at more)
      | else-takes w ↦ w.depth-is ∙ (rw w.if-takes.false at more)
    ]

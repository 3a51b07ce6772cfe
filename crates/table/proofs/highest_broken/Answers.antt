use Rattle.std.proofs.Common.{◌∙◌, arith}
use Rattle.std.proofs.lemmas.Bool.Decides.{nat_tests}
use Rattle.table.proofs.Highest.{left_more}
use Rattle.table.proofs.highest_broken.Goals as goal
use Rattle.table.proofs.highest_broken.Goals.{then-not-fits, else-not-fits+then-depth_before-floor, else-not-fits+else-depth_before-floor}

pub loop-i-preserved : goal.loop-i-preserved
loop-i-preserved c =
    rw c.from-depth_before.ensures
    (left_more c.loop-i.i c.loop-i.depth_before c.loop-i.broken c.if-not-fits.broken c.args.records.now c.loop-i-test.true
    (elim c.if-not-fits.branch [
      | then-not-fits w ↦ grind (arith, nat_tests)
      | else-not-fits+then-depth_before-floor w ↦ grind (arith, nat_tests)
      | else-not-fits+else-depth_before-floor w ↦ grind (arith, nat_tests)
    ])
    ∙ c.loop-i.invariant)

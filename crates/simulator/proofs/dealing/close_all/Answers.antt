use Rattle.std.proofs.Common.{refl, rules}
use Rattle.scan.specs.Moves.{reset}
use Rattle.simulator.proofs.Cells.{cells_reset}
use Rattle.simulator.proofs.Changes.{changed_all}
use Rattle.simulator.proofs.dealing.close_all.Goals as goal

pub returns-clause-size : goal.returns-clause-size
returns-clause-size c = (search rules, cells_reset _ _ (changed_all reset _ c.loop-site.site-index c.loop-site.invariant (search rules) refl))

use Rattle.std.proofs.Common.{refl, rules}
use Rattle.simulator.proofs.Cells.{cells_filled}
use Rattle.simulator.proofs.Changes.{changed_all}
use Rattle.simulator.proofs.Walks.{filled_from}
use Rattle.simulator.proofs.dealing.deal.Goals as goal

pub returns-clause-size : goal.returns-clause-size
returns-clause-size c = (search rules, cells_filled _ _ _ _ (changed_all (filled_from c.loop-site.reach c.loop-site.rest.now) _ c.loop-site.site-index c.loop-site.invariant.dealt (search rules) refl))

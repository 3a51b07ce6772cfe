use Rattle.std.proofs.Common.{refl, rules, ◌∙◌}
use Rattle.scan.specs.Path.{on}
use Rattle.simulator.specs.Meaning.{meanings}
use Rattle.simulator.proofs.Cells.{cells_updated}
use Rattle.simulator.proofs.Changes.{changed_all}
use Rattle.simulator.proofs.Walks.{renewed_from, renewed_is_updated}
use Rattle.simulator.proofs.dealing.update_all.Goals as goal

pub returns-clause-size : goal.returns-clause-size
returns-clause-size c =
    let before = meanings c.args.sites.now in
    let all = changed_all (renewed_from c.loop-site.reach c.loop-site.rest.now) _ c.loop-site.site-index c.loop-site.invariant.dealt (search rules) refl in
    (search rules, cells_updated _ _ (on before) c.args.bits.now (all ∙ renewed_is_updated before c.args.bits.now))

pub returns-clause-sites : goal.returns-clause-sites
returns-clause-sites c =
    changed_all (renewed_from c.loop-site.reach c.loop-site.rest.now) _ c.loop-site.site-index c.loop-site.invariant.dealt (search rules) refl
    ∙ renewed_is_updated (meanings c.args.sites.now) c.args.bits.now

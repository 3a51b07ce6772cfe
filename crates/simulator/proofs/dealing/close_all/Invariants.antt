use Rattle.scan.specs.Moves.{reset}
use Rattle.simulator.specs.Meaning.{meanings}
use Rattle.simulator.proofs.Changes.{Changed}
use Rattle.simulator.proofs.dealing.close_all.Given as goal

abbrev pub invariant-loop-site : goal.invariant-loop-site
invariant-loop-site l = Changed reset l.site-items l.site-index (reset (meanings l.initial.site-items))

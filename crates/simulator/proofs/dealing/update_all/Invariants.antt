use Rattle.std.proofs.Common.{◌≡◌, length, drop}
use Rattle.simulator.specs.Meaning.{meanings}
use Rattle.simulator.proofs.Changes.{Changed}
use Rattle.simulator.proofs.Walks.{renewed_from, flaws_from}
use Rattle.simulator.proofs.dealing.update_all.Given as goal

abbrev pub invariant-loop-site : goal.invariant-loop-site
invariant-loop-site l =
    record {
      dealt : Changed (renewed_from l.reach l.rest) l.site-items l.site-index (renewed_from 1 l.bits (meanings l.initial.site-items));
      left : length (flaws_from l.reach (meanings (drop l.site-index l.site-items))) ≡ length l.rest;
    }

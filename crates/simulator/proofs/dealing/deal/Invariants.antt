use Rattle.std.proofs.Common.{◌≡◌, length, drop}
use Rattle.simulator.specs.Meaning.{meanings}
use Rattle.simulator.proofs.Changes.{Changed}
use Rattle.simulator.proofs.Walks.{filled_from, flaws_from}
use Rattle.simulator.proofs.dealing.deal.Given as goal

abbrev pub invariant-loop-site : goal.invariant-loop-site
invariant-loop-site l =
    record {
      dealt : Changed (filled_from l.reach l.rest) l.site-items l.site-index (filled_from 1 l.bits (meanings l.initial.site-items));
      left : length (flaws_from l.reach (meanings (drop l.site-index l.site-items))) ≡ length l.rest;
    }

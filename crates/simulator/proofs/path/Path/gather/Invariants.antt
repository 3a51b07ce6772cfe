use Rattle.std.proofs.Common.{vec_items, vec_len, vec_capacity}
use Rattle.simulator.proofs.Gathering.{Gathered}
use Rattle.simulator.proofs.path.Path.gather.Given as goal

abbrev pub invariant-loop-site : goal.invariant-loop-site
invariant-loop-site l =
    Gathered l.sites l.site-index l.reach (vec_items l.bits) (vec_len l.bits) (vec_capacity l.bits) (vec_items l.self.stuck) (vec_len l.self.stuck) (vec_capacity l.self.stuck)
    (vec_capacity l.initial.bits) (vec_capacity l.initial.self.stuck)

use Rattle.std.proofs.Common.{◌≡◌, ◌+◌, ◌++◌, take, vec_items, vec_len, vec_capacity}
use Rattle.simulator.specs.Meaning.{offer_of}
use Rattle.simulator.proofs.site.Site.offer_onto.Given as goal

abbrev pub invariant-loop-held : goal.invariant-loop-held
invariant-loop-held l =
    record {
      bits : l.path.items ≡ l.initial.path.items ++ offer_of l.self.offer (take l.held-index (vec_items l.self.held));
      len : vec_len l.path ≡ vec_len l.initial.path + l.held-index;
      room : vec_capacity l.path ≡ vec_capacity l.initial.path;
    }

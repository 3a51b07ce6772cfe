use Rattle.std.proofs.Common.{◌≡◌, ◌++◌, ◌≤◌, length, drop, vec_items, vec_len, vec_capacity}
use mathlib.Core.List.{reverse}
use Rattle.simulator.specs.Meaning.{meanings}
use Rattle.simulator.specs.Fresh.{fresh_sites, bits_in}
use Rattle.simulator.proofs.making.make_sites.Given as goal

abbrev pub invariant-loop-record : goal.invariant-loop-record
invariant-loop-record l =
    record {
      next : (goal.iterator-loop-record).can_next l.record-iterator;
      ends : (goal.iterator-loop-record).is_finite l.record-iterator;
      made : fresh_sites (drop (length l.yielded) l.records) (drop (length l.yielded) l.settings) l.rest ++ reverse (meanings (vec_items l.sites)) ≡ fresh_sites l.records l.settings l.held;
      left : length l.rest ≡ bits_in (drop (length l.yielded) l.records);
      count : vec_len l.sites ≡ length l.yielded;
      room : length l.records ≤ vec_capacity l.sites;
    }

use Rattle.std.proofs.Common.{◌≡◌, drop}
use Rattle.std.specs.VecDeque.{deque_len, deque_capacity}
use Rattle.simulator.specs.Meaning.{forced}
use Rattle.simulator.proofs.path.force_all.Given as goal

abbrev pub invariant-loop-cell : goal.invariant-loop-cell
invariant-loop-cell l =
    record {
      bits : forced l.bits.items (drop l.cell-index l.stuck) ≡ forced l.initial.bits.items l.stuck;
      len : deque_len l.bits ≡ deque_len l.initial.bits;
      room : deque_capacity l.bits ≡ deque_capacity l.initial.bits;
    }

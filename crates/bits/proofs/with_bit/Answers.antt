use Rattle.std.proofs.Common.{arith}
use Rattle.bits.proofs.Every.{weight_fits}
use Rattle.bits.proofs.with_bit.Goals as goal

pub overflow_add-result : goal.overflow_add-result
overflow_add-result c =
    let h = weight_fits c.args.byte c.args.place (omega arith) c.requires c.in-false-true.ensures in
    omega arith

use Rattle.std.proofs.Common.{ap, ◌∙◌, rules}
use Rattle.bits.specs.Order.{byte_bits}
use Rattle.bits.proofs.Every.{byte_with_bit}
use Rattle.bits.proofs.Places.{row_set}
use Rattle.bits.proofs.store_bit.Goals as goal

pub returns : goal.returns
returns c = record {
  test = search rules;
  after = search rules;
  in_row = λ h k. row_set c.args.bytes.now c.args.at.byte c.args.at.place c.with_bit.result c.args.bit h k
      (ap byte_bits c.with_bit.ensures ∙ byte_with_bit _ c.args.at.place c.args.bit (search rules) k);
}

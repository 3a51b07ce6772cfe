use Rattle.std.proofs.Common.{◌≡◌, ℕ, get_or, Some, sym, ap, ◌∙◌, rules}
use Rattle.bits.specs.Order.{bit_at}
use Rattle.bits.proofs.Places.{row_at}
use Rattle.bits.proofs.take_bit.Goals as goal

pub returns : goal.returns
returns c = record {
  value = search rules;
  in_row = λ h k. let e : c.in_ok-byte.byte.now ≡ get_or c.args.bytes.now c.args.at.byte 0 = search rules in ap Some (c.bit_in.ensures ∙ ap (λ (b : ℕ). bit_at b c.args.at.place) e ∙ sym (row_at c.args.bytes.now c.args.at.byte c.args.at.place h k));
}

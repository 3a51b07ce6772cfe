use Rattle.std.proofs.Common.{Bool, false, Option, unwrap_or, ap, ◌∙◌, arith}
use Rattle.bits.proofs.Places.{take_anywhere}
use Rattle.shifting.proofs.Rows.{write_more}
use Rattle.shifting.proofs.shifts.shift_write.Goals as goal

pub loop-k-preserved : goal.loop-k-preserved
loop-k-preserved g c =
    let h = c.in_ok-shift.ensures in (
      λ v. h.kept (c.loop-k.invariant.0 v),
      λ v s room.
          let i = c.loop-k.invariant.1 v s room in
          let next = c.next-at.ensures.flat i.0 (omega (arith, i.1, room.1)) in
          let bit = c.unwrap_or-bit.ensures ∙ ap (λ (o : Option Bool). unwrap_or o false) c.take_bit.ensures.value ∙ take_anywhere c.args.sent.now c.loop-k.at.byte c.loop-k.at.place i.0 in
          (next.0, omega (arith, next.1, i.1), write_more g.S.Scan.losses _ _ _ _ _ _ _ _ _ _ _ c.loop-k-test.true next.1 bit i.2 (h.did (c.loop-k.invariant.0 v))),
    )

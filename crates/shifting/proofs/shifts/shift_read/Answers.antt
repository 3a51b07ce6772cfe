use Rattle.std.proofs.Common.{arith}
use Rattle.bits.proofs.Places.{store_anywhere}
use Rattle.shifting.proofs.Rows.{read_more}
use Rattle.shifting.proofs.shifts.shift_read.Goals as goal

pub loop-k-preserved : goal.loop-k-preserved
loop-k-preserved g c =
    let h = c.in_ok-bit.ensures in (
      λ v. h.kept (c.loop-k.invariant.0 v),
      λ v s room.
          let i = c.loop-k.invariant.1 v s room in
          let next = c.next-at.ensures.flat i.0 (omega (arith, i.1, room.1)) in
          let stored = store_anywhere c.loop-k.body _ c.loop-k.at.byte c.loop-k.at.place _ i.0 c.store_bit.ensures.after c.store_bit.ensures.in_row in
          (next.0, omega (arith, next.1, i.1), read_more g.S.Scan.losses _ _ _ _ _ _ _ _ _ _ _ _ c.loop-k-test.true i.1 next.1 i.2 (h.did (c.loop-k.invariant.0 v)) stored),
    )

use Rattle.std.proofs.Common.{◌≡◌, ap, subst}
use Rattle.std.proofs.lemmas.Result.{err_from_is_err_and}
use Rattle.bits.specs.declared.BitPlace.{BitPlace}
use Rattle.bits.specs.Order.{row_bits}
use Rattle.bits.specs.Place.{flat}
use Rattle.plan.specs.declared.visit.Row.{Row}
use Rattle.plan.specs.declared.visit.Row.TheVariants.{Read, Write}
use Rattle.shifting.specs.Feeding.{Room, cells_of}
use Rattle.shifting.proofs.Sibs.{sib_loses, sib_write, sib_read, write_stays, read_stays}
use Rattle.shifting.proofs.shifts.shift_sib.Goals as goal

-- room for the row that is there
room_at : (p : BitPlace) (r s : Row) → r ≡ s → Room p (cells_of r) → Room p (cells_of s)
room_at p r s e h = subst (λ (r : Row). Room p (cells_of r)) e h

pub returns-in_err-shift_write-in-Write : goal.returns-in_err-shift_write-in-Write
returns-in_err-shift_write-in-Write g c =
    let net = g.S.Scan.network in
    let own = c.in_ok-shift.ensures in
    let h = c.in_err-shift_write-in-Write.ensures in
    let p = err_from_is_err_and c.from_residual-in_err-shift_write-in-Write.result c.from_residual-in_err-shift_write-in-Write.ensures.1 in
    record {
      did = λ v s f t.
          let one = own.did v in
          let lost = h.did (own.kept v) (ap (λ n. n.phase) one.2) (room_at c.args.from c.args.visit.row (Write c.in-Write.cells) c.in-Write.is f) in
          rw (p.1, p.2) (sib_loses g.S.Scan.losses (net c.args.scan.now) (net c.shift.new.self) _ c.args.visit.bit c.in_ok-shift.field-0 _ one lost, write_stays _ _);
      kept = λ v. h.kept (own.kept v);
    }

pub returns-in_err-shift_read-in-Read : goal.returns-in_err-shift_read-in-Read
returns-in_err-shift_read-in-Read g c =
    let net = g.S.Scan.network in
    let own = c.in_ok-shift.ensures in
    let h = c.in_err-shift_read-in-Read.ensures in
    let p = err_from_is_err_and c.from_residual-in_err-shift_read-in-Read.result c.from_residual-in_err-shift_read-in-Read.ensures.1 in
    record {
      did = λ v s f t.
          let one = own.did v in
          let lost = h.did (own.kept v) (ap (λ n. n.phase) one.2) (room_at c.args.to c.args.visit.row (Read c.in-Read.cells) c.in-Read.is t) in
          rw (p.1, p.2) (sib_loses g.S.Scan.losses (net c.args.scan.now) (net c.shift.new.self) _ c.args.visit.bit c.in_ok-shift.field-0 _ one lost.0, read_stays c.args.visit.row c.in-Read.cells _ _ _ c.in-Read.is lost.1);
      kept = λ v. h.kept (own.kept v);
    }

pub returns-in_ok-shift_write-in-Write : goal.returns-in_ok-shift_write-in-Write
returns-in_ok-shift_write-in-Write g c =
    let net = g.S.Scan.network in
    let own = c.in_ok-shift.ensures in
    let h = c.in_ok-shift_write-in-Write.ensures in
    record {
      did = λ v s f t.
          let one = own.did v in
          let went = h.did (own.kept v) (ap (λ n. n.phase) one.2) (room_at c.args.from c.args.visit.row (Write c.in-Write.cells) c.in-Write.is f) in
          sib_write g.S.Scan.losses (net c.args.scan.now) (net c.shift.new.self) (net c.shift_write.new.scan) c.args.visit.bit c.in_ok-shift.field-0
          (row_bits c.args.sent.now) (flat c.args.from) c.args.to (row_bits c.args.body.now) one c.args.visit.row c.in-Write.cells c.in-Write.is t.0 went;
      kept = λ v. h.kept (own.kept v);
    }

pub returns-in_ok-shift_read-in-Read : goal.returns-in_ok-shift_read-in-Read
returns-in_ok-shift_read-in-Read g c =
    let net = g.S.Scan.network in
    let own = c.in_ok-shift.ensures in
    let h = c.in_ok-shift_read-in-Read.ensures in
    record {
      did = λ v s f t.
          let one = own.did v in
          let room = room_at c.args.to c.args.visit.row (Read c.in-Read.cells) c.in-Read.is t in
          let went = h.did (own.kept v) (ap (λ n. n.phase) one.2) room in
          let next = c.skip.ensures.flat room.0 room.1 in
          sib_read g.S.Scan.losses (net c.args.scan.now) (net c.shift.new.self) (net c.shift_read.new.scan) c.args.visit.bit c.in_ok-shift.field-0
          (row_bits c.args.sent.now) (flat c.args.from) c.args.to (row_bits c.args.body.now) one c.args.visit.row c.in-Read.cells c.skip.result _ c.in-Read.is next.0 next.1 went.0 went.1;
      kept = λ v. h.kept (own.kept v);
    }

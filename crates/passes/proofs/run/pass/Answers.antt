use Rattle.std.proofs.Common.{◌≡◌, ℕ, ◌+◌, ◌%◌, ◌^◌, ◌<◌, ap, ◌∙◌, arith}
use Rattle.std.proofs.lemmas.Result.{err_from_is_err_and}
use Rattle.bits.specs.Place.{flat}
use Rattle.plan.specs.Plans.{table_of, sent_to}
use Rattle.plan.specs.Length.{path_span}
use Rattle.plan.proofs.Lawful.{formed_table}
use Rattle.passes.proofs.Along.{goes_past, goes_on, breaks_off, room_left, sent_room, ends_early, ends}
use Rattle.passes.proofs.run.pass.Goals as goal
use Rattle.passes.proofs.run.pass.Goals.{in-Some+in_ok-to, in_default, then-bits-gt0, else-bits-gt0}

pub returns-in_err-to-clause-did : goal.returns-in_err-to-clause-did
returns-in_err-to-clause-did g c _ t v h =
    let p = err_from_is_err_and c.from_residual-in_err-to.result c.from_residual-in_err-to.ensures.1 in
    let cap = c.in_ok-capture.ensures.did v in
    let valid = c.in_ok-capture.ensures.kept v in
    let w = c.loop-number.invariant.1 t valid (ap (λ n. n.phase) cap.1) in
    let room = room_left _ _ _ _ _ _ _ _ _ _ _ t (omega arith) w c.in-Some.visit c.in-Some.ensures in
    let lost = c.in_err-to.ensures.did (c.loop-number.invariant.0 valid) w.2.midway.phase room.0 room.1 in
    rw (p.1, p.2) (breaks_off _ _ _ _ _ _ _ _ _ _ _ t (omega arith) w c.in-Some.visit c.in-Some.ensures _ _ _ _ _ cap.1 lost)

pub loop-number-preserved : goal.loop-number-preserved
loop-number-preserved g c = (
  λ v. elim c.match-visit.branch [ in-Some+in_ok-to w ↦ rw w.scan-is (w.in_ok-to.ensures.kept (c.loop-number.invariant.0 v)) | in_default w ↦ rw w.scan-is (c.loop-number.invariant.0 v) ],
  λ t v h.
      let w = c.loop-number.invariant.1 t v h in
      let few = sent_room _ _ _ _ _ _ _ _ _ _ _ t (omega arith) w in
      let place = c.loop-number.from in
      let next : (c.if-bits-gt0.from.place < 8) × (flat c.if-bits-gt0.from ≡ flat place + sent_to (table_of c.args.plan.now) c.loop-number.number) =
      elim c.if-bits-gt0.branch [
        | then-bits-gt0 s ↦
            (let there = s.skip-from.ensures.flat w.0 (omega (arith, few, c.sent_bits-bits.ensures)) in
            rw s.from-is (there.0, there.1 ∙ ap (λ (j : ℕ). flat place + j) c.sent_bits-bits.ensures))
        | else-bits-gt0 s ↦
            (let none : flat place ≡ flat place + sent_to (table_of c.args.plan.now) c.loop-number.number = omega (arith, s.if-bits-gt0.false, c.sent_bits-bits.ensures) in
            rw s.from-is (w.0, none))
      ] in
      elim c.match-visit.branch [
        | in-Some+in_ok-to s ↦
            (let room = room_left _ _ _ _ _ _ _ _ _ _ _ t (omega arith) w s.in-Some.visit s.in-Some.ensures in
            let went = s.in_ok-to.ensures.did (c.loop-number.invariant.0 v) w.2.midway.phase room.0 room.1 in
            rw (s.scan-is, s.body-is, s.reach-is, s.to-is) (goes_on _ _ _ _ _ _ _ _ _ _ _ t (omega arith) w s.in-Some.visit s.in-Some.ensures g.S.Scan.losses _ _ _ _ went next))
        | in_default s ↦ rw (s.scan-is, s.body-is, s.reach-is, s.to-is) (goes_past _ _ _ _ _ _ _ _ _ _ _ t (omega arith) w _ s.in_default.ensures next)
      ],
)

pub returns-in_err-update-clause-did : goal.returns-in_err-update-clause-did
returns-in_err-update-clause-did g c _ t v h =
    let p = err_from_is_err_and c.from_residual-in_err-update.result c.from_residual-in_err-update.ensures.1 in
    let cap = c.in_ok-capture.ensures.did v in
    let valid = c.in_ok-capture.ensures.kept v in
    let w = c.loop-number.invariant.1 t valid (ap (λ n. n.phase) cap.1) in
    rw (p.1, p.2) (ends_early g.S.Scan.losses _ _ _ (g.S.Scan.network c.args.scan.now) _ _ _ _ _ _ _ _ _ _ w cap.1 (c.in_err-update.ensures.did (c.loop-number.invariant.0 valid)))

pub returns-clause-did : goal.returns-clause-did
returns-clause-did g c f t v h =
    let cap = c.in_ok-capture.ensures.did v in
    let valid = c.in_ok-capture.ensures.kept v in
    let w = c.loop-number.invariant.1 t valid (ap (λ n. n.phase) cap.1) in
    let went = c.in_ok-update.ensures.did (c.loop-number.invariant.0 valid) in
    let whole : path_span c.args.plan.now c.min.result % 2 ^ 64 ≡ path_span c.args.plan.now c.args.pass % 2 ^ 64 =
    let same : c.min.result ≡ c.args.pass = omega arith in ap (λ (k : ℕ). path_span c.args.plan.now k % 2 ^ 64) same in
    ends g.S.Scan.losses _ _ _ (g.S.Scan.network c.args.scan.now) _ _ _ _ _ _ _ _ _ _ w (omega arith) cap.1 went.1 (c.path_len.ensures (formed_table _ t) ∙ whole)

use Rattle.std.proofs.Common.{◌≡◌, ◌+◌, ◌%◌, ◌^◌, ◌<◌, Ok, Err, length, sym, refl, ap, subst, arith}
use Rattle.std.proofs.lemmas.Result.{err_from_is_err_and}
use Rattle.bits.specs.Order.{row_bits}
use Rattle.retarget.specs.Runs.{passes}
use Rattle.plan.specs.declared.wanted.Wanted.TheVariants.{Chosen}
use Rattle.plan.specs.Plans.{table_of, plan_shapes}
use Rattle.shifting.specs.Passes.{PassesTest, plan_orders}
use Rattle.passes.proofs.Passing.{ran_all, turn, breaks, pass_small, as_asked}
use Rattle.passes.proofs.run.run_group.Goals as goal

pub returns-in_err-shifted-clause-did : goal.returns-in_err-shifted-clause-did
returns-in_err-shifted-clause-did g c t =
    let p = c.new-plan.result in
    let row = row_bits c.args.sent.now in
    let n = g.S.Scan.network c.args.scan.now in
    let body = row_bits c.args.kept.now in
    let e = err_from_is_err_and c.from_residual-in_err-shifted.result c.from_residual-in_err-shifted.ensures.1 in
    let test : PassesTest (table_of p) = subst PassesTest (sym c.new-plan.ensures.table) t in
    let w = c.loop-done.invariant.1 test in
    let next : c.loop-done.done < passes p.depth = omega (arith, c.passes-done-end.ensures) in
    let lost = c.in_err-shifted.ensures.did (pass_small p c.args.records.now Chosen c.loop-done.done test c.new-plan.ensures.table c.new-plan.ensures.depth next) test c.loop-done.invariant.0 (ap (λ n. n.phase) w.0) in
    rw (e.1, e.2) (
    as_asked g.S.Scan.losses p c.args.records.now Chosen row n body (Err c.in_err-shifted.field-0.0) (g.S.Scan.network c.pass.new.scan) (row_bits c.pass.new.body)
    c.new-plan.ensures.table c.new-plan.ensures.wanted c.new-plan.ensures.depth
    (breaks g.S.Scan.losses p.depth (plan_shapes p (length (table_of p))) (plan_orders p row) n (g.S.Scan.network c.loop-done.scan) (g.S.Scan.network c.pass.new.scan) body (row_bits c.loop-done.kept)
    (row_bits c.pass.new.body) c.loop-done.done c.loop-done.shifted c.in_err-shifted.field-0.0 next w lost)
    )

pub loop-done-preserved : goal.loop-done-preserved
loop-done-preserved g c = (
  c.in_ok-shifted.ensures.kept c.loop-done.invariant.0,
  λ t.
      let p = c.new-plan.result in
      let n = g.S.Scan.network c.args.scan.now in
      let w = c.loop-done.invariant.1 t in
      let next : c.loop-done.done < passes p.depth = omega (arith, c.passes-done-end.ensures) in
      let went = c.in_ok-shifted.ensures.did (pass_small p c.args.records.now Chosen c.loop-done.done t c.new-plan.ensures.table c.new-plan.ensures.depth next) t c.loop-done.invariant.0 (ap (λ n. n.phase) w.0) in
      turn g.S.Scan.losses p.depth (plan_shapes p (length (table_of p))) (plan_orders p (row_bits c.args.sent.now)) n (g.S.Scan.network c.loop-done.scan) (g.S.Scan.network c.pass.new.scan)
      (row_bits c.args.kept.now) (row_bits c.loop-done.kept) (row_bits c.pass.new.body) c.loop-done.done c.loop-done.shifted c.in_ok-shifted.field-0
      ((c.loop-done.shifted + c.in_ok-shifted.field-0) % 2 ^ 64) next w went refl,
)

pub returns-clause-did : goal.returns-clause-did
returns-clause-did g c t =
    let p = c.new-plan.result in
    let row = row_bits c.args.sent.now in
    let n = g.S.Scan.network c.args.scan.now in
    let body = row_bits c.args.kept.now in
    let test : PassesTest (table_of p) = subst PassesTest (sym c.new-plan.ensures.table) t in
    let w = c.loop-done.invariant.1 test in
    let done : c.loop-done.done ≡ passes p.depth = omega (arith, c.passes-done-end.ensures) in
    as_asked g.S.Scan.losses p c.args.records.now Chosen row n body (Ok c.loop-done.shifted) (g.S.Scan.network c.loop-done.scan) (row_bits c.loop-done.kept)
    c.new-plan.ensures.table c.new-plan.ensures.wanted c.new-plan.ensures.depth
    (ran_all g.S.Scan.losses p.depth (plan_shapes p (length (table_of p))) (plan_orders p row) n (g.S.Scan.network c.loop-done.scan) body (row_bits c.loop-done.kept) c.loop-done.done c.loop-done.shifted done w)

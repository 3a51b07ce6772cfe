use Rattle.std.proofs.Common.{◌≡◌, ℕ, ◌+◌, ◌-◌, ap, ◌∙◌, arith}
use Rattle.plan.specs.Order.{shape_at}
use Rattle.plan.specs.Plans.{table_of}
use Rattle.plan.specs.Length.{run, seen}
use Rattle.plan.proofs.Chains.{run_back}
use Rattle.plan.proofs.wanted.Plan.behind.Goals as goal

pub returns-clause-count : goal.returns-clause-count
returns-clause-count c pass =
    let p = c.args.self.now in
    let b = c.args.bottom in
    let m = c.args.number - 1 - b in
    let d = (shape_at (table_of p) c.args.number).depth in
    let top : b + m ≡ c.args.number - 1 = omega (arith, c.requires) in
    c.deeper_below.ensures ∙ run_back p pass d b m (omega (arith, c.requires)) ∙ ap (λ (n : ℕ). run d (seen p pass n b)) top

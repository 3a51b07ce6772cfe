use Rattle.std.proofs.Common.{◌≡◌, suc, ◌-◌, Bool, true, sym, refl, ap, ◌∙◌, ◌&&◌, arith, rules}
use Rattle.std.proofs.lemmas.Iterator.Search.{any_from_yields_List, YieldsList-from_take_while}
use borrow.Author.Tests.{tests}
use Rattle.table.specs.Rules.{is_doorway}
use Rattle.table.specs.Marks.{numbered}
use Rattle.retarget.specs.Wants.{found}
use Rattle.plan.specs.Order.{shape_at, wanted_at}
use Rattle.plan.specs.Plans.{table_of, plan_shapes, plan_wants, deeper_at}
use Rattle.plan.proofs.Numbers.{needed_step}
use Rattle.plan.proofs.Chains.{yields_countdown, any_behind}
use Rattle.plan.proofs.wanted.Plan.needs.Goals as goal

pub returns-in-Doorway : goal.returns-in-Doorway
returns-in-Doorway c =
    let p = c.args.self.now in
    let n = c.args.number in
    let d = (shape_at (table_of p) n).depth in
    let doorway : is_doorway (numbered (table_of p) n).kind ≡ true = ap is_doorway c.in-Doorway.is in
    any_from_yields_List (wanted_at p.wanted (table_of p)) _ _ c.any.result c.any.ensures.ran
    (YieldsList-from_take_while _ (deeper_at (table_of p) d) (yields_countdown {s = c.take_while.result.iter} 1 n (n - 1) (ap (λ r. r.iter) c.take_while.ensures.source ∙ c.rev.ensures.source) refl) c.take_while.ensures.closure c.take_while.ensures.done (λ x b q k. search (rules, tests)))
    (λ x b q k. search (rules, tests))
    ∙ any_behind p d (n - 1) (omega (arith, c.requires))
    ∙ ap (λ (b : Bool). b && found (suc d) (plan_shapes p (n - 1)) (plan_wants p (n - 1))) (sym doorway)
    ∙ sym (needed_step p n c.requires.0)

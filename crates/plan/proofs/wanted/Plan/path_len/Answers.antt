use Rattle.std.proofs.Common.{◌≡◌, ℕ, ◌%◌, ◌^◌, false, map, length, sym, ap, ◌∙◌, subst, ap₂, arith}
use Rattle.retarget.specs.Shapes.{Formed, span}
use Rattle.plan.specs.Order.{down}
use Rattle.plan.specs.Plans.{table_of, plan_shapes}
use Rattle.plan.specs.Length.{section, seen_at}
use Rattle.plan.proofs.Numbers.{opened_down, map_down}
use Rattle.plan.proofs.Sections.{shape_in, latch_in, section_span, seen_all}
use Rattle.plan.proofs.wanted.Plan.path_len.Goals as goal

pub returns : goal.returns
returns c formed =
    let p = c.args.self.now in
    let pass = c.args.pass in
    let n = length (table_of p) in
    let all = down (seen_at p pass) n in
    let shapes : map shape_in all ≡ plan_shapes p n = map_down shape_in (seen_at p pass) n in
    let latches = map_down latch_in (seen_at p pass) n ∙ sym (opened_down p pass n) in
    let counted = section_span 1 false 0 all (subst (Formed 1) (sym shapes) formed) (λ _. omega arith) in
    c.section_len.ensures
    ∙ ap (λ (k : ℕ). k % 2 ^ 64) (ap (section false 0) (seen_all p pass n) ∙ counted ∙ ap₂ (span 1) shapes latches)

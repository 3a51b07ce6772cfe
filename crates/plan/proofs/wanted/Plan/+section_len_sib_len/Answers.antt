use Rattle.std.proofs.Common.{ℕ, ◌+◌, ◌-◌, ◌%◌, ◌^◌, false, ap, ◌∙◌, mod-lt, arith, lit<}
use Rattle.plan.specs.Length.{section, seen}
use Rattle.plan.proofs.Sections.{section_turn}
use Rattle.plan.proofs.wanted.Plan.+section_len_sib_len.Goals as goal

pub section_len-loop-number-preserved : goal.section_len-loop-number-preserved
section_len-loop-number-preserved t c =
    let p = c.args.self.now in
    let n = c.loop-number.number in
    let k = c.behind.result in
    let turn = section_turn p c.args.pass n c.args.bottom k c.loop-number.sum (2 ^ 64) c.loop-number-test.true c.behind.ensures.within (c.behind.ensures.count c.args.pass) in (
      omega (arith, c.behind.ensures.within),
      omega (arith, c.behind.ensures.within),
      mod-lt (c.loop-number.sum + c.sib_len-sum.result) (lit< tt),
      ap (λ (s : ℕ). ((c.loop-number.sum + s) % 2 ^ 64 + section false 0 (seen p c.args.pass (n - 1 - k) c.args.bottom)) % 2 ^ 64) c.sib_len-sum.ensures ∙ turn ∙ c.loop-number.invariant.3,
    )

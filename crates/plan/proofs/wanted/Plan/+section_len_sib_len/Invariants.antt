use Rattle.std.proofs.Common.{◌≡◌, ◌+◌, ◌-◌, ◌*◌, ◌%◌, ◌^◌, ◌<◌, ◌≤◌, false}
use Rattle.plan.specs.Length.{section, seen}
use Rattle.plan.proofs.wanted.Plan.+section_len_sib_len.Given as goal

abbrev pub decreases-section_len : goal.decreases-section_len
decreases-section_len l = 2 * (l.top - l.bottom) + 1

abbrev pub decreases-sib_len : goal.decreases-sib_len
decreases-sib_len l = 2 * (l.number - l.bottom)

abbrev pub invariant-section_len-loop-number : goal.invariant-section_len-loop-number
invariant-section_len-loop-number l =
    (l.number ≤ l.top) × (l.bottom ≤ l.number) × (l.sum < 2 ^ 64)
    × ((l.sum + section false 0 (seen l.self l.pass l.number l.bottom)) % 2 ^ 64 ≡ section false 0 (seen l.self l.pass l.top l.bottom) % 2 ^ 64)

abbrev pub decreases-section_len-loop-number : goal.decreases-section_len-loop-number
decreases-section_len-loop-number l = l.number - l.bottom

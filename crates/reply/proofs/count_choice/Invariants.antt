use Rattle.std.proofs.Common.{◌≡◌, ◌*◌, ◌≤◌}
use Rattle.reply.specs.Sizes.{total, chosen_at, sent_at, kept_at, listed_at}
use Rattle.reply.proofs.count_choice.Given as goal

abbrev pub invariant-loop-i : goal.invariant-loop-i
invariant-loop-i l =
    (l.sum.chosen ≡ total (chosen_at l.records) l.i)
    × (l.sum.sent_bits ≡ total (sent_at l.records) l.i)
    × (l.sum.kept_bits ≡ total (kept_at l.records) l.i)
    × (l.sum.listed ≡ total (listed_at l.records) l.i)
    × (l.sum.chosen ≤ l.i) × (l.sum.sent_bits ≤ 65535 * l.i) × (l.sum.kept_bits ≤ 65535 * l.i) × (l.sum.listed ≤ l.i)

use Rattle.std.proofs.Common.{◌∙◌, arith}
use Rattle.reply.specs.Sizes.{chosen_at, sent_at, kept_at, listed_at}
use Rattle.reply.proofs.Totals.{total_next, chosen_next, sent_next, kept_next, listed_next}
use Rattle.reply.proofs.count_choice.Goals as goal

pub loop-i-preserved : goal.loop-i-preserved
loop-i-preserved c =
    let rs = c.args.records.now in
    let i = c.loop-i.i in
    let inv = c.loop-i.invariant in
    let x = c.counts_excluded.ensures in
    let chosen = c.counts_of-one.ensures.chosen in
    let sent = c.counts_of-one.ensures.sent in
    let kept = c.counts_of-one.ensures.kept in
    let listed = c.counts_of-one.ensures.listed in
    let bound = c.counts_of-one.ensures.bound in (
      total_next (chosen_at rs) i _ _ inv.0 (chosen ∙ chosen_next rs i),
      total_next (sent_at rs) i _ _ inv.1 (sent ∙ sent_next rs i),
      total_next (kept_at rs) i _ _ inv.2 (kept ∙ kept_next rs i _ x),
      total_next (listed_at rs) i _ _ inv.3 (listed ∙ listed_next rs i _ x),
      omega arith,
      omega arith,
      omega arith,
      omega arith,
    )

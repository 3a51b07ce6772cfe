use Rattle.std.proofs.Common.{rules, ◌≡◌, ℕ, ◌-◌, ◌≤◌, ◌^◌, Bool, true, false, ◌&&◌, List, [], ◌∷◌, ◌++◌, length, sym, ap, ◌∙◌}
use Rattle.table.specs.Marks.{numbered, is_excluded}
use Rattle.reply.specs.Numbers.{with_numbers, listed}
use Rattle.reply.proofs.Lists.{put_more, pass_over}
use Rattle.reply.proofs.put_list.Goals as goal
use Rattle.reply.proofs.put_list.Goals.{then-records-number+then-counts_excluded, else-records-number, else-records-number-via-then-records-number+else-counts_excluded, else-records-number-via-else-records-number}

pub loop-number-preserved : goal.loop-number-preserved
loop-number-preserved c =
    let rs = c.args.records.now in
    let n = c.loop-number.number in
    let rest = listed rs (n - 1) ++ c.args.size.list ∷ [] in
    let step : with_numbers c.if-records-number.reply c.if-records-number.at rest ≡ with_numbers c.loop-number.reply c.loop-number.at (listed rs n ++ c.args.size.list ∷ []) =
    elim c.if-records-number.branch [
      | then-records-number+then-counts_excluded w ↦
          (let short : length w.put_number.new.reply ≤ 2 ^ 64 - 1 = search rules in
          let here : ((numbered rs n).chosen && is_excluded rs n) ≡ true = ap (λ (b : Bool). b && is_excluded rs n) w.if-records-number.true ∙ sym w.if-counts_excluded.ensures in
          ap (λ (b : List ℕ). with_numbers b c.if-records-number.at rest) w.reply-is
          ∙ ap (λ (k : ℕ). with_numbers w.put_number.new.reply k rest) w.at-is
          ∙ put_more rs c.loop-number.reply w.put_number.new.reply (c.args.size.list ∷ []) c.loop-number.at w.saturating_add-at.result (2 ^ 64 - 1) n short w.saturating_add-at.ensures w.put_number.ensures.after c.loop-number-test.true here)
      | else-records-number w ↦
          (let here : ((numbered rs n).chosen && is_excluded rs n) ≡ false =
          elim w.else-records-number.branch [
            | else-records-number-via-then-records-number+else-counts_excluded v ↦
                (ap (λ (b : Bool). b && is_excluded rs n) v.if-records-number.true ∙ sym v.counts_excluded.ensures ∙ v.if-counts_excluded.false)
            | else-records-number-via-else-records-number v ↦ ap (λ (b : Bool). b && is_excluded rs n) v.if-records-number.false
          ] in
          ap (λ (b : List ℕ). with_numbers b c.if-records-number.at rest) w.reply-is
          ∙ ap (λ (k : ℕ). with_numbers c.loop-number.reply k rest) w.at-is
          ∙ pass_over rs c.loop-number.reply (c.args.size.list ∷ []) c.loop-number.at n c.loop-number-test.true here)
    ] in
    step ∙ c.loop-number.invariant

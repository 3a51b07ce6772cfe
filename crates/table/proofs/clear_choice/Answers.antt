use Rattle.table.specs.Marks.{unchosen}
use Rattle.table.proofs.Over.{over_more}
use Rattle.table.proofs.clear_choice.Goals as goal

pub loop-record-preserved : goal.loop-record-preserved
loop-record-preserved c =
    over_more unchosen c.args.records.now c.loop-record.records c.loop-record.record-index c.unchosen.result _
    c.loop-record-test.true c.loop-record.auto.records c.loop-record.invariant c.unchosen.ensures

use Rattle.table.specs.Marks.{unmarked}
use Rattle.table.proofs.Over.{over_more}
use Rattle.table.proofs.attach.Goals as goal

pub loop-record-preserved : goal.loop-record-preserved
loop-record-preserved c =
    over_more unmarked c.args.records.now c.loop-record.records c.loop-record.record-index c.unmarked.result _
    c.loop-record-test.true c.loop-record.auto.records c.loop-record.invariant c.unmarked.ensures

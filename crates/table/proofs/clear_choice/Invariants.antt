use Rattle.std.proofs.Common.{◌≡◌, ◌++◌, map, take, drop}
use Rattle.table.specs.Marks.{unchosen}
use Rattle.table.proofs.clear_choice.Given as goal

abbrev pub invariant-loop-record : goal.invariant-loop-record
invariant-loop-record l = l.records ≡ map unchosen (take l.record-index l.initial.records) ++ drop l.record-index l.initial.records

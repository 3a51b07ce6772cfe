use Rattle.std.proofs.Common.{◌≡◌, ◌++◌, map, take, drop}
use Rattle.table.specs.Marks.{unmarked}
use Rattle.table.proofs.attach.Given as goal

abbrev pub invariant-loop-record : goal.invariant-loop-record
invariant-loop-record l = l.records ≡ map unmarked (take l.record-index l.initial.records) ++ drop l.record-index l.initial.records

use Rattle.std.proofs.Common.{◌≡◌, drop}
use Rattle.table.specs.Rules.{highest_broken}
use Rattle.table.proofs.Highest.{left_of}
use Rattle.table.proofs.highest_broken.Given as goal

-- what is left gives the answer
abbrev pub invariant-loop-i : goal.invariant-loop-i
invariant-loop-i l = left_of l.i l.depth_before l.broken (drop l.i l.records) ≡ highest_broken 1 l.records

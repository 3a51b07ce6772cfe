use Rattle.std.proofs.Common.{arith, rules}
use Rattle.pdl.proofs.Spans.{cut_at, behind_stops}
use Rattle.pdl.proofs.skip_blanks.Goals as goal

pub returns-clause-cut : goal.returns-clause-cut
returns-clause-cut c = search (rules, cut_at)

pub returns-clause-stops : goal.returns-clause-stops
returns-clause-stops c = grind (arith, behind_stops)

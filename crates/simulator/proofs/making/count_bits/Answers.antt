use Rattle.std.proofs.Common.{◌≡◌, ◌∙◌, rules}
use Rattle.std.specs.List.{sum_by}
use Rattle.table.specs.declared.Record.{Record}
use Rattle.simulator.proofs.Newness.{sum_lengths}
use Rattle.simulator.proofs.making.count_bits.Goals as goal

pub returns : goal.returns
returns c =
    let total : c.sum.result ≡ sum_by (λ (r : Record). r.length) c.args.records.now = search rules in
    total ∙ sum_lengths c.args.records.now

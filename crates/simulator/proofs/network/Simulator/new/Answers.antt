use Rattle.std.proofs.Common.{vec_items, arith}
use Rattle.simulator.proofs.Newness.{fresh_cells}
use Rattle.simulator.proofs.network.Simulator.new.Goals as goal

pub invariant_of-result-clause-room : goal.invariant_of-result-clause-room
invariant_of-result-clause-room c =
    let cells = fresh_cells (vec_items c.in_ok-sites.sites) c.args.records.now c.args.settings.now c.args.held.now c.if-settings-records.false c.in_ok-sites.ensures.0 in
    omega (arith, c.in_ok-path.ensures.2)

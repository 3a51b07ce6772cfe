use Rattle.simulator.proofs.Standing.{shifted_law}
use Rattle.simulator.proofs.calls.SimulatorScan.shift.Goals as goal

pub returns-clause-did : goal.returns-clause-did
returns-clause-did c = let b = c.in_ok-begin_in.ensures.begins in λ _. shifted_law _ _ _ _ b.0 (rw b.1 at c.turn.ensures)

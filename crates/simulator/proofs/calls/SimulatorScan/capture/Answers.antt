use Rattle.simulator.proofs.Standing.{captured_law}
use Rattle.simulator.proofs.calls.SimulatorScan.capture.Goals as goal

pub returns-clause-did : goal.returns-clause-did
returns-clause-did c = let b = c.in_ok-begin_in.ensures.begins in λ _. captured_law _ _ b.0 (rw b.1 at c.fill_path.ensures)

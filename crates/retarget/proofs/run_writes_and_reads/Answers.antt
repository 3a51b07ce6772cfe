use Rattle.retarget.proofs.run_writes_and_reads.Goals as goal
use Rattle.retarget.proofs.Running.{run_law}

pub returns : goal.returns
returns c = run_law

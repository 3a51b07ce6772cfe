use Rattle.scan.proofs.laws.pass_reads_and_writes.Goals as goal
use Rattle.scan.proofs.Queue.{pass_law}

pub returns : goal.returns
returns c = pass_law

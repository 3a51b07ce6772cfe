use Rattle.scan.proofs.laws.sound_path_is_a_queue.Goals as goal
use Rattle.scan.proofs.Queue.{queue_law}

pub returns : goal.returns
returns c = queue_law

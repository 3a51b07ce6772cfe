use Rattle.scan.proofs.laws.path_takes_open_doorways.Goals as goal
use Rattle.scan.proofs.Walk.{walk_law}

pub returns : goal.returns
returns c = walk_law

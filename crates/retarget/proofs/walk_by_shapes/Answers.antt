use Rattle.retarget.proofs.walk_by_shapes.Goals as goal
use Rattle.retarget.proofs.Walking.{walk_by_shapes_law}

pub returns : goal.returns
returns c = walk_by_shapes_law

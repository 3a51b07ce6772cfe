use Rattle.retarget.proofs.string_names_its_cells.Goals as goal
use Rattle.retarget.proofs.Cells.{string_law}

pub returns : goal.returns
returns c = string_law

use Rattle.scan.proofs.laws.calls_change_only_their_part.Goals as goal
use Rattle.scan.proofs.Changing.{change_law}

pub returns : goal.returns
returns c = change_law

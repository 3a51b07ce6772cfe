use Rattle.scan.proofs.laws.what_is_put_is_shown.Goals as goal
use Rattle.scan.proofs.Queue.{fill_law}

pub returns : goal.returns
returns c = fill_law

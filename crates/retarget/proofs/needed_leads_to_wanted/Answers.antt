use Rattle.retarget.proofs.needed_leads_to_wanted.Goals as goal
use Rattle.retarget.proofs.Needing.{needed_law}

pub returns : goal.returns
returns c = needed_law

use Rattle.retarget.proofs.configuration_opens_the_way.Goals as goal
use Rattle.retarget.proofs.Running.{configuration_law}

pub returns : goal.returns
returns c = configuration_law

use Rattle.std.proofs.Common.{length}
use Rattle.script.proofs.die.Die.reply_to.Given as goal

abbrev pub decreases-loop-next : goal.decreases-loop-next
decreases-loop-next l = length l.rest

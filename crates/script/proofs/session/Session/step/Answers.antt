use Rattle.std.proofs.Common.{Ok, arith, subst}
use Rattle.pdl.specs.Text.{Shorter}
use Rattle.script.proofs.session.Session.step.Goals as goal

-- The check's own search proves this too. But of a step that does not go on it says only that it found no proof, where
-- `omega` names lengths at which the goal is false.
pub returns : goal.returns
returns c = omega (arith, subst (λ o. Shorter c.args.text.now (Ok o)) c.in-Some.is c.in_ok-next.ensures.shorter)

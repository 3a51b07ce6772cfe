-- What an answer says of the checks before it.
use Rattle.std.proofs.Common.{◌≡◌, Some, None, Ok, Err, Option, refl}
use Rattle.refusal.specs.Checks.{answered}

pub none_refused : {X E : Type 0} (x : X) {y : X} (o : Option E) → Ok y ≡ answered x o → o ≡ None
none_refused x None e = refl
none_refused x (Some d) e = cc

pub refused_by : {X E : Type 0} (x : X) {e : E} (o : Option E) → Err e ≡ answered x o → o ≡ Some e
refused_by x None p = cc
refused_by x (Some d) p = cc

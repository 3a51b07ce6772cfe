-- Checks that run in an order: the first that fails answers.
use Rattle.std.specs.Prelude.{Bool, cond, List, [], ◌∷◌, Some, None, Ok, Err, Option, Result}

-- a check that holds where the test is true, and else refuses
abbrev pub unless : {E : Type 0} → Bool → E → Option E
unless b e = cond b None (Some e)

abbrev pub or_else : {E : Type 0} → Option E → Option E → Option E
or_else None o = o
or_else (Some e) o = Some e

abbrev pub first_failing : {E : Type 0} → List (Option E) → Option E
first_failing [] = None
first_failing (o ∷ os) = or_else o (first_failing os)

-- the answer of a call that gives x where nothing refuses
abbrev pub answered : {X E : Type 0} → X → Option E → Result X E
answered x None = Ok x
answered x (Some e) = Err e

-- what is left by a call that makes the old into the new where nothing refuses
abbrev pub left : {X E : Type 0} → Option E → X → X → X
left None new old = new
left (Some e) new old = old

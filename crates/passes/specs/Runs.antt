-- What a run does to the network that a transport means: a reset, and then its passes.
use Rattle.std.specs.Prelude.{◌≡◌, ℕ, ◌%◌, ◌^◌, ◌<◌, ◌⊎◌, Bool, List, Ok, Err, Result}
use Rattle.refusal.specs.declared.Loss.{Loss}
use Rattle.refusal.specs.declared.ScanFault.{ScanFault}
use Rattle.scan.specs.Network.{Network}
use Rattle.scan.specs.Calls.{Resets}
use Rattle.retarget.specs.Shapes.{Shape}
use Rattle.retarget.specs.Strings.{Order, string, sieve}
use Rattle.retarget.specs.Runs.{stage, resting, passes, run, kept, shifted}
use Rattle.shifting.specs.Feeding.{laid, StaysFrom, Loses}
use Rattle.shifting.specs.Passes.{trues}

-- A call is lost: the reset, or one of a pass, after the passes before it.
abbrev pub LostOnTheWay : (Loss → Type 0) → ℕ → List Shape → List Order → Network → ScanFault → Network → Type 0
LostOnTheWay can d ps os n e m =
    Resets can n (Err e) m ⊎ ((j : ℕ) × (j < passes d) × Loses can (resting n (stage (string d ps os) n.sites j)) e m)

-- A run of depth d carries out the orders os: it leaves the network at rest after its passes, keeps the bits of the data pass one
-- after the other in `body`, and answers how many bits it shifted. If a call is lost, what the body has beyond the bits to be
-- kept stays.
abbrev pub RunDoes : (Loss → Type 0) → ℕ → List Shape → List Order → Network → List Bool → Result ℕ ScanFault → Network → List Bool → Type 0
RunDoes can d ps os n body (Ok count) m after =
    (m ≡ resting n (run d ps os n.sites)) × (after ≡ laid body 0 (kept d ps os n.sites)) × (count ≡ shifted (string d ps os) (passes d) % 2 ^ 64)
RunDoes can d ps os n body (Err e) m after = LostOnTheWay can d ps os n e m × StaysFrom (trues (sieve d ps os (passes d))) body after

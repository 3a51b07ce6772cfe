-- What each call of a transport does to the network that it means, by its answer.
use Rattle.std.specs.Prelude.{◌≡◌, ◌+◌, ◌%◌, ◌^◌, Bool, ◌≢◌, ◌⊎◌, map, Ok, Err, Result}
use Rattle.refusal.specs.declared.ScanFault.{ScanFault}
use Rattle.refusal.specs.declared.ScanFault.TheVariants.{Lost, WrongPhase}
use Rattle.refusal.specs.declared.Loss.{Loss}
use Rattle.scan.specs.Network.{Network, Phase, rest, scan, broken, build_of, latch_of, held_of}
use Rattle.scan.specs.Path.{path}
use Rattle.scan.specs.Moves.{first, reset, capture, shift, update}

abbrev pub after_reset : Network → Network
after_reset n = record { sites = reset n.sites; phase = rest; lost = n.lost }

abbrev pub after_capture : Network → Network
after_capture n = record { sites = capture n.sites; phase = scan; lost = n.lost }

abbrev pub after_shift : Network → Bool → Network
after_shift n b = record { sites = shift n.sites b; phase = scan; lost = n.lost }

abbrev pub after_update : Network → Network
after_update n = record { sites = update n.sites; phase = rest; lost = n.lost }

-- A lost call counts and breaks the phase; latches and held bits stay, cells may be anything. What never changes stays.
pub record LostCall (n m : Network) : Type 0 where
  pub counted : m.lost ≡ (n.lost + 1) % 2 ^ 64
  pub phase : m.phase ≡ broken
  pub builds : map build_of m.sites ≡ map build_of n.sites
  pub latches : map latch_of m.sites ≡ map latch_of n.sites
  pub held : map held_of m.sites ≡ map held_of n.sites

-- A lost reset may have closed all latches, all or none.
abbrev pub LostReset : Network → Network → Type 0
LostReset n m = LostCall n m ⊎ LostCall (after_reset n) m

-- A transport can answer some losses, by part and parts passed, and no others: `can` says which.
abbrev pub Resets : (Loss → Type 0) → Network → Result (Unit {0}) ScanFault → Network → Type 0
Resets can n (Ok u) m = m ≡ after_reset n
Resets can n (Err (Lost l)) m = can l × LostReset n m
Resets can n (Err WrongPhase) m = ⊥

-- A call that works in one phase is refused in another, and moves nothing then; or it is lost.
abbrev pub Fails : (Loss → Type 0) → Phase → Network → ScanFault → Network → Type 0
Fails can p n (Lost l) m = can l × LostCall n m
Fails can p n WrongPhase m = (n.phase ≢ p) × (m ≡ n)

abbrev pub Captures : (Loss → Type 0) → Network → Result (Unit {0}) ScanFault → Network → Type 0
Captures can n (Ok u) m = (n.phase ≡ rest) × (m ≡ after_capture n)
Captures can n (Err e) m = Fails can rest n e m

abbrev pub Shifts : (Loss → Type 0) → Network → Bool → Result Bool ScanFault → Network → Type 0
Shifts can n b (Ok out) m = (n.phase ≡ scan) × (out ≡ first (path n.sites) b) × (m ≡ after_shift n b)
Shifts can n b (Err e) m = Fails can scan n e m

abbrev pub Updates : (Loss → Type 0) → Network → Result (Unit {0}) ScanFault → Network → Type 0
Updates can n (Ok u) m = (n.phase ≡ scan) × (m ≡ after_update n)
Updates can n (Err e) m = Fails can scan n e m

-- what holds once a call went through
abbrev pub Once : {A E : Type 0} → Result A E → Type 0 → Type 0
Once (Ok x) V = V
Once (Err e) V = Unit {0}

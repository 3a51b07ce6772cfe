-- What a simulator stands for, and what its own steps do to it.
use Rattle.std.specs.Prelude.{◌≡◌, ◌+◌, ◌%◌, ◌^◌, Bool, true, false, Ok, Err, vec_items, Result}
use Rattle.refusal.specs.declared.Loss.{Loss}
use Rattle.refusal.specs.declared.Loss.TheVariants.{Network}
use Rattle.refusal.specs.declared.ScanFault.{ScanFault}
use Rattle.refusal.specs.declared.ScanFault.TheVariants.{Lost, WrongPhase}
use Rattle.scan.specs.Network as model
use Rattle.scan.specs.Network.{shown}
use Rattle.scan.specs.Path.{on, path_offered, path_flaws}
use Rattle.scan.specs.Moves.{fill, first, moved}
use Rattle.scan.specs.Calls.{Fails}
use Rattle.simulator.specs.declared.site.Phase.{Phase}
use Rattle.simulator.specs.declared.site.Phase.TheVariants.{Rest, Scan, Broken}
use Rattle.simulator.specs.declared.network.Simulator.{Simulator}
use Rattle.simulator.specs.Meaning.{meanings, network_of, phase_of}

abbrev pub network : Simulator → model.Network
network s = network_of (vec_items s.sites) s.path.bits.items s.phase s.lost

-- Its losses are the network's own, passed by nobody.
abbrev pub by_network : Loss → Type 0
by_network l = l ≡ Network 0

abbrev pub is_lost : {X : Type 0} → Result X ScanFault → Bool
is_lost (Ok x) = false
is_lost (Err (Lost l)) = true
is_lost (Err WrongPhase) = false

pub record LostAll (s : Simulator) (e : ScanFault) (t : Simulator) : Type 0 where
  pub answer : e ≡ Lost (Network 0)
  pub sites : t.sites ≡ s.sites
  pub phase : t.phase ≡ Broken
  pub count : t.lost ≡ (s.lost + 1) % 2 ^ 64
  pub cable : t.cable_out ≡ s.cable_out

-- A call begins where the cable is in, and else is lost.
abbrev pub Begins : Simulator → Result (Unit {0}) ScanFault → Simulator → Type 0
Begins s (Ok u) t = (s.cable_out ≡ false) × (t ≡ s)
Begins s (Err e) t = (s.cable_out ≡ true) × LostAll s e t

-- A call that works in one phase begins in it, and else is refused, or lost.
abbrev pub BeginsIn : Phase → Simulator → Result (Unit {0}) ScanFault → Simulator → Type 0
BeginsIn p s (Ok u) t = (s.phase ≡ p) × (t ≡ s)
BeginsIn p s (Err e) t = Fails by_network (phase_of p) (network s) e (network t)

pub record Emptied (s : Simulator) (t : Simulator) : Type 0 where
  pub sites : meanings (vec_items t.sites) ≡ fill (on (meanings (vec_items s.sites))) (meanings (vec_items s.sites)) s.path.bits.items
  pub phase : t.phase ≡ Rest
  pub count : t.lost ≡ s.lost
  pub cable : t.cable_out ≡ s.cable_out

pub record Filled (s : Simulator) (t : Simulator) : Type 0 where
  pub sites : t.sites ≡ s.sites
  pub bits : t.path.bits.items ≡ path_offered (meanings (vec_items s.sites))
  pub phase : t.phase ≡ Scan
  pub count : t.lost ≡ s.lost
  pub cable : t.cable_out ≡ s.cable_out

pub record Turned (s : Simulator) (bit out : Bool) (t : Simulator) : Type 0 where
  pub sites : t.sites ≡ s.sites
  pub answer : out ≡ first (shown (path_flaws (meanings (vec_items s.sites))) s.path.bits.items) bit
  pub bits : t.path.bits.items ≡ moved (shown (path_flaws (meanings (vec_items s.sites))) s.path.bits.items) bit
  pub phase : t.phase ≡ Scan
  pub count : t.lost ≡ s.lost
  pub cable : t.cable_out ≡ s.cable_out

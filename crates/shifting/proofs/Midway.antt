-- A network between two shifts, by what is left to be shifted.
use Rattle.std.proofs.Common.{◌≡◌, ℕ, ◌+◌, ◌%◌, ◌^◌, Bool, List, [], ◌∷◌, map, Ok, refl, ap, ◌∙◌}
use Rattle.refusal.specs.declared.Loss.{Loss}
use Rattle.refusal.specs.declared.ScanFault.{ScanFault}
use Rattle.refusal.specs.declared.ScanFault.TheVariants.{Lost, WrongPhase}
use Rattle.scan.specs.Network.{Network, Phase, scan, build_of, latch_of, held_of}
use Rattle.scan.specs.Moves.{feed}
use Rattle.scan.specs.Calls.{LostCall, Fails, Shifts, after_shift}
use Rattle.scan.proofs.Changing.{change_law}
use Rattle.shifting.specs.Feeding.{fed, Loses}

-- Only cells differ from what was.
pub record Same (b x : Network) : Type 0 where
  pub lost : x.lost ≡ b.lost
  pub builds : map build_of x.sites ≡ map build_of b.sites
  pub latches : map latch_of x.sites ≡ map latch_of b.sites
  pub held : map held_of x.sites ≡ map held_of b.sites

pub same_none : (b : Network) → Same b b
same_none b = record { lost = refl; builds = refl; latches = refl; held = refl }

pub same_more : (a b c : Network) → Same a b → Same b c → Same a c
same_more a b c p q = record { lost = q.lost ∙ p.lost; builds = q.builds ∙ p.builds; latches = q.latches ∙ p.latches; held = q.held ∙ p.held }

pub same_shift : (b : Network) (bit : Bool) → Same b (after_shift b bit)
same_shift b bit = let k = change_law b.sites bit in record { lost = refl; builds = k.shifted.builds; latches = k.shifted_latches; held = k.shifted_held }

pub same_lost : (b x m : Network) → Same b x → LostCall x m → LostCall b m
same_lost b x m s l = record {
  counted = l.counted ∙ ap (λ (k : ℕ). (k + 1) % 2 ^ 64) s.lost;
  phase = l.phase;
  builds = l.builds ∙ s.builds;
  latches = l.latches ∙ s.latches;
  held = l.held ∙ s.held;
}

pub same_fails : (can : Loss → Type 0) (p : Phase) (b x : Network) (e : ScanFault) (m : Network) → Same b x → x.phase ≡ p → Fails can p x e m → Loses can b e m
same_fails can p b x (Lost l) m s h f = (f.0, same_lost b x m s f.1)
same_fails can p b x WrongPhase m s h f = absurd (f.0 h)

pub same_loses : (can : Loss → Type 0) (b x : Network) (e : ScanFault) (m : Network) → Same b x → Loses can x e m → Loses can b e m
same_loses can b x (Lost l) m s f = (f.0, same_lost b x m s f.1)
same_loses can b x WrongPhase m s f = f

-- `rest` is what is left of the bits `whole` that go into b; x is the network now.
pub record Midway (b x : Network) (whole rest : List Bool) : Type 0 where
  pub phase : x.phase ≡ scan
  pub same : Same b x
  pub fed : feed x.sites rest ≡ feed b.sites whole

pub midway_none : (b : Network) (whole : List Bool) → b.phase ≡ scan → Midway b b whole whole
midway_none b whole h = record { phase = h; same = same_none b; fed = refl }

pub midway_more : (can : Loss → Type 0) (b x y : Network) (whole rest : List Bool) (bit out : Bool) → Midway b x whole (bit ∷ rest) → Shifts can x bit (Ok out) y → Midway b y whole rest
midway_more can b x y whole rest bit out w s =
    let S : Network → Type 0 = Same b in
    let next : y ≡ after_shift x bit = s.2 in
    record {
      phase = ap (λ (n : Network). n.phase) next;
      same = rw next (same_more b x (after_shift x bit) w.same (same_shift x bit));
      fed = ap (λ (n : Network). feed n.sites rest) next ∙ w.fed;
    }

pub midway_fails : (can : Loss → Type 0) (b x : Network) (whole rest : List Bool) (e : ScanFault) (m : Network) → Midway b x whole rest → Fails can scan x e m → Loses can b e m
midway_fails can b x whole rest e m w f = same_fails can scan b x e m w.same w.phase f

pub midway_all : (b x : Network) (whole : List Bool) → Midway b x whole [] → x ≡ fed b whole
midway_all b x whole w = λ i. record { sites = w.fed i; phase = w.phase i; lost = w.same.lost i }

-- what has been shifted into a network leaves it the same
pub same_feed : (b : Network) (bits : List Bool) → Same b (fed b bits)
same_feed b [] = record { lost = refl; builds = refl; latches = refl; held = refl }
same_feed b (bit ∷ bits) = same_more b (after_shift b bit) (fed b (bit ∷ bits)) (same_shift b bit) (same_feed (after_shift b bit) bits)

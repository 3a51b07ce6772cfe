-- What a simulator stands for, before and after each of its calls.
use Rattle.std.specs.Prelude.{◌≡◌, ℕ, Bool, List, map, vec_items, refl}
use Rattle.std.proofs.Common.{sym, ap, ◌∙◌}
use Rattle.scan.specs.Network as model
use Rattle.scan.specs.Network.{build_of, latch_of, held_of}
use Rattle.scan.specs.Path.{on, path}
use Rattle.scan.specs.Moves.{put, capture, shift, first}
use Rattle.scan.specs.Calls.{LostCall, after_capture, after_shift}
use Rattle.scan.proofs.Fill.{map_spread, path_fill, capture_is_fill}
use Rattle.scan.proofs.Queue.{shift_fill}
use Rattle.refusal.specs.declared.ScanFault.{ScanFault}
use Rattle.simulator.specs.declared.site.Phase.{Phase}
use Rattle.simulator.specs.declared.site.Phase.TheVariants.{Rest, Scan, Broken}
use Rattle.simulator.specs.declared.network.Simulator.{Simulator}
use Rattle.simulator.specs.Meaning.{meanings, sites_now, phase_of}
use Rattle.simulator.specs.Simulated.{network, LostAll, Filled, Turned}
use Rattle.simulator.specs.NetworkFits.{sites_fit, scan_bits}

-- what the path's cells do not touch is the same in every phase
kept_now : {X : Type 0} (g : model.Site → X) → ((m : model.Site) (bs : List Bool) → g (put m bs) ≡ g m)
    → (p : Phase) (ms : List model.Site) (bits : List Bool) → map g (sites_now p ms bits) ≡ map g ms
kept_now g h Rest ms bits = refl
kept_now g h Scan ms bits = map_spread g put h (on ms) ms bits
kept_now g h Broken ms bits = refl

kept_lost : {X : Type 0} (g : model.Site → X) → ((m : model.Site) (bs : List Bool) → g (put m bs) ≡ g m) → (s t : Simulator) → t.sites ≡ s.sites
    → map g (network t).sites ≡ map g (network s).sites
kept_lost g h s t e =
    kept_now g h t.phase _ _ ∙ ap (λ ss. map g (meanings (vec_items ss))) e ∙ sym (kept_now g h s.phase _ _)

pub lost_call : (s t : Simulator) (e : ScanFault) → LostAll s e t → LostCall (network s) (network t)
lost_call s t e w = record {
  counted = w.count;
  phase = ap phase_of w.phase;
  builds = kept_lost build_of (λ _ _. refl) s t w.sites;
  latches = kept_lost latch_of (λ _ _. refl) s t w.sites;
  held = kept_lost held_of (λ _ _. refl) s t w.sites;
}

-- two networks with the same parts
same_network : {ss ts : List model.Site} {p q : model.Phase} {n m : ℕ} → ss ≡ ts → p ≡ q → n ≡ m
    → ◌≡◌ {A = model.Network} (record { sites = ss; phase = p; lost = n }) (record { sites = ts; phase = q; lost = m })
same_network a b c = λ i. record { sites = a i; phase = b i; lost = c i }

pub captured_law : (s t : Simulator) → s.phase ≡ Rest → Filled s t → ((network s).phase ≡ model.rest) × (network t ≡ after_capture (network s))
captured_law s t e w =
    let ms = meanings (vec_items s.sites) in
    let sites : sites_now t.phase (meanings (vec_items t.sites)) t.path.bits.items ≡ capture (sites_now s.phase ms s.path.bits.items) =
    rw (w.phase, w.sites, w.bits, e) (sym (capture_is_fill ms (sites_fit (vec_items s.sites)))) in
    (ap phase_of e, same_network sites (ap phase_of w.phase) w.count)

pub shifted_law : (s t : Simulator) (bit out : Bool) → s.phase ≡ Scan → Turned s bit out t
    → ((network s).phase ≡ model.scan) × (out ≡ first (path (network s).sites) bit) × (network t ≡ after_shift (network s) bit)
shifted_law s t bit out e w =
    let ms = meanings (vec_items s.sites) in
    let long = scan_bits s e in
    let sites : sites_now t.phase (meanings (vec_items t.sites)) t.path.bits.items ≡ shift (sites_now s.phase ms s.path.bits.items) bit =
    rw (w.phase, w.sites, w.bits, e) (sym (shift_fill ms s.path.bits.items bit long)) in
    let answer : out ≡ first (path (sites_now s.phase ms s.path.bits.items)) bit =
    rw e (w.answer ∙ ap (λ (xs : List Bool). first xs bit) (sym (path_fill ms s.path.bits.items long))) in
    (ap phase_of e, answer, same_network sites (ap phase_of w.phase) w.count)

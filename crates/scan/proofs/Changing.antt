-- What the calls leave alone.
use Rattle.std.proofs.Common.{◌≡◌, ℕ, zero, suc, Bool, true, false, List, [], ◌∷◌, map, length, get_or, drop, refl}
use Rattle.scan.specs.Network.{Site, build_of, latch_of, held_of}
use Rattle.scan.specs.Path.{on, path, flaws_of}
use Rattle.scan.specs.Moves.{put, each, spread, captured, updated, moved, reset}
use Rattle.scan.specs.Laws.{CallsChangeOnlyTheirPart}
use Rattle.scan.proofs.Fill.{map_spread, map_each, map_reset}

each_off : (f : Site → Site) (ms : List Bool) (ss : List Site) (i : ℕ) (d : Site) → get_or ms i false ≡ false → get_or (each f ms ss) i d ≡ get_or ss i d
each_off f [] ss i d e = refl
each_off f (m ∷ ms) [] i d e = refl
each_off f (true ∷ ms) (s ∷ ss) zero d e = cc
each_off f (true ∷ ms) (s ∷ ss) (suc i) d e = each_off f ms ss i d e
each_off f (false ∷ ms) (s ∷ ss) zero d e = refl
each_off f (false ∷ ms) (s ∷ ss) (suc i) d e = each_off f ms ss i d e

spread_off : (f : Site → List Bool → Site) (ms : List Bool) (ss : List Site) (bs : List Bool) (i : ℕ) (d : Site) → get_or ms i false ≡ false → get_or (spread f ms ss bs) i d ≡ get_or ss i d
spread_off f [] ss bs i d e = refl
spread_off f (m ∷ ms) [] bs i d e = refl
spread_off f (true ∷ ms) (s ∷ ss) bs zero d e = cc
spread_off f (true ∷ ms) (s ∷ ss) bs (suc i) d e = spread_off f ms ss (drop (length (flaws_of s)) bs) i d e
spread_off f (false ∷ ms) (s ∷ ss) bs zero d e = refl
spread_off f (false ∷ ms) (s ∷ ss) bs (suc i) d e = spread_off f ms ss bs i d e

all_closed : (ss : List Site) (i : ℕ) → get_or (map latch_of (reset ss)) i false ≡ false
all_closed [] i = refl
all_closed (s ∷ ss) zero = refl
all_closed (s ∷ ss) (suc i) = all_closed ss i

pub change_law : CallsChangeOnlyTheirPart
change_law ss b = record {
  captured = record { builds = map_each build_of captured (λ _. refl) (on ss) ss; off_path = each_off captured (on ss) ss };
  captured_latches = map_each latch_of captured (λ _. refl) (on ss) ss;
  captured_held = map_each held_of captured (λ _. refl) (on ss) ss;
  shifted = record { builds = map_spread build_of put (λ _ _. refl) (on ss) ss (moved (path ss) b); off_path = spread_off put (on ss) ss (moved (path ss) b) };
  shifted_latches = map_spread latch_of put (λ _ _. refl) (on ss) ss (moved (path ss) b);
  shifted_held = map_spread held_of put (λ _ _. refl) (on ss) ss (moved (path ss) b);
  updated = record { builds = map_each build_of updated (λ _. refl) (on ss) ss; off_path = each_off updated (on ss) ss };
  reset_builds = map_reset build_of (λ _. refl) ss;
  reset_held = map_reset held_of (λ _. refl) ss;
  reset_closed = all_closed ss;
}

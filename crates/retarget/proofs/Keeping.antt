-- What passes keep, over any path, sound or not.
use Rattle.std.proofs.Common.{◌≡◌, ℕ, zero, suc, Bool, List, [], ◌∷◌, map, refl, ◌∙◌}
use Rattle.scan.specs.Network.{Site, build_of, Fits, Each}
use Rattle.scan.specs.Path.{on, path}
use Rattle.scan.specs.Moves.{put, moved, captured, updated, capture, shift, feed}
use Rattle.scan.proofs.Fill.{map_spread, map_each, map_reset}
use Rattle.scan.proofs.Sizes.{fits_capture, fits_feed, fits_update, fits_reset}
use Rattle.retarget.specs.Runs.{through, stage}

-- what a put of one site keeps, bits shifted in keep
pub map_feed : {X : Type 0} (g : Site → X) → ((s : Site) (bs : List Bool) → g (put s bs) ≡ g s) → (ss : List Site) (bs : List Bool) → map g (feed ss bs) ≡ map g ss
map_feed g h ss [] = refl
map_feed g h ss (b ∷ bs) = map_feed g h (shift ss b) bs ∙ map_spread g put h (on ss) ss (moved (path ss) b)

pub builds_through : (ss : List Site) (bs : List Bool) → map build_of (through ss bs) ≡ map build_of ss
builds_through ss bs =
    map_each build_of updated (λ _. refl) (on (feed (capture ss) bs)) (feed (capture ss) bs)
    ∙ map_feed build_of (λ _ _. refl) (capture ss) bs
    ∙ map_each build_of captured (λ _. refl) (on ss) ss

pub fits_through : (ss : List Site) (bs : List Bool) → Each Fits ss → Each Fits (through ss bs)
fits_through ss bs f = fits_update (feed (capture ss) bs) (fits_feed (capture ss) bs (fits_capture ss f))

pub builds_stage : (string : ℕ → List Bool) (ss : List Site) (n : ℕ) → map build_of (stage string ss n) ≡ map build_of ss
builds_stage string ss zero = map_reset build_of (λ _. refl) ss
builds_stage string ss (suc n) = builds_through (stage string ss n) (string (suc n)) ∙ builds_stage string ss n

pub fits_stage : (string : ℕ → List Bool) (ss : List Site) (n : ℕ) → Each Fits ss → Each Fits (stage string ss n)
fits_stage string ss zero f = fits_reset ss f
fits_stage string ss (suc n) f = fits_through (stage string ss n) (string (suc n)) (fits_stage string ss n f)

-- A row of cells, of which one may be stuck, and what is held of it.
use Rattle.std.proofs.Common.{◌≡◌, ℕ, zero, suc, Bool, List, [], ◌∷◌, length, set, replicate, Some, None, Option, refl, ap}
use Rattle.scan.specs.Network.{sound, stuck, shown}
use Rattle.simulator.specs.declared.site.Stuck.{Stuck}
use Rattle.simulator.specs.Meaning.{row_flaws}

shown_sound_row : (xs : List Bool) → shown (replicate (length xs) sound) xs ≡ xs
shown_sound_row [] = refl
shown_sound_row (x ∷ xs) = ap (λ ys. x ∷ ys) (shown_sound_row xs)

shown_stuck_row : (xs : List Bool) (k : ℕ) (b : Bool) → shown (set (replicate (length xs) sound) k (stuck b)) xs ≡ set xs k b
shown_stuck_row [] k b = refl
shown_stuck_row (x ∷ xs) zero b = ap (λ ys. b ∷ ys) (shown_sound_row xs)
shown_stuck_row (x ∷ xs) (suc k) b = ap (λ ys. x ∷ ys) (shown_stuck_row xs k b)

abbrev pub as_held : Option Stuck → List Bool → List Bool
as_held None xs = xs
as_held (Some f) xs = set xs f.cell f.bit

pub shown_row : (xs : List Bool) (o : Option Stuck) → shown (row_flaws (length xs) o) xs ≡ as_held o xs
shown_row xs None = shown_sound_row xs
shown_row xs (Some f) = shown_stuck_row xs f.cell f.bit

-- How many cells there are is a matter of what never changes.
use Rattle.std.proofs.Common.{◌≡◌, ℕ, suc, ◌+◌, Bool, List, [], ◌∷◌, map, length, vec_items, sym, refl, ap, ◌∙◌, ap₂}
use Rattle.scan.specs.Network as model
use Rattle.scan.specs.Network.{Build, build_of}
use Rattle.scan.specs.Path.{on}
use Rattle.scan.specs.Moves.{fill, put, update, updated, reset}
use Rattle.scan.proofs.Fill.{map_spread, map_each, map_reset}
use Rattle.simulator.specs.declared.site.Site.{Site}
use Rattle.simulator.specs.Meaning.{meanings, all_cells}
use Rattle.simulator.specs.NetworkFits.{length_row_flaws}

abbrev pub built_cells : List Build → ℕ
built_cells [] = 0
built_cells (b ∷ bs) = suc (length b.flaws) + built_cells bs

pub all_built : (ss : List Site) → all_cells ss ≡ built_cells (map build_of (meanings ss))
all_built [] = refl
all_built (s ∷ ss) = ap₂ (λ (n m : ℕ). suc n + m) (sym (length_row_flaws (length (vec_items s.row)) s.fault)) (all_built ss)

same_built : (ss ts : List Site) (ms : List model.Site) → meanings ss ≡ ms → map build_of ms ≡ map build_of (meanings ts) → all_cells ss ≡ all_cells ts
same_built ss ts ms e b = all_built ss ∙ ap built_cells (ap (map build_of) e ∙ b) ∙ sym (all_built ts)

pub cells_filled : (ss ts : List Site) (ms bs : List Bool) → meanings ss ≡ fill ms (meanings ts) bs → all_cells ss ≡ all_cells ts
cells_filled ss ts ms bs e = same_built ss ts _ e (map_spread build_of put (λ _ _. refl) ms (meanings ts) bs)

pub cells_updated : (ss ts : List Site) (ms bs : List Bool) → meanings ss ≡ update (fill ms (meanings ts) bs) → all_cells ss ≡ all_cells ts
cells_updated ss ts ms bs e =
    let filled = fill ms (meanings ts) bs in
    same_built ss ts _ e (map_each build_of updated (λ _. refl) (on filled) filled ∙ map_spread build_of put (λ _ _. refl) ms (meanings ts) bs)

pub cells_reset : (ss ts : List Site) → meanings ss ≡ reset (meanings ts) → all_cells ss ≡ all_cells ts
cells_reset ss ts e = same_built ss ts _ e (map_reset build_of (λ _. refl) (meanings ts))

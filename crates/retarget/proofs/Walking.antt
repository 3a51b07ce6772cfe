-- The walk over shapes is the walk over a network's SIBs, and a path is as long as its span.
use Rattle.std.proofs.Common.{◌≡◌, ℕ, suc, ◌+◌, Bool, true, false, cond, leb, List, [], ◌∷◌, map, length, refl, ap, ◌∙◌, ap₂, arith, length-append}
use Rattle.scan.specs.Network.{Site, build_of, latch_of, live}
use Rattle.scan.specs.Path.{marks, pick, flaws_of}
use Rattle.scan.proofs.Sizes.{length_path}
use Rattle.retarget.specs.Shapes.{shape_of, shapes_of, reach_after, on_path, sib_cells, span}
use Rattle.retarget.specs.Laws.{WalkByShapes}

pub on_path_is : (r : ℕ) (ss : List Site) → on_path r (shapes_of ss) (map latch_of ss) ≡ marks r (map build_of ss) (map latch_of ss)
on_path_is r [] = refl
on_path_is r (s ∷ ss) = ap (λ (ms : List Bool). leb s.build.depth r ∷ ms) (on_path_is (reach_after r (shape_of s) s.latch) ss)

pub length_row : {X : Type 0} (l : Bool) (xs : List X) → length (cond l xs []) ≡ cond l (length xs) 0
length_row true xs = refl
length_row false xs = refl

-- one SIB's part of a list, on the path or not
pub length_pick_more : {X : Type 0} (m : Bool) (ms : List Bool) (x : List X) (xs : List (List X)) (k n : ℕ) → length x ≡ k → length (pick ms xs) ≡ n
    → length (pick (m ∷ ms) (x ∷ xs)) ≡ cond m k 0 + n
length_pick_more true ms x xs k n e i = length-append x (pick ms xs) ∙ ap₂ ◌+◌ e i
length_pick_more false ms x xs k n e i = omega (arith, i)

pub span_is : (r : ℕ) (ss : List Site) → length (pick (marks r (map build_of ss) (map latch_of ss)) (map flaws_of ss)) ≡ span r (shapes_of ss) (map latch_of ss)
span_is r [] = refl
span_is r (s ∷ ss) =
    let r' = reach_after r (shape_of s) s.latch in
    length_pick_more (leb s.build.depth r) (marks r' (map build_of ss) (map latch_of ss)) (flaws_of s) (map flaws_of ss)
    (sib_cells (shape_of s) s.latch) (span r' (shapes_of ss) (map latch_of ss)) (ap suc (length_row (live s) s.build.flaws)) (span_is r' ss)

pub walk_by_shapes_law : WalkByShapes
walk_by_shapes_law ss f = record { marks = on_path_is 1 ss; length = length_path ss f ∙ span_is 1 ss }

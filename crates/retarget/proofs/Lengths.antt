-- How long lists by SIB, strings and sieves are, by shapes alone.
use Rattle.std.proofs.Common.{◌≡◌, ℕ, suc, Bool, false, cond, not, ◌&&◌, ◌||◌, ltb, leb, List, [], ◌∷◌, map, length, replicate, sym, refl, ap, ◌∙◌, arith}
use Rattle.std.proofs.lemmas.List.{length-replicate}
use Rattle.scan.specs.Path.{pick}
use Rattle.retarget.specs.Shapes.{Shape, reach_after, on_path, sib_cells, span}
use Rattle.retarget.specs.Wants.{wanted, found, needed, aims, opened}
use Rattle.retarget.specs.Strings.{Order, asks, reads, word, part, parts, string, mask, masks, sieve}
use Rattle.retarget.specs.Laws.{Apt}
use Rattle.retarget.proofs.Walking.{length_row, length_pick_more}
use Rattle.retarget.proofs.Cells.{open_wanted}

pub length_apt : (ps : List Shape) (os : List Order) → Apt ps os → length os ≡ length ps
length_apt [] [] a = refl
length_apt [] (o ∷ os) a = absurd a
length_apt (q ∷ ps) [] a = absurd a
length_apt (q ∷ ps) (o ∷ os) a = ap suc (length_apt ps os a.1)

pub length_aims : (d p : ℕ) (ps : List Shape) (ws : List Bool) → length ws ≡ length ps → length (aims d p ps ws) ≡ length ps
length_aims d p [] ws e = refl
length_aims d p (q ∷ ps) [] e = absurd (omega (arith, e))
length_aims d p (q ∷ ps) (w ∷ ws) e = ap suc (length_aims d p ps ws (omega (arith, e)))

pub length_opened : (d p : ℕ) (ps : List Shape) (ws : List Bool) → length ws ≡ length ps → length (opened d p ps ws) ≡ length ps
length_opened d p [] ws e = refl
length_opened d p (q ∷ ps) [] e = absurd (omega (arith, e))
length_opened d p (q ∷ ps) (w ∷ ws) e = ap suc (length_opened d p ps ws (omega (arith, e)))

-- One SIB's part: y says whether it has bits for the row, x whether the row is on the path.
length_part : (x y g : Bool) (bs : List Bool) (n : ℕ) → y ≡ x → length bs ≡ n → length (g ∷ cond y bs []) ≡ suc (cond x n 0)
length_part x y g bs n e k = ap suc (length_row y bs ∙ ap (λ (z : Bool). cond z (length bs) 0) e ∙ ap (λ (m : ℕ). cond x m 0) k)

length_parts : (d p r : ℕ) (ps : List Shape) (os : List Order) → Apt ps os
    → length (pick (on_path r ps (opened d p ps (map asks os))) (parts ps (aims d p ps (map asks os)) (opened d p ps (map asks os)) os)) ≡ span r ps (opened d p ps (map asks os))
length_parts d p r [] os a = refl
length_parts d p r (q ∷ ps) [] a = absurd a
length_parts d p r (q ∷ ps) (o ∷ os) a =
    let ws = map asks os in
    let ls = opened d p ps ws in
    let gs = aims d p ps ws in
    let l = (needed q ps ws && ltb q.depth p) || (wanted q (asks o) && ltb d p) in
    let g = needed q ps ws || (wanted q (asks o) && leb d p) in
    let r' = reach_after r q l in
    length_pick_more (leb q.depth r) (on_path r' ps ls) (part q g l o) (parts ps gs ls os) (sib_cells q l) (span r' ps ls)
    (length_part (l && not q.doorway) (l && wanted q (asks o)) g (word q o) q.cells (open_wanted q.doorway (found (suc q.depth) ps ws) (asks o) (ltb q.depth p) (ltb d p)) a.0)
    (length_parts d p r' ps os a.1)

-- A string is as long as the path that its pass finds.
pub length_string : (d p : ℕ) (ps : List Shape) (os : List Order) → Apt ps os → length (string d ps os p) ≡ span 1 ps (opened d p ps (map asks os))
length_string d p ps os a = length_parts d p 1 ps os a

length_masks : (d p r : ℕ) (ps : List Shape) (os : List Order) → Apt ps os
    → length (pick (on_path r ps (opened d p ps (map asks os))) (masks ps (opened d p ps (map asks os)) os)) ≡ span r ps (opened d p ps (map asks os))
length_masks d p r [] os a = refl
length_masks d p r (q ∷ ps) [] a = absurd a
length_masks d p r (q ∷ ps) (o ∷ os) a =
    let ws = map asks os in
    let ls = opened d p ps ws in
    let l = (needed q ps ws && ltb q.depth p) || (wanted q (asks o) && ltb d p) in
    let r' = reach_after r q l in
    length_pick_more (leb q.depth r) (on_path r' ps ls) (mask q l o) (masks ps ls os) (sib_cells q l) (span r' ps ls)
    (length_part (l && not q.doorway) (l && wanted q (asks o)) false (replicate q.cells (reads o)) q.cells
    (open_wanted q.doorway (found (suc q.depth) ps ws) (asks o) (ltb q.depth p) (ltb d p)) (length-replicate q.cells (reads o)))
    (length_masks d p r' ps os a.1)

-- A sieve has a mark for each bit of its string.
pub length_sieve : (d p : ℕ) (ps : List Shape) (os : List Order) → Apt ps os → length (sieve d ps os p) ≡ length (string d ps os p)
length_sieve d p ps os a = length_masks d p 1 ps os a ∙ sym (length_string d p ps os a)

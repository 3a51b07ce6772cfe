-- Which cell each bit of a string is for.
use Rattle.std.proofs.Common.{◌≡◌, ℕ, zero, suc, ◌+◌, Bool, true, false, cond, not, ◌&&◌, ◌||◌, ltb, leb, List, [], ◌∷◌, ◌++◌, map, length, get_or, sym, refl, ap, ◌∙◌, ap₂, arith}
use Rattle.std.proofs.lemmas.List.{map-append}
use Rattle.scan.specs.Path.{pick}
use Rattle.retarget.specs.Shapes.{Shape, nowhere, reach_after, on_path}
use Rattle.retarget.specs.Wants.{wanted, found, needed, aims, opened}
use Rattle.retarget.specs.Strings.{Order, none, asks, word, parts, Cell, own, row, row_cells, sib_paths, bit_for}
use Rattle.retarget.specs.Laws.{Apt, StringNamesItsCells}

-- A doorway that is open is needed, so what is open and no doorway is wanted.
pub open_wanted : (door found w before last : Bool)
    → ((((door && found) && before) || ((w && not door) && last)) && (w && not door)) ≡ ((((door && found) && before) || ((w && not door) && last)) && not door)
open_wanted door found w before last = grind arith

-- the cells of a row, where cell c gets bit c of its word
row_bits : (bit : Cell → Bool) (i c : ℕ) (bs : List Bool) (n : ℕ) → length bs ≡ n → ((j k : ℕ) → k ≡ c + j → bit (row i k) ≡ get_or bs j false)
    → map bit (row_cells i c n) ≡ bs
row_bits bit i c [] zero e h = refl
row_bits bit i c [] (suc n) e h = absurd (omega (arith, e))
row_bits bit i c (b ∷ bs) zero e h = absurd (omega (arith, e))
row_bits bit i c (b ∷ bs) (suc n) e h = ap₂ ◌∷◌ (h 0 c (omega arith)) (row_bits bit i (suc c) bs n (omega (arith, e)) (λ j k u. h (suc j) k (omega arith)))

pick_more : (m : Bool) (ms : List Bool) (bit : Cell → Bool) (bs : List Bool) (cs : List Cell) (bss : List (List Bool)) (css : List (List Cell))
    → bs ≡ map bit cs → pick ms bss ≡ map bit (pick ms css) → pick (m ∷ ms) (bs ∷ bss) ≡ map bit (pick (m ∷ ms) (cs ∷ css))
pick_more true ms bit bs cs bss css e i = ap₂ ◌++◌ e i ∙ sym (map-append bit cs (pick ms css))
pick_more false ms bit bs cs bss css e i = i

-- one SIB: l says whether its row is on the path
part_bits : (bit : Cell → Bool) (i n : ℕ) (l : Bool) (bs : List Bool) → length bs ≡ n → ((c : ℕ) → bit (row i c) ≡ get_or bs c false)
    → cond l bs [] ≡ map bit (cond l (row_cells i 0 n) [])
part_bits bit i n true bs e h = sym (row_bits bit i 0 bs n e (λ j k u. let same : k ≡ j = omega arith in rw same (h j)))
part_bits bit i n false bs e h = refl

-- The SIBs from place i on: bit says what each cell gets.
names : (bit : Cell → Bool) (d p r i : ℕ) (ps : List Shape) (os : List Order) → Apt ps os
    → ((j k : ℕ) → k ≡ i + j → bit (own k) ≡ get_or (aims d p ps (map asks os)) j false)
    → ((j k c : ℕ) → k ≡ i + j → bit (row k c) ≡ get_or (word (get_or ps j nowhere) (get_or os j none)) c false)
    → pick (on_path r ps (opened d p ps (map asks os))) (parts ps (aims d p ps (map asks os)) (opened d p ps (map asks os)) os)
    ≡ map bit (pick (on_path r ps (opened d p ps (map asks os))) (sib_paths i ps (opened d p ps (map asks os))))
names bit d p r i [] os a u v = refl
names bit d p r i (q ∷ ps) [] a u v = refl
names bit d p r i (q ∷ ps) (o ∷ os) a u v =
    let ws = map asks os in
    let ls = opened d p ps ws in
    let now = (needed q ps ws && ltb q.depth p) || (wanted q (asks o) && ltb d p) in
    let r' = reach_after r q now in
    pick_more (leb q.depth r) (on_path r' ps ls) bit _ _ (parts ps (aims d p ps ws) ls os) (sib_paths (suc i) ps ls)
    (ap₂ ◌∷◌ (sym (u 0 i (omega arith)))
    (ap (λ (x : Bool). cond x (word q o) []) (open_wanted q.doorway (found (suc q.depth) ps ws) (asks o) (ltb q.depth p) (ltb d p))
    ∙ part_bits bit i q.cells (now && not q.doorway) (word q o) a.0 (λ c. v 0 i c (omega arith))))
    (names bit d p r' (suc i) ps os a.1 (λ j k e. u (suc j) k (omega arith)) (λ j k c e. v (suc j) k c (omega arith)))

pub string_law : StringNamesItsCells
string_law d p ps os a =
    names (bit_for d ps os p) d p 1 0 ps os a
    (λ j k e. let same : k ≡ j = omega arith in rw same)
    (λ j k c e. let same : k ≡ j = omega arith in rw same)

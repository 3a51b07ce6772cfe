-- What is open from pass to pass, by shapes alone.
use Rattle.std.proofs.Common.{◌≡◌, ℕ, suc, ◌<◌, ◌≤◌, Bool, true, false, cond, not, ◌&&◌, ◌||◌, ltb, leb, List, [], ◌∷◌, refl, ap₂, arith}
use Rattle.std.proofs.lemmas.Bool.{and_parts, and_from, or_left, or_right, le-leb, leb-true}
use Rattle.std.proofs.lemmas.Bool.Decides.{nat_tests}
use Rattle.retarget.specs.Shapes.{Shape, Formed, reach_after, on_path}
use Rattle.retarget.specs.Wants.{wanted, found, needed, deepest, aims, opened, needed_down_to, needed_or_wanted}

-- No wanted instrument lies deeper than d.
abbrev pub Within : ℕ → List Shape → List Bool → Type 0
Within d [] ws = Unit {0}
Within d (s ∷ ps) [] = Unit {0}
Within d (s ∷ ps) (w ∷ ws) = (wanted s w ≡ true → s.depth ≤ d) × Within d ps ws

within_more : (a b : ℕ) (ps : List Shape) (ws : List Bool) → a ≤ b → Within a ps ws → Within b ps ws
within_more a b [] ws l h = tt
within_more a b (s ∷ ps) [] l h = tt
within_more a b (s ∷ ps) (w ∷ ws) l h = (λ e. omega (arith, h.0 e), within_more a b ps ws l h.1)

pub within_deepest : (ps : List Shape) (ws : List Bool) → Within (deepest ps ws) ps ws
within_deepest [] ws = tt
within_deepest (s ∷ ps) [] = tt
within_deepest (s ∷ ps) (w ∷ ws) = (λ e. grind arith, within_more (deepest ps ws) (deepest (s ∷ ps) (w ∷ ws)) ps ws (grind arith) (within_deepest ps ws))

-- A wanted instrument that is found lies no less deep than asked, and no deeper than it may.
pub found_bound : (b c : ℕ) (ps : List Shape) (ws : List Bool) → Formed b ps → found c ps ws ≡ true → c ≤ b
found_bound b c [] ws f h = absurd (grind arith)
found_bound b c (s ∷ ps) [] f h = absurd (grind arith)
found_bound b c (s ∷ ps) (w ∷ ws) f h = omega (arith, f, leb-true c s.depth (and_parts _ _ h).0)

pub found_less : (c e : ℕ) (ps : List Shape) (ws : List Bool) → e ≤ c → found c ps ws ≡ true → found e ps ws ≡ true
found_less c e [] ws l h = h
found_less c e (s ∷ ps) [] l h = h
found_less c e (s ∷ ps) (w ∷ ws) l h =
    let i = found_less c e ps ws l in
    grind (arith, nat_tests, i)

pub found_within : (d c : ℕ) (ps : List Shape) (ws : List Bool) → Within d ps ws → found c ps ws ≡ true → c ≤ d
found_within d c [] ws f h = absurd (grind arith)
found_within d c (s ∷ ps) [] f h = absurd (grind arith)
found_within d c (s ∷ ps) (w ∷ ws) f h =
    let i = found_within d c ps ws f.1 in
    let g = f.0 in
    grind (arith, nat_tests, i, g)

-- The definitions by pass in the subject's words: before the data pass, at it, and after a reset.
step_midway : (n w : Bool) (c d k : ℕ) → k < d → ((n && ltb c (suc k)) || (w && ltb d (suc k))) ≡ (n && leb c k)
step_midway n w c d k h = grind (arith, nat_tests)

pub opened_midway : (d k : ℕ) (ps : List Shape) (ws : List Bool) → k < d → opened d (suc k) ps ws ≡ needed_down_to k ps ws
opened_midway d k [] ws h = refl
opened_midway d k (s ∷ ps) [] h = refl
opened_midway d k (s ∷ ps) (w ∷ ws) h = ap₂ ◌∷◌ (step_midway (needed s ps ws) (wanted s w) s.depth d k h) (opened_midway d k ps ws h)

step_done : (door found w : Bool) (c d : ℕ) → (found ≡ true → suc c ≤ d) → (((door && found) && ltb c (suc d)) || (w && ltb d (suc d))) ≡ ((door && found) || w)
step_done door found w c d h = grind (arith, nat_tests)

pub opened_done : (d : ℕ) (ps : List Shape) (ws : List Bool) → Within d ps ws → opened d (suc d) ps ws ≡ needed_or_wanted ps ws
opened_done d [] ws h = refl
opened_done d (s ∷ ps) [] h = refl
opened_done d (s ∷ ps) (w ∷ ws) h =
    ap₂ ◌∷◌ (step_done s.doorway (found (suc s.depth) ps ws) (wanted s w) s.depth d (found_within d (suc s.depth) ps ws h.1))
    (opened_done d ps ws h.1)

pub step_reset : (n w : Bool) (c d : ℕ) → 1 ≤ c → (w ≡ true → c ≤ d) → false ≡ ((n && ltb c 1) || (w && ltb d 1))
step_reset n w c d h k = grind (arith, nat_tests)

-- what is aimed at where marked, and else what was
abbrev pub merge : List Bool → List Bool → List Bool → List Bool
merge [] gs ls = ls
merge (m ∷ ms) [] ls = ls
merge (m ∷ ms) (g ∷ gs) [] = []
merge (m ∷ ms) (g ∷ gs) (l ∷ ls) = cond m g l ∷ merge ms gs ls

-- One step of the walk of pass p, in numbers and tests: c is a depth, e the SIB's, r the reach, `found` whether a wanted one is behind it.
step_reach : (door found v : Bool) (c e p r : ℕ) → (c ≤ e → c ≤ r) → (e < c → (door ≡ true) × (c ≡ suc e) × (found ≡ true) × (e ≤ r)) → c ≤ p
    → c ≤ cond (leb e r) (cond (door && (((door && found) && ltb e p) || v)) (suc e) e) r
step_reach door found v c e p r a b h = grind (arith, nat_tests)

step_low : (door found w v : Bool) (e p r : ℕ) → r ≤ p → cond (leb e r) (cond (door && (((door && found) && ltb e p) || ((w && not door) && v))) (suc e) e) r ≤ p
step_low door found w v e p r h = grind (arith, nat_tests)

step_turn : (n w : Bool) (e d p r : ℕ) → r ≤ p → (n ≡ true → e ≤ p → e ≤ r) → (w ≡ true → d ≤ p → e ≤ r)
    → cond (leb e r) (n || (w && leb d p)) ((n && ltb e p) || (w && ltb d p)) ≡ ((n && ltb e (suc p)) || (w && ltb d (suc p)))
step_turn n w e d p r h a b = grind (arith, nat_tests)

-- What lies ahead and leads to a wanted instrument is in reach, down to the depth p.
abbrev pub Leads : ℕ → ℕ → List Shape → List Bool → Type 0
Leads p r ps ws = (c : ℕ) → found c ps ws ≡ true → c ≤ p → c ≤ r

found_here : (s : Shape) (w : Bool) (ps : List Shape) (ws : List Bool) (c : ℕ) → c ≤ s.depth → found c ps ws ≡ true → found c (s ∷ ps) (w ∷ ws) ≡ true
found_here s w ps ws c l h = and_from _ _ (le-leb c s.depth l) (or_right (wanted s w) _ h)

-- The SIB at hand leads to a wanted one, or is one.
pub found_at : (s : Shape) (w : Bool) (ps : List Shape) (ws : List Bool) → (needed s ps ws || wanted s w) ≡ true → found s.depth (s ∷ ps) (w ∷ ws) ≡ true
found_at s w ps ws h =
    let i = found_less (suc s.depth) s.depth ps ws (omega arith) in
    grind (arith, nat_tests, i)

-- whether the first SIB is open while pass p shifts
abbrev pub open_at : ℕ → ℕ → Shape → Bool → List Shape → List Bool → Bool
open_at d p s w ps ws = (needed s ps ws && ltb s.depth p) || (wanted s w && ltb d p)

pub leads_more : (d p r b : ℕ) (s : Shape) (w : Bool) (ps : List Shape) (ws : List Bool) → Formed b (s ∷ ps) → Leads p r (s ∷ ps) (w ∷ ws)
    → Leads p (reach_after r s (open_at d p s w ps ws)) ps ws
leads_more d p r b s w ps ws f j c h l =
    let e = found_bound (cond s.doorway (suc s.depth) s.depth) c ps ws f.2 h in
    step_reach s.doorway (found (suc s.depth) ps ws) (wanted s w && ltb d p) c s.depth p r
    (λ u. j c (found_here s w ps ws c u h) l)
    (λ u.
    let door : s.doorway ≡ true = grind arith in
    let deep : c ≤ suc s.depth = rw door at e in
    (door, omega arith, found_less c (suc s.depth) ps ws u h, j s.depth (found_here s w ps ws s.depth (omega arith) (found_less c s.depth ps ws (omega arith) h)) (omega arith)))
    l

pub reach_low : (d p r : ℕ) (s : Shape) (w : Bool) (ps : List Shape) (ws : List Bool) → r ≤ p → reach_after r s (open_at d p s w ps ws) ≤ p
reach_low d p r s w ps ws h = step_low s.doorway (found (suc s.depth) ps ws) w (ltb d p) s.depth p r h

-- Pass p opens what the next one finds open.
pub turned : (d p r b : ℕ) (ps : List Shape) (ws : List Bool) → Formed b ps → Within d ps ws → Leads p r ps ws → r ≤ p
    → merge (on_path r ps (opened d p ps ws)) (aims d p ps ws) (opened d p ps ws) ≡ opened d (suc p) ps ws
turned d p r b [] ws f i j h = refl
turned d p r b (s ∷ ps) [] f i j h = refl
turned d p r b (s ∷ ps) (w ∷ ws) f i j h =
    ap₂ ◌∷◌
    (step_turn (needed s ps ws) (wanted s w) s.depth d p r h
    (λ n. j s.depth (found_at s w ps ws (or_left _ (wanted s w) n)))
    (λ n l. let low = i.0 n in j s.depth (found_at s w ps ws (or_right (needed s ps ws) _ n)) (omega arith)))
    (turned d p (reach_after r s (open_at d p s w ps ws)) (cond s.doorway (suc s.depth) s.depth) ps ws f.2 i.1
    (leads_more d p r b s w ps ws f j) (reach_low d p r s w ps ws h))

-- A run from pass to pass.
use Rattle.std.proofs.Common.{◌≡◌, ℕ, zero, suc, ◌+◌, ◌%◌, ◌^◌, ◌-◌, ◌<◌, ◌≤◌, Bool, true, false, cond, not, ◌&&◌, ◌||◌, leb, ltb, List, [], ◌∷◌, ◌++◌, map, length, get_or, drop, replicate, Ok, Err, Result, sym, refl, ap, ◌∙◌, subst, ap₂, inl, inr, arith}
use native.Mathlib.Nat.{mod-add-mod, add-mod-mod}
use Rattle.std.proofs.lemmas.Bool.{cases_lt, and_parts}
use Rattle.std.proofs.lemmas.Bool.Decides.{nat_tests}
use Rattle.refusal.specs.declared.Loss.{Loss}
use Rattle.refusal.specs.declared.ScanFault.{ScanFault}
use Rattle.table.specs.declared.Record.{Record}
use Rattle.table.specs.Rules.{blank, depth_fits, floor_of}
use Rattle.table.specs.Marks.{numbered}
use Rattle.scan.specs.Network.{Network, Site}
use Rattle.scan.specs.Path.{pick}
use Rattle.scan.specs.Moves.{capture, outs}
use Rattle.scan.specs.Calls.{after_reset}
use Rattle.retarget.specs.Shapes.{Shape, reach_after, on_path}
use Rattle.retarget.specs.Wants.{wanted, found, needed, deepest, opened}
use Rattle.retarget.specs.Strings.{Order, asks, reads, mask, masks, string, sieve, sift}
use Rattle.retarget.specs.Runs.{through, stage, resting, passes, shifted}
use Rattle.plan.specs.declared.wanted.Wanted.{Wanted}
use Rattle.plan.specs.Order.{shape_at, shapes, wanted_at, wanteds}
use Rattle.plan.specs.declared.wanted.Plan.{Plan}
use Rattle.plan.specs.Plans.{table_of, plan_shapes, depth_of}
use Rattle.plan.proofs.Lawful.{lawful_table}
use Rattle.shifting.specs.Feeding.{laid, StaysFrom, Loses}
use Rattle.shifting.specs.Orders.{orders}
use Rattle.shifting.specs.Passes.{PassesTest, PassDoes, plan_orders, trues}
use Rattle.passes.specs.Runs.{RunDoes}

-- A configuration pass keeps nothing: a wanted instrument is not open in it.
sift_none : (ms bs : List Bool) → trues ms ≡ 0 → sift ms bs ≡ []
sift_none [] bs e = refl
sift_none (m ∷ ms) [] e = refl
sift_none (true ∷ ms) (b ∷ bs) e = absurd (omega (arith, e))
sift_none (false ∷ ms) (b ∷ bs) e = sift_none ms bs e

quiet_mask : (d p : ℕ) (q : Shape) (o : Order) (ps : List Shape) (ws : List Bool) → p ≤ d
    → mask q ((needed q ps ws && ltb q.depth p) || (wanted q (asks o) && ltb d p)) o ≡ false ∷ []
quiet_mask d p q o ps ws h =
    let off : ltb d p ≡ false = grind (arith, nat_tests) in
    ap (λ (b : Bool). false ∷ cond b (replicate q.cells (reads o)) []) (closed q.doorway (found (suc q.depth) ps ws) (ltb q.depth p) (asks o) (ltb d p) off)
  where
    closed : (doorway f before w last : Bool) → last ≡ false → ((((doorway && f) && before) || ((w && not doorway) && last)) && (w && not doorway)) ≡ false
    closed true f before w last e = flat (((true && f) && before) || ((w && false) && last)) w
      where
        flat : (x w : Bool) → (x && (w && false)) ≡ false
        flat true true = refl
        flat true false = refl
        flat false w = refl
    closed false f before true false e = refl
    closed false f before false false e = refl
    closed false f before w true e = cc

quiet_from : (d p r : ℕ) (ps : List Shape) (os : List Order) → p ≤ d
    → trues (pick (on_path r ps (opened d p ps (map asks os))) (masks ps (opened d p ps (map asks os)) os)) ≡ 0
quiet_from d p r [] os h = refl
quiet_from d p r (q ∷ ps) [] h = refl
quiet_from d p r (q ∷ ps) (o ∷ os) h =
    picked (leb q.depth r) (mask q ((needed q ps (map asks os) && ltb q.depth p) || (wanted q (asks o) && ltb d p)) o)
    (on_path (reach_after r q ((needed q ps (map asks os) && ltb q.depth p) || (wanted q (asks o) && ltb d p))) ps (opened d p ps (map asks os)))
    (masks ps (opened d p ps (map asks os)) os)
    (quiet_mask d p q o ps (map asks os) h)
    (quiet_from d p (reach_after r q ((needed q ps (map asks os) && ltb q.depth p) || (wanted q (asks o) && ltb d p))) ps os h)
  where
    picked : (m : Bool) (k : List Bool) (ms : List Bool) (ks : List (List Bool)) → k ≡ false ∷ [] → trues (pick ms ks) ≡ 0 → trues (pick (m ∷ ms) (k ∷ ks)) ≡ 0
    picked true k ms ks e h = ap (λ (j : List Bool). trues (j ++ pick ms ks)) e ∙ h
    picked false k ms ks e h = h

pub quiet : (d p : ℕ) (ps : List Shape) (os : List Order) → p ≤ d → trues (sieve d ps os p) ≡ 0
quiet d p ps os h = quiet_from d p 1 ps os h

-- what is kept after k passes, of the last one
abbrev pub kept_by : (ℕ → List Bool) → (ℕ → List Bool) → List Site → ℕ → List Bool
kept_by strings sieves ss zero = []
kept_by strings sieves ss (suc k) = sift (sieves (suc k)) (outs (capture (stage strings ss k)) (strings (suc k)))

-- After k passes of a run that began at n.
abbrev pub Ran : ℕ → List Shape → List Order → Network → List Bool → ℕ → ℕ → Network → List Bool → Type 0
Ran d ps os n body k count m after =
    (m ≡ resting n (stage (string d ps os) n.sites k)) × (after ≡ laid body 0 (kept_by (string d ps os) (sieve d ps os) n.sites k))
    × (count ≡ shifted (string d ps os) k % 2 ^ 64)

pub ran_none : (d : ℕ) (ps : List Shape) (os : List Order) (n m : Network) (body : List Bool) → m ≡ after_reset n → Ran d ps os n body 0 0 m body
ran_none d ps os n m body e = (e, refl, refl)

-- nothing is kept yet where the passes so far configure
kept_nothing : (d : ℕ) (ps : List Shape) (os : List Order) (ss : List Site) (k : ℕ) → k ≤ d → kept_by (string d ps os) (sieve d ps os) ss k ≡ []
kept_nothing d ps os ss zero h = refl
kept_nothing d ps os ss (suc k) h = sift_none (sieve d ps os (suc k)) _ (quiet d (suc k) ps os h)

same_body : (d : ℕ) (ps : List Shape) (os : List Order) (n m : Network) (body after : List Bool) (k count : ℕ) → k ≤ d → Ran d ps os n body k count m after → after ≡ body
same_body d ps os n m body after k count h w = w.1 ∙ ap (laid body 0) (kept_nothing d ps os n.sites k h)

-- What a pass of a plan does, by its depth, shapes and orders.
abbrev pub Passed : (Loss → Type 0) → ℕ → List Shape → List Order → ℕ → Network → List Bool → Result ℕ ScanFault → Network → List Bool → Type 0
Passed can d ps os k m body r t after = PassDoes can m (string d ps os (suc k)) (sieve d ps os (suc k)) body r t after

pub ran_more : (can : Loss → Type 0) (d : ℕ) (ps : List Shape) (os : List Order) (n m t : Network) (body now after : List Bool) (k count more sum : ℕ) → k ≤ d → Ran d ps os n body k count m now
    → Passed can d ps os k m now (Ok more) t after → sum ≡ (count + more) % 2 ^ 64 → Ran d ps os n body (suc k) sum t after
ran_more can d ps os n m t body now after k count more sum h w s e =
    let S = string d ps os in
    let at : m.sites ≡ stage S n.sites k = ap (λ (x : Network). x.sites) w.0 in
    let losses : m.lost ≡ n.lost = ap (λ (x : Network). x.lost) w.0 in (
      s.0 ∙ ap (λ (x : Network). resting x (through x.sites (S (suc k)))) w.0,
      s.1 ∙ ap₂ (λ (b : List Bool) (ss : List Site). laid b 0 (sift (sieve d ps os (suc k)) (outs (capture ss) (S (suc k))))) (same_body d ps os n m body now k count h w) at,
      e ∙ ap₂ (λ (a b : ℕ). (a + b) % 2 ^ 64) w.2 s.2 ∙ mod-add-mod (shifted S k) (2 ^ 64) (length (S (suc k)) % 2 ^ 64) ∙ add-mod-mod (shifted S k) (length (S (suc k))) (2 ^ 64),
    )

pub ran_all : (can : Loss → Type 0) (d : ℕ) (ps : List Shape) (os : List Order) (n m : Network) (body after : List Bool) (k count : ℕ) → k ≡ passes d → Ran d ps os n body k count m after
    → RunDoes can d ps os n body (Ok count) m after
ran_all can d ps os n m body after k count e w = at d (subst (λ (j : ℕ). Ran d ps os n body j count m after) e w)
  where
    at : (d : ℕ) → Ran d ps os n body (passes d) count m after → RunDoes can d ps os n body (Ok count) m after
    at zero w = w
    at (suc j) w = w

-- A pass loses a call.
pub ran_lost : (can : Loss → Type 0) (d : ℕ) (ps : List Shape) (os : List Order) (n m t : Network) (body now after : List Bool) (k count : ℕ) (e : ScanFault) → k < passes d → Ran d ps os n body k count m now
    → Passed can d ps os k m now (Err e) t after → RunDoes can d ps os n body (Err e) t after
ran_lost can d ps os n m t body now after k count e h w s =
    let low = at_most d k h in
    let same = same_body d ps os n m body now k count low w in (
      inr (k, h, subst (λ (x : Network). Loses can x e t) w.0 s.0),
      λ i l. subst (λ (b : List Bool). StaysFrom (trues (sieve d ps os (suc k))) b after) same s.1 i (bound d k h i l),
    )
  where
    at_most : (d k : ℕ) → k < passes d → k ≤ d
    at_most zero k h = absurd (omega arith)
    at_most (suc j) k h = omega arith

    bound : (d k : ℕ) → k < passes d → (i : ℕ) → trues (sieve d ps os (passes d)) ≤ i → trues (sieve d ps os (suc k)) ≤ i
    bound zero k h i l = absurd (omega arith)
    bound (suc j) k h i l =
        elim (cases_lt k (suc j)) [
          | inl low ↦ (let none = quiet (suc j) (suc k) ps os (omega arith) in omega (arith, none))
          | inr top ↦ (let same : suc (suc j) ≡ suc k = omega arith in subst (λ (q : ℕ). trues (sieve (suc j) ps os q) ≤ i) same l)
        ]

pub not_last : (d k : ℕ) → k < passes d → k ≤ d
not_last zero k h = absurd (omega arith)
not_last (suc j) k h = omega arith

-- The same by the words of the code, where the pass after k passes has the number k + 1.
pub turn : (can : Loss → Type 0) (d : ℕ) (ps : List Shape) (os : List Order) (n m t : Network) (body now after : List Bool) (k count more sum : ℕ) → k < passes d → Ran d ps os n body k count m now
    → PassDoes can m (string d ps os (k + 1)) (sieve d ps os (k + 1)) now (Ok more) t after → sum ≡ (count + more) % 2 ^ 64 → Ran d ps os n body (k + 1) sum t after
turn can d ps os n m t body now after k count more sum h w s e =
    let one : k + 1 ≡ suc k = omega arith in
    subst (λ (j : ℕ). Ran d ps os n body j sum t after) (sym one)
    (ran_more can d ps os n m t body now after k count more sum (not_last d k h) w (subst (λ (j : ℕ). PassDoes can m (string d ps os j) (sieve d ps os j) now (Ok more) t after) one s) e)

pub breaks : (can : Loss → Type 0) (d : ℕ) (ps : List Shape) (os : List Order) (n m t : Network) (body now after : List Bool) (k count : ℕ) (e : ScanFault) → k < passes d → Ran d ps os n body k count m now
    → PassDoes can m (string d ps os (k + 1)) (sieve d ps os (k + 1)) now (Err e) t after → RunDoes can d ps os n body (Err e) t after
breaks can d ps os n m t body now after k count e h w s =
    let one : k + 1 ≡ suc k = omega arith in
    ran_lost can d ps os n m t body now after k count e h w (subst (λ (j : ℕ). PassDoes can m (string d ps os j) (sieve d ps os j) now (Err e) t after) one s)

-- A table that passes its test is at most 8 deep.
shallow : (rs : List Record) → PassesTest rs → (n : ℕ) → 1 ≤ n → n ≤ length rs → (numbered rs n).depth ≤ 8
shallow rs t n l h =
    let both = and_parts (leb (get_or rs (n - 1) blank).depth (floor_of (drop (suc (n - 1)) rs))) _ (lawful_table rs t (n - 1) (omega arith)) in
    let deep = (and_parts (depth_fits (get_or rs (n - 1) blank)) _ both.1).0 in
    grind (arith, nat_tests)

deepest_small : (w : Wanted) (rs : List Record) → PassesTest rs → (n : ℕ) → n ≤ length rs → deepest (shapes rs n) (wanteds w rs n) ≤ 8
deepest_small w rs t zero h = omega arith
deepest_small w rs t (suc n) h =
    let here = taken (wanted (shape_at rs (suc n)) (wanted_at w rs (suc n))) (numbered rs (suc n)).depth (shallow rs t (suc n) (omega arith) h) in
    let below = deepest_small w rs t n (omega arith) in
    omega (arith, here, below)
  where
    taken : (b : Bool) (x : ℕ) → x ≤ 8 → cond b x 0 ≤ 8
    taken true x h = h
    taken false x h = omega arith

passes_small : (d : ℕ) → d ≤ 8 → passes d ≤ 9
passes_small zero h = omega arith
passes_small (suc j) h = omega arith

-- The number of each pass is small.
pub pass_small : (p : Plan) (rs : List Record) (w : Wanted) (k : ℕ) → PassesTest (table_of p) → table_of p ≡ rs → p.depth ≡ depth_of w rs → k < passes p.depth → k + 1 ≤ 255
pass_small p rs w k t same e h =
    let small = deepest_small w rs (subst PassesTest same t) (length rs) (omega arith) in
    let few = passes_small p.depth (omega (arith, small, e)) in
    omega (arith, few, h)

-- a plan's run is that of its table and wish
pub as_asked : (can : Loss → Type 0) (p : Plan) (rs : List Record) (w : Wanted) (row : List Bool) (n : Network) (body : List Bool) (r : Result ℕ ScanFault) (m : Network) (after : List Bool)
    → table_of p ≡ rs → p.wanted ≡ w → p.depth ≡ depth_of w rs
    → RunDoes can p.depth (plan_shapes p (length (table_of p))) (plan_orders p row) n body r m after → RunDoes can (depth_of w rs) (shapes rs (length rs)) (orders w rs row) n body r m after
as_asked can p rs w row n body r m after t e d h =
    let R : ℕ → List Record → Wanted → Type 0 = λ d rs w. RunDoes can d (shapes rs (length rs)) (orders w rs row) n body r m after in
    subst (λ (d : ℕ). R d rs w) d (subst (λ (rs : List Record). R p.depth rs w) t (subst (λ (w : Wanted). R p.depth (table_of p) w) e h))

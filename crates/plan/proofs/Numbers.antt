-- Lists that go from a number down: one step, and what a plan says of each number.
use Rattle.std.proofs.Common.{◌≡◌, ℕ, zero, suc, ◌+◌, ◌-◌, ◌<◌, ◌≤◌, max, Bool, true, false, cond, not, ◌&&◌, ◌||◌, leb, List, ◌∷◌, map, length, get_or, sym, refl, ap, ◌∙◌, ap₂, arith}
use Rattle.table.specs.declared.Record.{Record}
use Rattle.table.specs.Rules.{blank, is_doorway}
use Rattle.table.specs.Marks.{numbered}
use Rattle.retarget.specs.Wants.{wanted, found, needed, deepest, aims, opened}
use Rattle.plan.specs.declared.wanted.Wanted.{Wanted}
use Rattle.plan.specs.declared.wanted.Plan.{Plan}
use Rattle.plan.specs.Order.{down, shape_at, shapes, wants, wanted_at, wanteds}
use Rattle.plan.specs.Plans.{table_of, plan_shapes, plan_wants, needed_in, aim_at, open_at}

pub down_step : {X : Type 0} (f : ℕ → X) (n : ℕ) → 1 ≤ n → down f n ≡ f n ∷ down f (n - 1)
down_step f zero h = absurd (omega arith)
down_step f (suc k) h = let e : k ≡ suc k - 1 = omega arith in ap (λ (j : ℕ). f (suc k) ∷ down f j) e

pub length_down : {X : Type 0} (f : ℕ → X) (n : ℕ) → length (down f n) ≡ n
length_down f zero = refl
length_down f (suc n) = ap suc (length_down f n)

pub map_down : {X Y : Type 0} (g : X → Y) (f : ℕ → X) (n : ℕ) → map g (down f n) ≡ down (λ k. g (f k)) n
map_down g f zero = refl
map_down g f (suc n) = ap (λ (ys : List _). g (f (suc n)) ∷ ys) (map_down g f n)

-- An instrument that is wanted is one.
pub wanted_instrument : (w : Wanted) (rs : List Record) (n : ℕ) → wanted (shape_at rs n) (wanted_at w rs n) ≡ wanted_at w rs n
wanted_instrument w rs n = step (leb 1 n && leb n (length rs)) (is_doorway (numbered rs n).kind) (wants w rs n)
  where
    step : (a d v : Bool) → (((a && not d) && v) && not d) ≡ ((a && not d) && v)
    step true true v = refl
    step true false true = refl
    step true false false = refl
    step false d v = refl

pub found_step : (c : ℕ) (p : Plan) (n : ℕ) → 1 ≤ n
    → found c (plan_shapes p n) (plan_wants p n)
    ≡ (leb c (shape_at (table_of p) n).depth && (wanted_at p.wanted (table_of p) n || found c (plan_shapes p (n - 1)) (plan_wants p (n - 1))))
found_step c p n h =
    ap₂ (found c) (down_step (shape_at (table_of p)) n h) (down_step (wanted_at p.wanted (table_of p)) n h)
    ∙ ap (λ (w : Bool). leb c (shape_at (table_of p) n).depth && (w || found c (plan_shapes p (n - 1)) (plan_wants p (n - 1)))) (wanted_instrument p.wanted (table_of p) n)

pub needed_step : (p : Plan) (n : ℕ) → 1 ≤ n → needed_in p n ≡ needed (shape_at (table_of p) n) (plan_shapes p (n - 1)) (plan_wants p (n - 1))
needed_step p zero h = absurd (omega arith)
needed_step p (suc k) h = let e : k ≡ suc k - 1 = omega arith in ap (λ (j : ℕ). needed (shape_at (table_of p) (suc k)) (plan_shapes p j) (plan_wants p j)) e

-- The lists of a run are those of its numbers.
pub opened_down : (p : Plan) (pass n : ℕ) → opened p.depth pass (plan_shapes p n) (plan_wants p n) ≡ down (open_at p pass) n
opened_down p pass zero = refl
opened_down p pass (suc n) = ap (λ (ls : List Bool). open_at p pass (suc n) ∷ ls) (opened_down p pass n)

pub aims_down : (p : Plan) (pass n : ℕ) → aims p.depth pass (plan_shapes p n) (plan_wants p n) ≡ down (aim_at p pass) n
aims_down p pass zero = refl
aims_down p pass (suc n) = ap (λ (gs : List Bool). aim_at p pass (suc n) ∷ gs) (aims_down p pass n)

-- the greatest depth, with one record more
pub deepest_more : (w : Wanted) (rs : List Record) (i d : ℕ) (b : Bool) → i < length rs → b ≡ wanted_at w rs (i + 1) → d ≡ deepest (shapes rs i) (wanteds w rs i)
    → cond b (max (get_or rs i blank).depth d) d ≡ deepest (shapes rs (i + 1)) (wanteds w rs (i + 1))
deepest_more w rs i d b h e k =
    let n = i + 1 in
    let back : n - 1 ≡ i = omega arith in
    let here : numbered rs n ≡ get_or rs i blank = ap (λ (j : ℕ). get_or rs j blank) back in
    sym (
    ap₂ deepest (down_step (shape_at rs) n (omega arith)) (down_step (wanted_at w rs) n (omega arith))
    ∙ ap₂ max
    (ap (λ (v : Bool). cond v (numbered rs n).depth 0) (wanted_instrument w rs n ∙ sym e) ∙ ap (λ (r : Record). cond b r.depth 0) here)
    (ap (λ (j : ℕ). deepest (shapes rs j) (wanteds w rs j)) back ∙ sym k)
    ∙ pull b (get_or rs i blank).depth d
    )
  where
    pull : (b : Bool) (x d : ℕ) → max (cond b x 0) d ≡ cond b (max x d) d
    pull true x d = refl
    pull false x d = omega arith

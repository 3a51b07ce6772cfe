-- What the chains over a table's records and numbers count.
use Rattle.std.proofs.Common.{◌≡◌, ℕ, zero, suc, ◌+◌, ◌-◌, ◌≤◌, Bool, true, false, cond, ◌&&◌, ◌||◌, ltb, leb, List, [], ◌∷◌, length, get_or, take, drop, reverse, Option, sym, refl, ap, ◌∙◌, subst, ap₂, arith}
use Rattle.std.specs.List.{take_while, list_any}
use Rattle.std.specs.declared.iter.Rev.{Rev}
use Rattle.std.specs.declared.ops.Range.{Range}
use Rattle.std.specs.Iterator.Adapters.{rev_source, rev_steps}
use Rattle.std.specs.Range.{range_steps_back}
use Rattle.std.proofs.lemmas.Iterator.{YieldsList}
use Rattle.std.proofs.lemmas.Iterator.Consumers.{YieldsList-from_shown}
use Rattle.std.proofs.lemmas.List.{take_more, get_or-drop, reverse-append, length-drop}
use Rattle.std.proofs.lemmas.List.Sums.{take_while-cons}
use Rattle.std.proofs.lemmas.Bool.Decides.{nat_tests}
use Rattle.table.specs.declared.Record.{Record}
use Rattle.table.specs.Rules.{blank}
use Rattle.table.specs.Marks.{numbered}
use Rattle.retarget.specs.Wants.{found}
use Rattle.plan.specs.declared.wanted.Plan.{Plan}
use Rattle.plan.specs.Order.{shape_at, wanted_at}
use Rattle.plan.specs.Plans.{table_of, plan_shapes, plan_wants, deeper_at}
use Rattle.plan.specs.Length.{run, seen}
use Rattle.plan.proofs.Numbers.{found_step}
use Rattle.plan.proofs.Sections.{seen_step, seen_none}

abbrev pub lies_deeper : ℕ → Record → Bool
lies_deeper d r = ltb d r.depth

-- The records from index b + m - 1 down to b that lie deeper than d, up to the first that does not, are a run of numbers.
pub run_back : (p : Plan) (pass d b m : ℕ) → b + m ≤ length (table_of p)
    → length (take_while (lies_deeper d) (reverse (take m (drop b (table_of p))))) ≡ run d (seen p pass (b + m) b)
run_back p pass d b zero h = sym (ap (run d) (seen_none p pass (b + 0) b (omega arith)))
run_back p pass d b (suc m) h =
    let rs = table_of p in
    let r = get_or (drop b rs) m blank in
    let long = length-drop b rs in
    let one : suc m ≡ m + 1 = omega arith in
    let at : b + m ≡ b + suc m - 1 = omega arith in
    let here : r ≡ numbered rs (b + suc m) = get_or-drop b rs m blank ∙ ap (λ (j : ℕ). get_or rs j blank) at in
    let rows : reverse (take (suc m) (drop b rs)) ≡ r ∷ reverse (take m (drop b rs)) =
    ap (λ (j : ℕ). reverse (take j (drop b rs))) one ∙ ap reverse (take_more (drop b rs) m blank (omega (arith, long))) ∙ reverse-append (take m (drop b rs)) (r ∷ []) in
    let step = ap (run d) (seen_step p pass (b + suc m) b (omega arith)) in
    let below = run_back p pass d b m (omega arith) ∙ ap (λ (j : ℕ). run d (seen p pass j b)) at in
    ap (λ (xs : List Record). length (take_while (lies_deeper d) xs)) rows
    ∙ ap length (take_while-cons (lies_deeper d) r (reverse (take m (drop b rs))))
    ∙ counts (lies_deeper d r) (take_while (lies_deeper d) (reverse (take m (drop b rs)))) r
    ∙ ap (λ (x : Record). cond (lies_deeper d x) (suc (length (take_while (lies_deeper d) (reverse (take m (drop b rs)))))) 0) here
    ∙ ap (λ (n : ℕ). cond (lies_deeper d (numbered rs (b + suc m))) (suc n) 0) below
    ∙ sym step
  where
    counts : (t : Bool) (xs : List Record) (r : Record) → length (cond t (r ∷ xs) []) ≡ cond t (suc (length xs)) 0
    counts true xs r = refl
    counts false xs r = refl

-- n numbers that go down to a
abbrev pub countdown : ℕ → ℕ → List ℕ
countdown a zero = []
countdown a (suc n) = (a + n) ∷ countdown a n

counted : (a n b m x : ℕ) → n ≡ suc m → x ≡ a + m → b ≡ a → countdown a n ≡ x ∷ countdown b m
counted a n b m x e f g =
    ap (countdown a) e ∙ ap (λ (w : ℕ). w ∷ countdown a m) (sym f) ∙ ap (λ (w : ℕ). x ∷ countdown w m) (sym g)

abbrev pub range_back : Range ℕ → Option ℕ → Range ℕ → Type 0
range_back = range_steps_back (λ a b. b - a) (λ a b. b ≡ a + 1)

-- what a range yields from its end
pub yields_countdown : {s : Rev (Range ℕ)} (a b n : ℕ) → rev_source s ≡ record { start = a; end = b } → b - a ≡ n
    → YieldsList (rev_steps range_back) (λ x. x) s (countdown a n)
yields_countdown {s} a b n e l =
    subst (YieldsList (rev_steps range_back) (λ x. x) s) (ap (λ (r : Range ℕ). countdown r.start (r.end - r.start)) e ∙ ap (countdown a) l)
    (YieldsList-from_shown (rev_steps range_back) (λ x. x) (λ u. countdown (rev_source u).start ((rev_source u).end - (rev_source u).start))
    (λ u t h. ap (λ (k : ℕ). length (countdown (rev_source u).start k)) h.1.0)
    (λ u x t h. counted (rev_source u).start _ (rev_source t).start _ x (omega (arith, h.0, h.1.0, h.1.2)) (omega (arith, h.0, h.1.0, h.1.1, h.1.2)) h.0) s)

-- Among the numbers from m down that lie deeper than d, up to the first that does not, one is wanted.
pub any_behind : (p : Plan) (d m : ℕ) → m ≤ length (table_of p)
    → list_any (wanted_at p.wanted (table_of p)) (take_while (deeper_at (table_of p) d) (countdown 1 m)) ≡ found (suc d) (plan_shapes p m) (plan_wants p m)
any_behind p d zero h = refl
any_behind p d (suc m) h =
    let W = wanted_at p.wanted (table_of p) in
    let D = deeper_at (table_of p) d in
    let top : 1 + m ≡ suc m = omega arith in
    let back : suc m - 1 ≡ m = omega arith in
    let deep : D (suc m) ≡ leb (suc d) (shape_at (table_of p) (suc m)).depth = grind (arith, nat_tests) in
    ap (list_any W) (take_while-cons D (1 + m) (countdown 1 m))
    ∙ chosen W (D (1 + m)) (1 + m) (take_while D (countdown 1 m))
    ∙ ap (λ (n : ℕ). D n && (W n || list_any W (take_while D (countdown 1 m)))) top
    ∙ ap₂ (λ (a b : Bool). a && (W (suc m) || b)) deep (any_behind p d m (omega arith))
    ∙ ap (λ (j : ℕ). leb (suc d) (shape_at (table_of p) (suc m)).depth && (W (suc m) || found (suc d) (plan_shapes p j) (plan_wants p j))) (sym back)
    ∙ sym (found_step (suc d) p (suc m) (omega arith))
  where
    chosen : (W : ℕ → Bool) (t : Bool) (n : ℕ) (ns : List ℕ) → list_any W (cond t (n ∷ ns) []) ≡ (t && (W n || list_any W ns))
    chosen W true n ns = refl
    chosen W false n ns = refl

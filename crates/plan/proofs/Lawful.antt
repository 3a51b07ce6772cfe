-- What a table that passes its test gives a plan: well-formed shapes, a bounded size, and short rows.
use Rattle.std.proofs.Common.{◌≡◌, ℕ, zero, suc, ◌+◌, ◌-◌, ◌≤◌, Bool, true, false, cond, ◌&&◌, eqb, leb, List, [], ◌∷◌, length, get_or, drop, Some, None, Option, sym, refl, ap, ◌∙◌, subst, arith, drop-cons}
use Rattle.std.specs.Option.{option_map}
use Rattle.std.proofs.lemmas.Bool.{and_parts, leb-true}
use Rattle.std.proofs.lemmas.Bool.Decides.{nat_tests}
use Rattle.refusal.specs.declared.TableFault.TheVariants.{Size, Broken}
use Rattle.table.specs.declared.Record.{Record}
use Rattle.table.specs.Rules.{blank, is_doorway, depth_fits, floor_under, floor_of, obeys, Lawful, size_fits, highest_broken, table_fault}
use Rattle.table.specs.Marks.{numbered}
use Rattle.table.proofs.Highest.{none_broken}
use Rattle.retarget.specs.Shapes.{Formed}
use Rattle.plan.specs.Order.{shape, shapes}

not_broken : (o : Option ℕ) → option_map Broken o ≡ None → None ≡ o
not_broken None e = refl
not_broken (Some n) e = cc

passed : (b : Bool) (o : Option ℕ) → cond b (option_map Broken o) (Some Size) ≡ None → (b ≡ true) × (None ≡ o)
passed true o e = (refl, not_broken o e)
passed false o e = absurd (let z : ◌≡◌ {A = ℕ} 0 1 = cc in omega arith)

pub lawful_table : (rs : List Record) → table_fault rs ≡ None → Lawful rs
lawful_table rs e = none_broken rs (passed (size_fits rs) (highest_broken 1 rs) e).1

pub table_size : (rs : List Record) → table_fault rs ≡ None → length rs ≤ 16382
table_size rs e = let s = (passed (size_fits rs) (highest_broken 1 rs) e).0 in grind (arith, nat_tests)

-- a record that obeys has a row of at most 256 cells
pub short_row : (r : Record) (above : List Record) → obeys r above ≡ true → r.length ≤ 256
short_row r above e =
    let f = and_parts _ _ (and_parts (leb r.depth (floor_of above)) _ e).1 in
    let l = and_parts _ _ f.1 in
    row (is_doorway r.kind) r.length l.0
  where
    row : (d : Bool) (n : ℕ) → cond d (eqb n 0) (leb 1 n && leb n 256) ≡ true → n ≤ 256
    row true n e = grind (arith, nat_tests)
    row false n e = grind (arith, nat_tests)

formed_step : (r : Record) (above : List Record) → obeys r above ≡ true → (1 ≤ r.depth) × (r.depth ≤ floor_of above)
formed_step r above e =
    let both = and_parts (leb r.depth (floor_of above)) _ e in
    let deep = (and_parts (depth_fits r) _ both.1).0 in
    (grind (arith, nat_tests), leb-true r.depth (floor_of above) both.0)

floor_is : (r : Record) → floor_under r ≡ cond (shape r).doorway (suc (shape r).depth) (shape r).depth
floor_is r = at (is_doorway r.kind)
  where
    at : (d : Bool) → cond d (r.depth + 1) r.depth ≡ cond d (suc r.depth) r.depth
    at true = omega arith
    at false = refl

formed_down : (rs : List Record) → Lawful rs → (n : ℕ) → n ≤ length rs → Formed (floor_of (drop n rs)) (shapes rs n)
formed_down rs law zero h = tt
formed_down rs law (suc k) h =
    let back : suc k - 1 ≡ k = omega arith in
    let here : numbered rs (suc k) ≡ get_or rs k blank = ap (λ (j : ℕ). get_or rs j blank) back in
    let step = formed_step (get_or rs k blank) (drop (suc k) rs) (law k (omega arith)) in
    let below = formed_down rs law k (omega arith) in
    let floor : floor_of (drop k rs) ≡ floor_under (get_or rs k blank) = ap floor_of (drop-cons rs k blank (omega arith)) in
    let F : Record → Type 0 = λ r. (1 ≤ (shape r).depth) × ((shape r).depth ≤ floor_of (drop (suc k) rs)) × Formed (cond (shape r).doorway (suc (shape r).depth) (shape r).depth) (shapes rs k) in
    subst F (sym here) (step.0, step.1, subst (λ (b : ℕ). Formed b (shapes rs k)) (floor ∙ floor_is (get_or rs k blank)) below)

pub formed_table : (rs : List Record) → table_fault rs ≡ None → Formed 1 (shapes rs (length rs))
formed_table rs e = subst (λ (b : ℕ). Formed b (shapes rs (length rs))) (ap floor_of (drop-length rs)) (formed_down rs (lawful_table rs e) (length rs) (omega arith))
  where
    drop-length : (rs : List Record) → drop (length rs) rs ≡ []
    drop-length [] = refl
    drop-length (r ∷ rs) = drop-length rs

-- the row of a number is short
pub short_at : (rs : List Record) → table_fault rs ≡ None → (n : ℕ) → 1 ≤ n → n ≤ length rs → (numbered rs n).length ≤ 256
short_at rs e n l h = short_row (get_or rs (n - 1) blank) (drop (suc (n - 1)) rs) (lawful_table rs e (n - 1) (omega arith))

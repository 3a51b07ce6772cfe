-- The highest record that breaks a rule, found from the lowest number up.
use Rattle.std.proofs.Common.{◌≡◌, ℕ, zero, suc, ◌+◌, ◌-◌, ◌<◌, ◌≤◌, Bool, true, false, cond, ◌&&◌, leb, List, [], ◌∷◌, length, get_or, drop, Some, None, Option, sym, refl, ◌∙◌, arith}
use Rattle.std.proofs.lemmas.List.{at_drop_more, at_drop_all}
use Rattle.std.proofs.lemmas.Bool.Decides.{nat_tests}
use Rattle.refusal.specs.Checks.{or_else}
use Rattle.table.specs.declared.Record.{Record}
use Rattle.table.specs.Rules.{blank, fits, floor_under, floor_of, obeys, obeys_at, Lawful, HighestBroken, highest_broken}

-- the answer, where the records left are these, the last judged one is n and stood at depth d, and b is the highest so far
abbrev pub left_of : ℕ → ℕ → Option ℕ → List Record → Option ℕ
left_of n d b rs = or_else (highest_broken (n + 1) rs) (cond (leb d (floor_of rs)) b (Some n))

pub or_none : {E : Type 0} (o : Option E) → or_else o None ≡ o
or_none None = refl
or_none (Some e) = refl

pub left_none : (rs : List Record) → left_of 0 0 None rs ≡ highest_broken 1 rs
left_none rs = let e : leb 0 (floor_of rs) ≡ true = grind (arith, nat_tests) in rw e (or_none (highest_broken 1 rs))

judged : (o p : Option ℕ) (x y : Bool) (n : ℕ) → or_else (or_else o (cond (x && y) None (Some n))) p ≡ or_else o (cond x (cond y p (Some n)) (Some n))
judged None p true true n = refl
judged None p true false n = refl
judged None p false y n = refl
judged (Some k) p x y n = refl

-- one record more, of which b' is what the highest so far becomes
pub left_more : (n d : ℕ) (b b' : Option ℕ) (rs : List Record) → n < length rs
    → b' ≡ cond (fits (get_or rs n blank)) (cond (leb d (floor_under (get_or rs n blank))) b (Some n)) (Some (n + 1))
    → left_of (n + 1) (get_or rs n blank).depth b' (drop (n + 1) rs) ≡ left_of n d b (drop n rs)
left_more n d b b' rs h e =
    rw e
    (sym (at_drop_more (left_of n d b) rs n blank h
    ∙ judged (highest_broken (n + 1 + 1) (drop (n + 1) rs)) _ (leb (get_or rs n blank).depth (floor_of (drop (n + 1) rs))) (fits (get_or rs n blank)) (n + 1)))

pub left_all : (n d : ℕ) (b : Option ℕ) (rs : List Record) → length rs ≤ n → left_of n d b (drop n rs) ≡ cond (leb d 1) b (Some n)
left_all n d b rs h = at_drop_all (left_of n d b) rs n h

-- what the search from number n says of the records
abbrev pub Found : ℕ → List Record → Option ℕ → Type 0
Found n rs None = Lawful rs
Found n rs (Some k) = (i : ℕ) × (k ≡ n + i) × (i < length rs) × (obeys_at rs i ≡ false) × ((j : ℕ) → i < j → j < length rs → obeys_at rs j ≡ true)

one_more : (r : Record) (rs : List Record) (n : ℕ) → (n ≡ 0 → obeys r rs ≡ true) → ((j : ℕ) → n ≤ suc j → j < length rs → obeys_at rs j ≡ true)
    → (j : ℕ) → n ≤ j → j < length (r ∷ rs) → obeys_at (r ∷ rs) j ≡ true
one_more r rs n e f zero k h = e (omega arith)
one_more r rs n e f (suc j) k h = f j k (omega arith)

found_more : (n : ℕ) (r : Record) (rs : List Record) (b : Bool) → obeys r rs ≡ b → (o : Option ℕ) → Found (n + 1) rs o
    → Found n (r ∷ rs) (or_else o (cond b None (Some n)))
found_more n r rs true e None f = λ j h. one_more r rs 0 (λ _. e) (λ i _ k. f i k) j (omega arith) h
found_more n r rs false e None f = (0, omega arith, omega arith, e, one_more r rs 1 (λ z. absurd (omega arith)) (λ i _ k. f i k))
found_more n r rs b e (Some k) f =
    (suc f.0, omega (arith, f.1), omega (arith, f.2), f.3, one_more r rs (suc (suc f.0)) (λ z. absurd (omega arith)) (λ i g k. f.4 i (omega arith) k))

pub found : (n : ℕ) (rs : List Record) → Found n rs (highest_broken n rs)
found n [] = λ i h. absurd (omega arith)
found n (r ∷ rs) = found_more n r rs (obeys r rs) refl (highest_broken (n + 1) rs) (found (n + 1) rs)

pub none_broken : (rs : List Record) → None ≡ highest_broken 1 rs → Lawful rs
none_broken rs e = rw (← e) at (found 1 rs)

pub one_broken : (rs : List Record) (k : ℕ) → Some k ≡ highest_broken 1 rs → HighestBroken rs k
one_broken rs k e =
    let f : Found 1 rs (Some k) = rw (← e) at (found 1 rs) in
    let at : k - 1 ≡ f.0 = omega (arith, f.1) in
    record {
      from_one = omega (arith, f.1);
      within = omega (arith, f.1, f.2);
      breaks = rw at f.3;
      higher_obey = λ i g h. f.4 i (omega (arith, f.1)) h;
    }

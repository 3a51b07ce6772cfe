-- The cells of a section: a SIB with those behind it, and then the rest.
use Rattle.std.proofs.Common.{◌≡◌, ℕ, zero, suc, ◌+◌, ◌-◌, ◌%◌, ◌<◌, ◌≤◌, Bool, true, false, cond, not, ◌&&◌, ltb, leb, List, [], ◌∷◌, map, take, drop, sym, refl, ap, ◌∙◌, ap₂, inl, inr, add_assoc, zero-add, arith, ltb-true}
use native.Mathlib.Nat.{mod-add-mod, add-mod-mod}
use Rattle.std.proofs.lemmas.List.{take-take, drop-take, take_all}
use Rattle.std.proofs.lemmas.Bool.{cases_Bool}
use Rattle.std.proofs.lemmas.Bool.Decides.{nat_tests}
use Rattle.retarget.specs.Shapes.{Shape, Formed, reach_after, sib_cells, span}
use Rattle.plan.specs.declared.wanted.Plan.{Plan}
use Rattle.plan.specs.Order.{down}
use Rattle.plan.specs.Length.{Seen, hides, section, run, seen_at, seen, sib}
use Rattle.plan.proofs.Numbers.{length_down}

-- where nothing is hidden, the depth before says nothing
section_open : (e : ℕ) (xs : List Seen) → section false e xs ≡ section false 0 xs
section_open e [] = refl
section_open e (x ∷ xs) = refl

section_hidden : (d : ℕ) (xs : List Seen) → section true d xs ≡ section false 0 (drop (run d xs) xs)
section_hidden d [] = refl
section_hidden d (x ∷ xs) = elim (cases_Bool (ltb d x.shape.depth)) [ inl t ↦ simp t (section_hidden d xs) | inr f ↦ simp f ]

-- those in front that lie deeper than d are counted by themselves
section_apart : (d : ℕ) (b : Bool) (e : ℕ) (xs : List Seen) → (b ≡ true → d ≤ e)
    → section b e xs ≡ section b e (take (run d xs) xs) + section false 0 (drop (run d xs) xs)
section_apart d b e [] h = refl
section_apart d b e (x ∷ xs) h =
    elim (cases_Bool (ltb d x.shape.depth)) [
      | inl t ↦
          elim (cases_Bool (b && ltb e x.shape.depth)) [
            | inl u ↦ simp (t, u) (section_apart d b e xs h)
            | inr v ↦ simp (t, v) (omega (arith, section_apart d (hides x) x.shape.depth xs (λ _. omega (arith, ltb-true, t))))
          ]
      | inr f ↦
          (let v : (b && ltb e x.shape.depth) ≡ false = grind (arith, nat_tests) in
          simp (f, v) (omega arith))
    ]

pub section_step : (x : Seen) (xs : List Seen) → section false 0 (x ∷ xs) ≡ sib x (take (run x.shape.depth xs) xs) + section false 0 (drop (run x.shape.depth xs) xs)
section_step x xs = at (hides x) refl
  where
    d : ℕ
    d = x.shape.depth

    at : (b : Bool) → hides x ≡ b → section false 0 (x ∷ xs) ≡ sib x (take (run x.shape.depth xs) xs) + section false 0 (drop (run x.shape.depth xs) xs)
    at true e = rw e (omega (arith, section_hidden x.shape.depth xs))
    at false e =
        rw e (omega (arith, section_apart x.shape.depth false x.shape.depth xs (λ _. omega arith), section_open x.shape.depth (take (run x.shape.depth xs) xs)))

-- Numbers from a top down to the one above a bottom.
pub seen_step : (p : Plan) (pass n b : ℕ) → b < n → seen p pass n b ≡ seen_at p pass n ∷ seen p pass (n - 1) b
seen_step p pass zero b h = absurd (omega arith)
seen_step p pass (suc k) b h =
    let long : suc k - b ≡ suc (k - b) = omega arith in
    let back : k ≡ suc k - 1 = omega arith in
    ap (λ (m : ℕ). take m (down (seen_at p pass) (suc k))) long ∙ ap (λ (j : ℕ). seen_at p pass (suc k) ∷ seen p pass j b) back

pub seen_none : (p : Plan) (pass n b : ℕ) → n ≤ b → seen p pass n b ≡ []
seen_none p pass n b h = let none : n - b ≡ 0 = omega arith in ap (λ (m : ℕ). take m (down (seen_at p pass) n)) none

drop_down : {X : Type 0} (f : ℕ → X) (k n : ℕ) → k ≤ n → drop k (down f n) ≡ down f (n - k)
drop_down f zero n h = let e : n ≡ n - 0 = omega arith in ap (down f) e
drop_down f (suc k) zero h = absurd (omega arith)
drop_down f (suc k) (suc n) h = let e : n - k ≡ suc n - suc k = omega arith in drop_down f k n (omega arith) ∙ ap (down f) e

pub seen_front : (p : Plan) (pass n b k : ℕ) → b + k ≤ n → take k (seen p pass n b) ≡ seen p pass n (n - k)
seen_front p pass n b k h =
    let e : k ≡ n - (n - k) = omega arith in
    take-take k (n - b) (down (seen_at p pass) n) (omega arith) ∙ ap (λ (m : ℕ). take m (down (seen_at p pass) n)) e

pub seen_rest : (p : Plan) (pass n b k : ℕ) → b + k ≤ n → drop k (seen p pass n b) ≡ seen p pass (n - k) b
seen_rest p pass n b k h =
    let whole : n - b ≡ k + (n - k - b) = omega arith in
    ap (λ (m : ℕ). drop k (take m (down (seen_at p pass) n))) whole
    ∙ drop-take k (n - k - b) (down (seen_at p pass) n)
    ∙ ap (take (n - k - b)) (drop_down (seen_at p pass) k n (omega arith))

-- One turn of the sum over a section, modulo m: a SIB with those behind it is added, and what is left begins at the next number that is not.
pub section_turn : (p : Plan) (pass n b k s m : ℕ) → b < n → b + k < n → k ≡ run (seen_at p pass n).shape.depth (seen p pass (n - 1) b)
    → ((s + sib (seen_at p pass n) (seen p pass (n - 1) (n - 1 - k)) % m) % m + section false 0 (seen p pass (n - 1 - k) b)) % m
    ≡ (s + section false 0 (seen p pass n b)) % m
section_turn p pass n b k s m h l e =
    let x = seen_at p pass n in
    let xs = seen p pass (n - 1) b in
    let front : take (run x.shape.depth xs) xs ≡ seen p pass (n - 1) (n - 1 - k) = ap (λ (j : ℕ). take j xs) (sym e) ∙ seen_front p pass (n - 1) b k (omega arith) in
    let after : drop (run x.shape.depth xs) xs ≡ seen p pass (n - 1 - k) b = ap (λ (j : ℕ). drop j xs) (sym e) ∙ seen_rest p pass (n - 1) b k (omega arith) in
    let a = sib x (seen p pass (n - 1) (n - 1 - k)) in
    let t = section false 0 (seen p pass (n - 1 - k) b) in
    let whole : section false 0 (seen p pass n b) ≡ a + t =
    ap (section false 0) (seen_step p pass n b h) ∙ section_step x xs ∙ ap₂ ◌+◌ (ap (sib x) front) (ap (section false 0) after) in
    mod-add-mod (s + a % m) m t
    ∙ ap (λ (j : ℕ). j % m) (sum-swap s (a % m) t)
    ∙ add-mod-mod (s + t) a m
    ∙ ap (λ (j : ℕ). j % m) (sum-swap s t a ∙ add_assoc s a t ∙ ap (λ (j : ℕ). s + j) (sym whole))
  where
    sum-swap : (s a t : ℕ) → (s + a) + t ≡ (s + t) + a
    sum-swap s a t = omega arith

abbrev pub shape_in : Seen → Shape
shape_in x = x.shape

abbrev pub latch_in : Seen → Bool
latch_in x = x.latch

-- the reach after a SIB on the path, by what it hides
reach_hides : (x : Seen) (r : ℕ) → leb x.shape.depth r ≡ true → cond (hides x) x.shape.depth (suc x.shape.depth) ≡ reach_after r x.shape x.latch
reach_hides x r e = rw e (flip (x.shape.doorway && x.latch))
  where
    flip : (o : Bool) → cond (not o) x.shape.depth (suc x.shape.depth) ≡ cond o (suc x.shape.depth) x.shape.depth
    flip true = refl
    flip false = refl

not_hiding : (x : Seen) → hides x ≡ false → cond x.shape.doorway (suc x.shape.depth) x.shape.depth ≤ suc x.shape.depth
not_hiding x e = bound x.shape.doorway
  where
    bound : (o : Bool) → cond o (suc x.shape.depth) x.shape.depth ≤ suc x.shape.depth
    bound true = omega arith
    bound false = omega arith

-- A section that is well formed has the cells that a walk counts.
pub section_span : (q : ℕ) (b : Bool) (e : ℕ) (xs : List Seen) → Formed q (map shape_in xs) → (b ≡ false → q ≤ suc e)
    → section b e xs ≡ span (cond b e (suc e)) (map shape_in xs) (map latch_in xs)
section_span q b e [] f h = refl
section_span q true e (x ∷ xs) f h =
    elim (cases_Bool (ltb e x.shape.depth)) [
      | inl t ↦
          (let off : leb x.shape.depth e ≡ false = grind (arith, nat_tests) in
          simp (t, off) (section_span (cond x.shape.doorway (suc x.shape.depth) x.shape.depth) true e xs f.2 (λ u. absurd (grind arith)) ∙ sym (zero-add _)))
      | inr n ↦
          (let at : leb x.shape.depth e ≡ true = grind (arith, nat_tests) in
          let after = section_span (cond x.shape.doorway (suc x.shape.depth) x.shape.depth) (hides x) x.shape.depth xs f.2 (not_hiding x) in
          let next = reach_hides x e at in
          simp (n, at) (ap (λ (j : ℕ). sib_cells x.shape x.latch + j) (after ∙ ap (λ (r : ℕ). span r (map shape_in xs) (map latch_in xs)) (next ∙ simp at))))
    ]
section_span q false e (x ∷ xs) f h =
    let at : leb x.shape.depth (suc e) ≡ true = (let k = h refl in let d = f.1 in grind (arith, nat_tests)) in
    let after = section_span (cond x.shape.doorway (suc x.shape.depth) x.shape.depth) (hides x) x.shape.depth xs f.2 (not_hiding x) in
    let next = reach_hides x (suc e) at in
    simp at (ap (λ (j : ℕ). sib_cells x.shape x.latch + j) (after ∙ ap (λ (r : ℕ). span r (map shape_in xs) (map latch_in xs)) (next ∙ simp at)))

pub seen_all : (p : Plan) (pass n : ℕ) → seen p pass n 0 ≡ down (seen_at p pass) n
seen_all p pass n = take_all (n - 0) (down (seen_at p pass) n) (let k = length_down (seen_at p pass) n in omega arith)

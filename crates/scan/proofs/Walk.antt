-- The walk marks a SIB exactly where all that it stands behind are open.
use Rattle.std.proofs.Common.{◌≡◌, ℕ, zero, suc, ◌<◌, ◌≤◌, Bool, true, false, cond, ◌&&◌, leb, List, [], ◌∷◌, map, length, get_or, sym, refl, ◌∙◌, inl, inr, arith}
use Rattle.std.proofs.lemmas.List.{length-map}
use Rattle.std.proofs.lemmas.Bool.{cases_lt, cases_eq, leb-true, le-leb}
use Rattle.std.proofs.lemmas.Bool.Decides.{nat_tests}
use Rattle.scan.specs.Network.{Build, build_of, latch_of}
use Rattle.scan.specs.Path.{Formed, nowhere, depth_at, reach_after, marks, PathTakesOpenDoorways}
use Rattle.scan.proofs.Depths.{Above, behind_above, above_behind}

-- the reach at the place i
reach : ℕ → List Build → List Bool → ℕ → ℕ
reach r ps ls zero = r
reach r [] ls (suc i) = r
reach r (p ∷ ps) [] (suc i) = r
reach r (p ∷ ps) (l ∷ ls) (suc i) = reach (reach_after r p l) ps ls i

reach_on : (r : ℕ) (ps : List Build) (ls : List Bool) (i : ℕ) → i < length ps → length ls ≡ length ps → reach r ps ls (suc i) ≡ reach_after (reach r ps ls i) (get_or ps i nowhere) (get_or ls i false)
unfolding reach
reach_on r [] ls i h e = absurd (omega (arith, h))
reach_on r (p ∷ ps) [] i h e = absurd (omega (arith, e))
reach_on r (p ∷ ps) (l ∷ ls) zero h e = refl
reach_on r (p ∷ ps) (l ∷ ls) (suc i) h e = reach_on (reach_after r p l) ps ls i (omega (arith, h)) (omega (arith, e))

marks_at : (r : ℕ) (ps : List Build) (ls : List Bool) (i : ℕ) → i < length ps → length ls ≡ length ps → get_or (marks r ps ls) i false ≡ leb (depth_at ps i) (reach r ps ls i)
unfolding reach
marks_at r [] ls i h e = absurd (omega (arith, h))
marks_at r (p ∷ ps) [] i h e = absurd (omega (arith, e))
marks_at r (p ∷ ps) (l ∷ ls) zero h e = refl
marks_at r (p ∷ ps) (l ∷ ls) (suc i) h e = marks_at (reach_after r p l) ps ls i (omega (arith, h)) (omega (arith, e))

-- how deep the SIB at the place i may lie
unfoldable pub room : ℕ → List Build → ℕ → ℕ
room b ps zero = b
room b ps (suc i) = cond (get_or ps i nowhere).doorway (suc (depth_at ps i)) (depth_at ps i)

pub formed_at : (b : ℕ) (ps : List Build) (i : ℕ) → Formed b ps → i < length ps → depth_at ps i ≤ room b ps i
unfolding room
formed_at b [] i f h = absurd (omega (arith, h))
formed_at b (p ∷ ps) zero f h = f.1
formed_at b (p ∷ ps) (suc zero) f h = formed_at (cond p.doorway (suc p.depth) p.depth) ps zero f.2 (omega (arith, h))
formed_at b (p ∷ ps) (suc (suc i)) f h = formed_at (cond p.doorway (suc p.depth) p.depth) ps (suc i) f.2 (omega (arith, h))

-- one step of the walk, in numbers and tests
past_low : (door l : Bool) (c d r : ℕ) → c ≤ d → (c ≤ cond (leb d r) (cond (door && l) (suc d) d) r → c ≤ r) × (c ≤ r → c ≤ cond (leb d r) (cond (door && l) (suc d) d) r)
past_low door l c d r h = (λ u. grind (arith, nat_tests), λ u. grind (arith, nat_tests))

past_high : (door l : Bool) (c d r : ℕ) → c ≤ cond door (suc d) d → d < c → (door ≡ true) × (c ≡ suc d) × (suc d ≤ cond (leb d r) (cond (door && l) (suc d) d) r → (d ≤ r) × (l ≡ true))
past_high door l c d r h u = (grind arith, grind arith, λ v. (grind (arith, nat_tests), grind (arith, nat_tests)))

past_open : (door l : Bool) (d r : ℕ) → door ≡ true → l ≡ true → d ≤ r → suc d ≤ cond (leb d r) (cond (door && l) (suc d) d) r
past_open door l d r a b c = grind (arith, nat_tests)

-- all that lie above a SIB of depth c at the place i are open
abbrev Clear : (ℕ → ℕ) → (ℕ → Bool) → ℕ → ℕ → Type 0
Clear d l i c = (j : ℕ) → Above d i c j → l j ≡ true

-- The depth c is in reach at the place i exactly where it is clear: d has the depths, r the reach, door and l which are doorways and open.
module _ (d r room : ℕ → ℕ) (door l : ℕ → Bool) (n : ℕ)
    (start : r 0 ≡ 1) (narrow : room 0 ≡ 1)
    (goes : (i : ℕ) → i < n → r (suc i) ≡ cond (leb (d i) (r i)) (cond (door i && l i) (suc (d i)) (d i)) (r i))
    (room_is : (i : ℕ) → room (suc i) ≡ cond (door i) (suc (d i)) (d i))
    (fits : (i : ℕ) → i < n → d i ≤ room i) where
  clear : (i c : ℕ) → i ≤ n → c ≤ room i → (c ≤ r i → Clear d l i c) × (Clear d l i c → c ≤ r i)
  clear zero c h k = (λ u j o. absurd (omega (arith, o.before)), λ u. omega (arith, start, narrow))
  clear (suc i) c h k =
      let step = goes i (omega arith) in
      let fit = fits i (omega arith) in
      elim (cases_lt (d i) c) [
        | inr low ↦
            (let same = past_low (door i) (l i) c (d i) (r i) low in
            let ih = clear i c (omega arith) (omega (arith, fit)) in (
              λ u j o.
                  let at : j < i = elim (cases_eq j i) [ inl e ↦ (let w = o.less in let w' : d i < c = rw e at w in absurd (omega arith)) | inr e ↦ omega (arith, e, o.before) ] in
                  ih.0 (same.0 (rw step at u)) j (record { before = at; less = o.less; all = λ m a b. o.all m a (omega arith) }),
              λ u. rw step (same.1 (ih.1 (λ j o. u j (record {
                before = omega (arith, o.before);
                less = o.less;
                all = λ m a b. elim (cases_eq m i) [ inl e ↦ rw e (omega (arith, o.less)) | inr e ↦ o.all m a (omega (arith, e)) ];
              })))),
            ))
        | inl high ↦
            (let t = past_high (door i) (l i) c (d i) (r i) (rw (room_is i) at k) high in
            let ih = clear i (d i) (omega arith) fit in (
              λ u j o.
                  let v : suc (d i) ≤ r (suc i) = omega (arith, u, t.1) in
                  let w = t.2 (rw step at v) in
                  elim (cases_eq j i) [
                    | inl e ↦ rw e w.1
                    | inr e ↦
                        (let at : j < i = omega (arith, e, o.before) in
                        ih.0 w.0 j (record { before = at; less = o.all i at (omega arith); all = λ m a b. o.all m a (omega arith) }))
                  ],
              λ u.
                  let here : l i ≡ true = u i (record { before = omega arith; less = high; all = λ m a b. absurd (omega arith) }) in
                  let deep : d i ≤ r i = ih.1 (λ j o. u j (record {
                    before = omega (arith, o.before);
                    less = omega (arith, o.less);
                    all = λ m a b. elim (cases_eq m i) [ inl e ↦ rw e o.less | inr e ↦ o.all m a (omega (arith, e)) ];
                  })) in
                  rw (t.1, step) (past_open (door i) (l i) (d i) (r i) t.0 here deep),
            ))
      ]

pub walk_law : PathTakesOpenDoorways
unfolding reach room
walk_law ss i f h =
    let ps = map build_of ss in
    let ls = map latch_of ss in
    let size : length ps ≡ length ss = length-map ss build_of in
    let long : length ls ≡ length ps = length-map ss latch_of ∙ sym size in
    let n = length ps in
    let h' : i < n = omega arith in
    let fits : (k : ℕ) → k < n → depth_at ps k ≤ room 1 ps k = λ k u. formed_at 1 ps k f u in
    let both = clear (depth_at ps) (reach 1 ps ls) (room 1 ps) (λ k. (get_or ps k nowhere).doorway) (λ k. get_or ls k false) n refl refl
    (λ k u. reach_on 1 ps ls k u long) (λ k. refl) fits i (depth_at ps i) (omega arith) (fits i h') in
    let gradual : (m : ℕ) → suc m < n → depth_at ps (suc m) ≤ suc (depth_at ps m) = λ m u. (let v = fits (suc m) u in grind arith) in
    let mark = marks_at 1 ps ls i h' long in (
      λ e j b. both.0 (leb-true (depth_at ps i) (reach 1 ps ls i) (sym mark ∙ e)) j (behind_above (depth_at ps) n gradual h' b),
      λ u. mark ∙ le-leb (depth_at ps i) (reach 1 ps ls i) (both.1 (λ j o. u j (above_behind (depth_at ps) n gradual (suc i) i j (omega arith) h' o))),
    )

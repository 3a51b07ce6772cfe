-- The needed doorways are those that a wanted instrument stands behind.
use Rattle.std.proofs.Common.{◌≡◌, ℕ, zero, suc, ◌<◌, ◌≤◌, Bool, true, false, cond, List, [], ◌∷◌, length, get_or, inl, inr, arith}
use Rattle.std.proofs.lemmas.Bool.{cases_eq, and_parts, and_from, or_cases, or_left, or_right, leb-true, le-leb}
use Rattle.scan.proofs.Depths.{Above, behind_above, above_behind}
use Rattle.retarget.specs.Shapes.{Shape, Formed, nowhere, depth_at}
use Rattle.retarget.specs.Wants.{wanted, found, needs, wanted_at, NeededLeadsToWanted}

-- A wanted instrument stands at the place m, and nothing up to it is less deep than c.
record Meets (c : ℕ) (ps : List Shape) (ws : List Bool) (m : ℕ) : Type 0 where
  inside : m < length ps
  want : wanted_at ps ws m ≡ true
  all : (k : ℕ) → k ≤ m → c ≤ depth_at ps k

found_meets : (c : ℕ) (ps : List Shape) (ws : List Bool) → found c ps ws ≡ true → (m : ℕ) × Meets c ps ws m
found_meets c [] ws h = absurd (grind arith)
found_meets c (s ∷ ps) [] h = absurd (grind arith)
found_meets c (s ∷ ps) (w ∷ ws) h =
    let t = and_parts _ _ h in
    let deep = leb-true c s.depth t.0 in
    elim (or_cases (wanted s w) (found c ps ws) t.1) [
      | inl e ↦ (0, record { inside = omega arith; want = e; all = here deep })
      | inr e ↦
          (let i = found_meets c ps ws e in
          (suc i.0, record { inside = omega (arith, i.1.inside); want = i.1.want; all = ahead deep i.0 i.1.all }))
    ]
  where
    here : c ≤ s.depth → (k : ℕ) → k ≤ 0 → c ≤ depth_at (s ∷ ps) k
    here l zero u = l
    here l (suc k) u = absurd (omega arith)

    ahead : c ≤ s.depth → (m : ℕ) → ((k : ℕ) → k ≤ m → c ≤ depth_at ps k) → (k : ℕ) → k ≤ suc m → c ≤ depth_at (s ∷ ps) k
    ahead l m f zero u = l
    ahead l m f (suc k) u = f k (omega arith)

meets_found : (c : ℕ) (ps : List Shape) (ws : List Bool) (m : ℕ) → length ws ≡ length ps → Meets c ps ws m → found c ps ws ≡ true
meets_found c [] ws m e h = absurd (omega (arith, h.inside))
meets_found c (s ∷ ps) [] m e h = absurd (omega (arith, e))
meets_found c (s ∷ ps) (w ∷ ws) zero e h = and_from _ _ (le-leb c s.depth (h.all 0 (omega arith))) (or_left _ _ h.want)
meets_found c (s ∷ ps) (w ∷ ws) (suc m) e h =
    and_from _ _ (le-leb c s.depth (h.all 0 (omega arith)))
    (or_right _ _ (meets_found c ps ws m (omega (arith, e)) (record { inside = omega (arith, h.inside); want = h.want; all = λ k u. h.all (suc k) (omega arith) })))

needs_above : (ps : List Shape) (ws : List Bool) (i : ℕ) → get_or (needs ps ws) i false ≡ true
    → (m : ℕ) × (m < length ps) × (wanted_at ps ws m ≡ true) × Above (depth_at ps) m (depth_at ps m) i
needs_above [] ws i h = absurd (grind arith)
needs_above (s ∷ ps) [] i h = absurd (grind arith)
needs_above (s ∷ ps) (w ∷ ws) zero h =
    let t = found_meets (suc s.depth) ps ws (and_parts s.doorway (found (suc s.depth) ps ws) h).1 in
    (suc t.0, omega (arith, t.1.inside), t.1.want, record { before = omega arith; less = t.1.all t.0 (omega arith); all = between t.0 t.1.all })
  where
    between : (m : ℕ) → ((k : ℕ) → k ≤ m → suc s.depth ≤ depth_at ps k) → (k : ℕ) → 0 < k → k < suc m → s.depth < depth_at (s ∷ ps) k
    between m f zero a b = absurd (omega arith)
    between m f (suc k) a b = f k (omega arith)
needs_above (s ∷ ps) (w ∷ ws) (suc i) h =
    let t = needs_above ps ws i h in
    let o = t.3 in
    (suc t.0, omega (arith, t.1), t.2, record { before = omega (arith, o.before); less = o.less; all = between t.0 o.all })
  where
    between : (m : ℕ) → ((k : ℕ) → i < k → k < m → depth_at ps i < depth_at ps k) → (k : ℕ) → suc i < k → k < suc m → depth_at ps i < depth_at (s ∷ ps) k
    between m f zero a b = absurd (omega arith)
    between m f (suc k) a b = f k (omega arith) (omega arith)

above_needs : (ps : List Shape) (ws : List Bool) (i m : ℕ) → length ws ≡ length ps → (get_or ps i nowhere).doorway ≡ true → m < length ps → wanted_at ps ws m ≡ true
    → Above (depth_at ps) m (depth_at ps m) i → get_or (needs ps ws) i false ≡ true
above_needs [] ws i m e d h w o = absurd (omega (arith, h))
above_needs (s ∷ ps) [] i m e d h w o = absurd (omega (arith, e))
above_needs (s ∷ ps) (x ∷ ws) i zero e d h w o = absurd (omega (arith, o.before))
above_needs (s ∷ ps) (x ∷ ws) zero (suc m) e d h w o =
    and_from _ _ d (meets_found (suc s.depth) ps ws m (omega (arith, e)) (record { inside = omega (arith, h); want = w; all = up }))
  where
    up : (k : ℕ) → k ≤ m → suc s.depth ≤ depth_at ps k
    up k u = elim (cases_eq k m) [ inl same ↦ rw same o.less | inr other ↦ o.all (suc k) (omega arith) (omega (arith, other)) ]
above_needs (s ∷ ps) (x ∷ ws) (suc i) (suc m) e d h w o =
    above_needs ps ws i m (omega (arith, e)) d (omega (arith, h)) w (record {
      before = omega (arith, o.before);
      less = o.less;
      all = λ k a b. o.all (suc k) (omega arith) (omega arith);
    })

-- How deep the place after i may lie.
pub formed_next : (b : ℕ) (ps : List Shape) (i : ℕ) → Formed b ps → suc i < length ps
    → depth_at ps (suc i) ≤ cond (get_or ps i nowhere).doorway (suc (depth_at ps i)) (depth_at ps i)
formed_next b [] i f h = absurd (omega (arith, h))
formed_next b (s ∷ []) i f h = absurd (omega (arith, h))
formed_next b (s ∷ t ∷ ps) zero f h = f.2.1
formed_next b (s ∷ t ∷ ps) (suc i) f h = formed_next (cond s.doorway (suc s.depth) s.depth) (t ∷ ps) i f.2 (omega (arith, h))

pub needed_law : NeededLeadsToWanted
needed_law ps ws i f e =
    let n = length ps in
    let gradual : (m : ℕ) → suc m < n → depth_at ps (suc m) ≤ suc (depth_at ps m) = λ m u. (let v = formed_next 1 ps m f u in grind arith) in (
      λ h.
          let t = needs_above ps ws i h in
          (t.0, t.1, t.2, above_behind (depth_at ps) n gradual (suc t.0) t.0 i (omega arith) t.1 t.3),
      λ w.
          let m = w.0 in
          let o = behind_above (depth_at ps) n gradual w.1 w.3 in
          let up : depth_at ps i < depth_at ps (suc i) = elim (cases_eq (suc i) m) [ inl same ↦ rw same o.less | inr other ↦ o.all (suc i) (omega arith) (omega (arith, other, o.before)) ] in
          let v = formed_next 1 ps i f (omega (arith, o.before, w.1)) in
          let door : (get_or ps i nowhere).doorway ≡ true = grind arith in
          above_needs ps ws i m e door w.1 w.2 o,
    )

-- Standing behind, on depths alone: d says how deep each of n places lies.
use Rattle.std.proofs.Common.{◌≡◌, ℕ, zero, suc, ◌+◌, ◌-◌, ◌<◌, ◌≤◌, inl, inr, arith}
use Rattle.std.proofs.lemmas.Bool.{cases_lt, cases_eq, cases_order}
use Rattle.scan.specs.Path.{DirectlyBehind, Behind, directly, through}

-- j lies above a SIB of depth c at the place i: it is less deep than c and than all between them
pub record Above (d : ℕ → ℕ) (i c j : ℕ) : Type 0 where
  pub before : j < i
  pub less : d j < c
  pub all : (m : ℕ) → j < m → m < i → d j < d m

-- Each next place is at most one deeper.
module _ (d : ℕ → ℕ) (n : ℕ) (gradual : (m : ℕ) → suc m < n → d (suc m) ≤ suc (d m)) where
  -- Nothing between a SIB and the one that it stands directly behind is less deep than that one.
  climb : (t i j m : ℕ) → i < n → DirectlyBehind d i j → j < m → m + t ≡ i → d m < d j → ⊥
  climb zero i j m h p l e k =
      let same : m ≡ i = omega arith in
      let k' : d i < d j = rw same at k in
      omega (arith, p.one_less)
  climb (suc t) i j m h p l e k =
      let s = gradual m (omega arith) in
      elim (cases_eq (suc m) i) [
        | inl same ↦ (let s' : d i ≤ suc (d m) = rw same at s in omega (arith, p.one_less))
        | inr other ↦
            (let apart = p.nearest (suc m) (omega arith) (omega arith) in
            let low : d (suc m) < d j = omega (arith, p.one_less, apart) in
            climb t i j (suc m) h p (omega arith) (omega arith) low)
      ]

  directly_above : (i j : ℕ) → i < n → DirectlyBehind d i j → Above d i (d i) j
  directly_above i j h p = record {
    before = p.before;
    less = omega (arith, p.one_less);
    all = λ m a b.
        elim (cases_lt (d j) (d m)) [
          | inl l ↦ l
          | inr l ↦
              (let apart = p.nearest m a b in
              let low : d m < d j = omega (arith, p.one_less, apart) in
              absurd (climb (i - m) i j m h p a (omega arith) low))
        ];
  }

  pub behind_above : {i j : ℕ} → i < n → Behind d i j → Above d i (d i) j
  behind_above {i} {j} h (directly p) = directly_above i j h p
  behind_above {i} {j} h (through {m = m} p b) =
      let o = directly_above i m h p in
      let q = behind_above {i = m} {j = j} (omega (arith, p.before)) b in
      record {
        before = omega (arith, p.before, q.before);
        less = omega (arith, o.less, q.less);
        all = λ k a c.
            elim (cases_order k m) [
              | inl e ↦ (let l = q.less in rw e l)
              | inr (inl l) ↦ q.all k a l
              | inr (inr l) ↦ (let u = o.all k l c in omega (arith, u, q.less))
            ];
      }

  -- the nearest before i that lies less deep
  lower : (t i j : ℕ) → t ≤ i → j < t → d j < d i → ((m : ℕ) → t ≤ m → m < i → d i ≤ d m)
      → (m : ℕ) × (j ≤ m) × (m < i) × (d m < d i) × ((k : ℕ) → m < k → k < i → d i ≤ d k)
  lower zero i j a b c f = absurd (omega arith)
  lower (suc t) i j a b c f =
      elim (cases_lt (d t) (d i)) [
        | inl l ↦ (t, omega arith, omega arith, l, λ k x y. f k x y)
        | inr l ↦
            (let apart : j ≡ t → ⊥ = λ e. (let c' : d t < d i = rw e at c in omega arith) in
            lower t i j (omega arith) (omega (arith, apart)) c (λ m x y. elim (cases_eq m t) [ inl e ↦ rw e l | inr u ↦ f m (omega (arith, u)) y ]))
      ]

  pub above_behind : (t i j : ℕ) → i < t → i < n → Above d i (d i) j → Behind d i j
  above_behind zero i j a h o = absurd (omega arith)
  above_behind (suc t) i j a h o =
      let w = lower i i j (omega arith) o.before o.less (λ m x y. absurd (omega arith)) in
      let m = w.0 in
      let s = gradual m (omega (arith, w.2)) in
      let top : d i ≤ suc (d m) = elim (cases_eq (suc m) i) [ inl e ↦ rw e at s | inr u ↦ (let v = w.4 (suc m) (omega arith) (omega (arith, u, w.2)) in omega (arith, v, s)) ] in
      let p : DirectlyBehind d i m = record {
        before = w.2;
        one_less = omega (arith, top, w.3);
        nearest = λ k x y e. (let v = w.4 k x y in omega arith);
      } in
      elim (cases_eq j m) [
        | inl e ↦ directly (rw e p)
        | inr u ↦
            (let l : j < m = omega (arith, w.1, u) in
            through p (above_behind t m j (omega (arith, w.2)) (omega (arith, w.2)) (record {
              before = l;
              less = o.all m l w.2;
              all = λ k x y. o.all k x (omega (arith, w.2));
            })))
      ]

-- Numbers put one after the other.
use Rattle.std.proofs.Common.{◌≡◌, ℕ, zero, suc, ◌+◌, ◌-◌, ◌<◌, ◌≤◌, min, true, false, ◌&&◌, List, [], ◌∷◌, ◌++◌, length, refl, sym, ap, ◌∙◌, inl, inr, arith}
use Rattle.std.proofs.lemmas.Bool.{cases_lt}
use Rattle.std.proofs.lemmas.Bool.Decides.{nat_tests}
use Rattle.table.specs.declared.Record.{Record}
use Rattle.table.specs.Marks.{numbered, is_excluded}
use Rattle.reply.specs.Numbers.{has_room, with_number, with_numbers, listed}

-- beyond the end nothing is put
no_room : (bytes : List ℕ) (at n : ℕ) → length bytes < at + 2 → with_number bytes at n ≡ bytes
no_room bytes at n h = let f : has_room bytes at n ≡ false = grind (arith, nat_tests) in simp f

past_end : (bytes : List ℕ) (at : ℕ) (ns : List ℕ) → length bytes < at + 2 → with_numbers bytes at ns ≡ bytes
past_end bytes at [] h = refl
past_end bytes at (n ∷ ns) h = ap (λ (b : List ℕ). with_numbers b (at + 2) ns) (no_room bytes at n h) ∙ past_end bytes (at + 2) ns (omega arith)

-- a place that no slice reaches may as well be the last one
pub capped : (bytes : List ℕ) (at top : ℕ) (ns : List ℕ) → length bytes ≤ top → with_numbers bytes (min at top) ns ≡ with_numbers bytes at ns
capped bytes at top ns h =
    elim (cases_lt top at) [
      | inl l ↦ (let e : min at top ≡ top = omega arith in ap (λ (k : ℕ). with_numbers bytes k ns) e ∙ past_end bytes top ns (omega arith) ∙ sym (past_end bytes at ns (omega arith)))
      | inr l ↦ (let e : min at top ≡ at = omega arith in ap (λ (k : ℕ). with_numbers bytes k ns) e)
    ]

-- one number more is put, or passed over
pub put_more : (rs : List Record) (bytes after ns : List ℕ) (at next top n : ℕ) → length after ≤ top → next ≡ min (at + 2) top → after ≡ with_number bytes at n
    → 1 ≤ n → ((numbered rs n).chosen && is_excluded rs n) ≡ true → with_numbers after next (listed rs (n - 1) ++ ns) ≡ with_numbers bytes at (listed rs n ++ ns)
put_more rs bytes after ns at next top zero h e f g c = elim g [ ]
put_more rs bytes after ns at next top (suc k) h e f g c =
    let back : suc k - 1 ≡ k = omega arith in
    ap (λ (j : ℕ). with_numbers after next (listed rs j ++ ns)) back
    ∙ ap (λ (j : ℕ). with_numbers after j (listed rs k ++ ns)) e
    ∙ capped after (at + 2) top (listed rs k ++ ns) h
    ∙ ap (λ (b : List ℕ). with_numbers b (at + 2) (listed rs k ++ ns)) f
    ∙ sym (simp c)

pub pass_over : (rs : List Record) (bytes ns : List ℕ) (at n : ℕ) → 1 ≤ n → ((numbered rs n).chosen && is_excluded rs n) ≡ false
    → with_numbers bytes at (listed rs (n - 1) ++ ns) ≡ with_numbers bytes at (listed rs n ++ ns)
pass_over rs bytes ns at zero g c = elim g [ ]
pass_over rs bytes ns at (suc k) g c =
    let back : suc k - 1 ≡ k = omega arith in
    ap (λ (j : ℕ). with_numbers bytes at (listed rs j ++ ns)) back ∙ sym (simp c)

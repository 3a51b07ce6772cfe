-- The stuck cells of a path by their places, and one site's.
use Rattle.std.proofs.Common.{◌≡◌, ℕ, zero, suc, ◌+◌, ◌<◌, ◌≤◌, Bool, true, false, cond, List, [], ◌∷◌, ◌++◌, length, set, replicate, Some, None, Option, inl, inr, sym, refl, ap, ◌∙◌, arith}
use Rattle.std.proofs.lemmas.List.{append_assoc, length-replicate, length_push, set_at, set_past}
use Rattle.std.specs.Prelude.{nat_lt, ◌&&◌, ◌⊎◌}
use Rattle.std.proofs.lemmas.Bool.{cases_lt, cond_below, cond_above}
use Rattle.scan.specs.Network.{Flaw, sound, stuck, shown}
use Rattle.simulator.specs.declared.site.Stuck.{Stuck}
use Rattle.simulator.specs.declared.site.StuckPlace.{StuckPlace}
use Rattle.simulator.specs.Meaning.{row_flaws, stuck_places, forced}

abbrev pub stuck_place : ℕ → Bool → StuckPlace
stuck_place n b = record { place = n; bit = b }

append_at : (n m : ℕ) (fs gs : List Flaw) → n + length fs ≡ m → stuck_places n (fs ++ gs) ≡ stuck_places n fs ++ stuck_places m gs
append_at n m [] gs e = let same : n ≡ m = omega arith in rw same
append_at n m (sound ∷ fs) gs e = append_at (suc n) m fs gs (omega arith)
append_at n m (stuck b ∷ fs) gs e = ap (λ ps. stuck_place n b ∷ ps) (append_at (suc n) m fs gs (omega arith))

pub stuck_places_append : (n : ℕ) (fs gs : List Flaw) → stuck_places n (fs ++ gs) ≡ stuck_places n fs ++ stuck_places (n + length fs) gs
stuck_places_append n fs gs = append_at n (n + length fs) fs gs refl

-- a path whose first bits, ys, are no more touched
forced_from : (n : ℕ) (ys : List Bool) (fs : List Flaw) (xs : List Bool) → length ys ≡ n → length xs ≡ length fs
    → forced (ys ++ xs) (stuck_places n fs) ≡ ys ++ shown fs xs
forced_from n ys [] xs e h = refl
forced_from n ys (f ∷ fs) [] e h = absurd (omega arith)
forced_from n ys (sound ∷ fs) (x ∷ xs) e h =
    ap (λ zs. forced zs (stuck_places (suc n) fs)) (sym (append_assoc ys (x ∷ []) xs))
    ∙ forced_from (suc n) (ys ++ x ∷ []) fs xs (simp length_push (omega arith)) (omega arith)
    ∙ append_assoc ys (x ∷ []) (shown fs xs)
forced_from n ys (stuck b ∷ fs) (x ∷ xs) e h =
    ap (λ zs. forced zs (stuck_places (suc n) fs)) (set_at ys x xs b n e ∙ sym (append_assoc ys (b ∷ []) xs))
    ∙ forced_from (suc n) (ys ++ b ∷ []) fs xs (simp length_push (omega arith)) (omega arith)
    ∙ append_assoc ys (b ∷ []) (shown fs xs)

pub forced_is_shown : (fs : List Flaw) (xs : List Bool) → length xs ≡ length fs → forced xs (stuck_places 0 fs) ≡ shown fs xs
forced_is_shown fs xs h = forced_from 0 [] fs xs refl h

sound_row : (n k : ℕ) → stuck_places n (replicate k sound) ≡ []
sound_row n zero = refl
sound_row n (suc k) = sound_row (suc n) k

stuck_row : (n k c p : ℕ) (b : Bool) → c < k → n + c ≡ p → stuck_places n (set (replicate k sound) c (stuck b)) ≡ stuck_place p b ∷ []
stuck_row n zero c p b h e = absurd (omega arith)
stuck_row n (suc k) zero p b h e = let same : n ≡ p = omega arith in rw (sound_row (suc n) k, same)
stuck_row n (suc k) (suc c) p b h e = stuck_row (suc n) k c p b (omega arith) (omega arith)

past_row : (n k c : ℕ) (b : Bool) → k ≤ c → stuck_places n (set (replicate k sound) c (stuck b)) ≡ []
past_row n k c b h = ap (stuck_places n) (set_past (replicate k sound) c (stuck b) (simp length-replicate h)) ∙ sound_row n k

-- what is stuck of a row that is on the path where `there`, of k cells, after a SIB's own cell at place n
abbrev pub stuck_by : ℕ → ℕ → Bool → Option Stuck → List StuckPlace
stuck_by n k there None = []
stuck_by n k there (Some f) = cond (there && nat_lt f.cell k) (stuck_place (n + 1 + f.cell) f.bit ∷ []) []

in_row : (n k : ℕ) (f : Stuck) → (f.cell < k) ⊎ (k ≤ f.cell) → stuck_places (suc n) (row_flaws k (Some f)) ≡ stuck_by n k true (Some f)
in_row n k f (inl h) = stuck_row (suc n) k f.cell (n + 1 + f.cell) f.bit h (omega arith) ∙ cond_below f.cell k _ _ h
in_row n k f (inr h) = past_row (suc n) k f.cell f.bit h ∙ cond_above f.cell k _ _ _ h refl

pub stuck_part : (n k : ℕ) (there : Bool) (o : Option Stuck) → stuck_places (suc n) (cond there (row_flaws k o) []) ≡ stuck_by n k there o
stuck_part n k true None = sound_row (suc n) k
stuck_part n k true (Some f) = in_row n k f (cases_lt f.cell k)
stuck_part n k false None = refl
stuck_part n k false (Some f) = refl

-- Rows of bits that are sent and kept.
use Rattle.std.proofs.Common.{◌≡◌, ℕ, zero, suc, ◌+◌, ◌-◌, ◌<◌, ◌≤◌, Bool, true, false, ◌≢◌, List, [], ◌∷◌, length, get_or, set, replicate, Ok, sym, refl, ap, ◌∙◌, subst, ap₂, arith, get_or-set_other}
use lib.ListN.{length-replicate}
use Rattle.refusal.specs.declared.Loss.{Loss}
use Rattle.scan.specs.Network.{Network, scan}
use Rattle.scan.specs.Path.{path}
use Rattle.scan.specs.Moves.{first, shift, outs}
use Rattle.scan.specs.Calls.{Shifts}
use Rattle.shifting.specs.Orders.{bits_from}
use Rattle.shifting.specs.Feeding.{fed, laid, StaysFrom}
use Rattle.shifting.proofs.Midway.{Midway, midway_none, midway_more, midway_all}

pub bits_from_step : (row : List Bool) (at n k : ℕ) → k < n → bits_from row at (n - k) ≡ get_or row at false ∷ bits_from row (at + 1) (n - (k + 1))
bits_from_step row at n k h =
    let long : n - k ≡ suc (n - (k + 1)) = omega arith in
    let next : suc at ≡ at + 1 = omega arith in
    ap (bits_from row at) long ∙ ap (λ (j : ℕ). get_or row at false ∷ bits_from row j (n - (k + 1))) next

pub ones_step : (n k : ℕ) → k < n → replicate (n - k) true ≡ true ∷ replicate (n - (k + 1)) true
ones_step n k h = let long : n - k ≡ suc (n - (k + 1)) = omega arith in ap (λ (j : ℕ). replicate j true) long

-- one bit more of a write
pub write_more : (can : Loss → Type 0) (b x y : Network) (whole row : List Bool) (at n k : ℕ) (bit out : Bool) (next : ℕ) → k < n → next ≡ at + 1 → bit ≡ get_or row at false
    → Midway b x whole (bits_from row at (n - k)) → Shifts can x bit (Ok out) y → Midway b y whole (bits_from row next (n - (k + 1)))
write_more can b x y whole row at n k bit out next h e v w s =
    let cut = bits_from_step row at n k h in
    let W : List Bool → Type 0 = Midway b x whole in
    let w' : Midway b x whole (bit ∷ bits_from row (at + 1) (n - (k + 1))) = rw (v, ← cut) w in
    rw e (midway_more can b x y whole (bits_from row (at + 1) (n - (k + 1))) bit out w' s)

-- what is kept of bits that come out: `row` is the row now, and the next bit goes to `at`
pub record Keeping (b x : Network) (whole rest row₀ row : List Bool) (start at end : ℕ) : Type 0 where
  pub midway : Midway b x whole rest
  pub kept : laid row at (outs x.sites rest) ≡ laid row₀ start (outs b.sites whole)
  pub stays : StaysFrom end row₀ row

pub stays_set : (end at : ℕ) (row₀ row : List Bool) (bit : Bool) → at < end → StaysFrom end row₀ row → StaysFrom end row₀ (set row at bit)
stays_set end at row₀ row bit h s i l = let ne : i ≢ at = omega arith in rw get_or-set_other (s i l)

pub keeping_none : (b : Network) (whole row : List Bool) (start end : ℕ) → b.phase ≡ scan → Keeping b b whole whole row row start start end
keeping_none b whole row start end h = record { midway = midway_none b whole h; kept = refl; stays = λ i l. refl }

pub keeping_more : (can : Loss → Type 0) (b x y : Network) (whole rest row₀ row after : List Bool) (start at end next : ℕ) (bit out : Bool) → at < end → next ≡ at + 1
    → Keeping b x whole (bit ∷ rest) row₀ row start at end → Shifts can x bit (Ok out) y → after ≡ set row at out → Keeping b y whole rest row₀ after start next end
keeping_more can b x y whole rest row₀ row after start at end next bit out h e w s k =
    let step : next ≡ suc at = omega arith in
    record {
      midway = midway_more can b x y whole rest bit out w.midway s;
      kept =
          ap₂ (λ (r : List Bool) (n : Network). laid r next (outs n.sites rest)) (k ∙ ap (set row at) s.1) s.2
          ∙ ap (λ (j : ℕ). laid (set row at (first (path x.sites) bit)) j (outs (shift x.sites bit) rest)) step
          ∙ w.kept;
      stays = rw k (stays_set end at row₀ row out h w.stays);
    }

pub read_more : (can : Loss → Type 0) (b x y : Network) (row₀ row after : List Bool) (n k start at next : ℕ) (out : Bool) → k < n → at ≡ start + k → next ≡ at + 1
    → Keeping b x (replicate n true) (replicate (n - k) true) row₀ row start at (start + n) → Shifts can x true (Ok out) y → after ≡ set row at out
    → Keeping b y (replicate n true) (replicate (n - (k + 1)) true) row₀ after start next (start + n)
read_more can b x y row₀ row after n k start at next out h e f w s a =
    let K : List Bool → Type 0 = λ rest. Keeping b x (replicate n true) rest row₀ row start at (start + n) in
    keeping_more can b x y (replicate n true) (replicate (n - (k + 1)) true) row₀ row after start at (start + n) next true out (omega arith) f (subst K (ones_step n k h) w) s a

pub keeping_all : (b x : Network) (whole row₀ row : List Bool) (start at end : ℕ) → Keeping b x whole [] row₀ row start at end → (x ≡ fed b whole) × (row ≡ laid row₀ start (outs b.sites whole))
keeping_all b x whole row₀ row start at end w = (midway_all b x whole w.midway, w.kept)

-- before the first bit
pub write_none : (b : Network) (row : List Bool) (at n : ℕ) → b.phase ≡ scan → Midway b b (bits_from row at n) (bits_from row at (n - 0))
write_none b row at n h =
    let all : n ≡ n - 0 = omega arith in
    subst (λ (k : ℕ). Midway b b (bits_from row at n) (bits_from row at k)) all (midway_none b (bits_from row at n) h)

pub read_none : (b : Network) (row : List Bool) (n start : ℕ) → b.phase ≡ scan
    → Keeping b b (replicate n true) (replicate (n - 0) true) row row start start (start + n)
read_none b row n start h =
    let all : n ≡ n - 0 = omega arith in
    subst (λ (k : ℕ). Keeping b b (replicate n true) (replicate k true) row row start start (start + n)) all (keeping_none b (replicate n true) row start (start + n) h)

pub read_all : (b x : Network) (row₀ row : List Bool) (n k start at : ℕ) → n ≤ k → Keeping b x (replicate n true) (replicate (n - k) true) row₀ row start at (start + n)
    → (x ≡ fed b (replicate n true)) × (row ≡ laid row₀ start (outs b.sites (replicate n true)))
read_all b x row₀ row n k start at h w =
    let none : n - k ≡ 0 = omega arith in
    keeping_all b x (replicate n true) row₀ row start at (start + n) (subst (λ (j : ℕ). Keeping b x (replicate n true) (replicate j true) row₀ row start at (start + n)) none w)

pub write_all : (b x : Network) (row whole : List Bool) (at n k : ℕ) → n ≤ k → Midway b x whole (bits_from row at (n - k)) → x ≡ fed b whole
write_all b x row whole at n k h w =
    let none : n - k ≡ 0 = omega arith in
    midway_all b x whole (subst (λ (j : ℕ). Midway b x whole (bits_from row at j)) none w)

-- a row of ones is as long as it is made
pub ones_end : (start n : ℕ) (row after : List Bool) → StaysFrom (start + n) row after → StaysFrom (start + length (replicate n true)) row after
ones_end start n row after s = subst (λ (k : ℕ). StaysFrom (start + k) row after) (sym (length-replicate n true)) s

pub length_bits_from : (row : List Bool) (at n : ℕ) → length (bits_from row at n) ≡ n
length_bits_from row at zero = refl
length_bits_from row at (suc n) = ap suc (length_bits_from row (suc at) n)

-- A pass in parts: bits fed one after the other, and what is kept of those that come out.
use Rattle.std.proofs.Common.{◌≡◌, ℕ, zero, suc, Bool, true, false, cond, List, [], ◌∷◌, ◌++◌, length, replicate, sym, refl, ap, ◌∙◌, arith}
use Rattle.std.proofs.lemmas.List.{append_assoc}
use Rattle.scan.specs.Network.{Site}
use Rattle.scan.specs.Path.{path, pick}
use Rattle.scan.specs.Moves.{first, shift, feed, outs}
use Rattle.retarget.specs.Strings.{sift}

pub feed_append : (ss : List Site) (xs ys : List Bool) → feed ss (xs ++ ys) ≡ feed (feed ss xs) ys
feed_append ss [] ys = refl
feed_append ss (x ∷ xs) ys = feed_append (shift ss x) xs ys

pub outs_append : (ss : List Site) (xs ys : List Bool) → outs ss (xs ++ ys) ≡ outs ss xs ++ outs (feed ss xs) ys
outs_append ss [] ys = refl
outs_append ss (x ∷ xs) ys = ap (λ (bs : List Bool). first (path ss) x ∷ bs) (outs_append (shift ss x) xs ys)

pub length_outs : (ss : List Site) (bs : List Bool) → length (outs ss bs) ≡ length bs
length_outs ss [] = refl
length_outs ss (b ∷ bs) = ap suc (length_outs (shift ss b) bs)

pub sift_append : (ms ns bs cs : List Bool) → length ms ≡ length bs → sift (ms ++ ns) (bs ++ cs) ≡ sift ms bs ++ sift ns cs
sift_append [] ns [] cs e = refl
sift_append [] ns (b ∷ bs) cs e = absurd (omega (arith, e))
sift_append (m ∷ ms) ns [] cs e = absurd (omega (arith, e))
sift_append (true ∷ ms) ns (b ∷ bs) cs e = ap (λ (xs : List Bool). b ∷ xs) (sift_append ms ns bs cs (omega (arith, e)))
sift_append (false ∷ ms) ns (b ∷ bs) cs e = sift_append ms ns bs cs (omega (arith, e))

-- a mask of one kind keeps all or nothing
pub sift_replicate : (k : Bool) (n : ℕ) (bs : List Bool) → length bs ≡ n → sift (replicate n k) bs ≡ cond k bs []
sift_replicate true zero [] e = refl
sift_replicate false zero [] e = refl
sift_replicate k zero (b ∷ bs) e = absurd (omega (arith, e))
sift_replicate k (suc n) [] e = absurd (omega (arith, e))
sift_replicate true (suc n) (b ∷ bs) e = ap (λ (xs : List Bool). b ∷ xs) (sift_replicate true n bs (omega (arith, e)))
sift_replicate false (suc n) (b ∷ bs) e = sift_replicate false n bs (omega (arith, e))

-- What was kept so far with what the bits ahead bring, one bit on.
pub sift_more : (ss : List Site) (kept : List Bool) (m : Bool) (ms : List Bool) (b : Bool) (bs : List Bool)
    → cond m (kept ++ (first (path ss) b ∷ [])) kept ++ sift ms (outs (shift ss b) bs) ≡ kept ++ sift (m ∷ ms) (outs ss (b ∷ bs))
sift_more ss kept true ms b bs = append_assoc kept (first (path ss) b ∷ []) (sift ms (outs (shift ss b) bs))
sift_more ss kept false ms b bs = refl

-- The same, one SIB's part on: k is its mask and x its bits.
pub sift_part_more : (ss : List Site) (kept : List Bool) (ms : List Bool) (k x : List Bool) (ks xs : List (List Bool)) → length k ≡ length x
    → (kept ++ sift k (outs ss x)) ++ sift (pick ms ks) (outs (feed ss x) (pick ms xs)) ≡ kept ++ sift (pick (true ∷ ms) (k ∷ ks)) (outs ss (pick (true ∷ ms) (x ∷ xs)))
sift_part_more ss kept ms k x ks xs e =
    append_assoc kept (sift k (outs ss x)) (sift (pick ms ks) (outs (feed ss x) (pick ms xs)))
    ∙ ap (λ (bs : List Bool). kept ++ bs)
    (sym (ap (sift (k ++ pick ms ks)) (outs_append ss x (pick ms xs)) ∙ sift_append k (pick ms ks) (outs ss x) (outs (feed ss x) (pick ms xs)) (e ∙ sym (length_outs ss x))))

-- The path from a site on, by what is left of the sites.
use Rattle.std.proofs.Common.{◌≡◌, ℕ, ◌+◌, ◌<◌, Bool, true, false, leb, List, [], ◌∷◌, ◌++◌, map, length, get_or, drop, refl, sym, ap, ◌∙◌}
use Rattle.std.proofs.lemmas.List.{drop_more}
use Rattle.scan.specs.Network.{Flaw, Site, build_of, latch_of}
use Rattle.scan.specs.Path.{marks, on, reach_after, pick, offered, flaws_of}
use Rattle.scan.specs.Moves.{put, fill, spread, each, updated, update}
use Rattle.scan.proofs.Fill.{on_fill}

abbrev pub marks_from : ℕ → List Site → List Bool
marks_from r ms = marks r (map build_of ms) (map latch_of ms)

abbrev pub offered_from : ℕ → List Site → List Bool
offered_from r ms = pick (marks_from r ms) (map offered ms)

abbrev pub flaws_from : ℕ → List Site → List Flaw
flaws_from r ms = pick (marks_from r ms) (map flaws_of ms)

abbrev pub filled_from : ℕ → List Bool → List Site → List Site
filled_from r bs ms = fill (marks_from r ms) ms bs

abbrev pub renewed_from : ℕ → List Bool → List Site → List Site
renewed_from r bs ms = spread (λ s cs. updated (put s cs)) (marks_from r ms) ms bs

-- to put bits and update each site at once is to put them all, and then to update
each_spread : (ms : List Bool) (ss : List Site) (bs : List Bool) → each updated ms (fill ms ss bs) ≡ spread (λ s cs. updated (put s cs)) ms ss bs
each_spread [] ss bs = refl
each_spread (m ∷ ms) [] bs = refl
each_spread (true ∷ ms) (s ∷ ss) bs = ap (λ ts. updated (put s bs) ∷ ts) (each_spread ms ss (drop (length (flaws_of s)) bs))
each_spread (false ∷ ms) (s ∷ ss) bs = ap (λ ts. s ∷ ts) (each_spread ms ss bs)

pub renewed_is_updated : (ss : List Site) (bs : List Bool) → renewed_from 1 bs ss ≡ update (fill (on ss) ss bs)
renewed_is_updated ss bs = sym (ap (λ ms. each updated ms (fill (on ss) ss bs)) (on_fill (on ss) ss bs) ∙ each_spread (on ss) ss bs)

-- the item that a loop reads is the first of those left; ys is the list as the loop has it
pub drop_item : {X : Type 0} (xs ys : List X) (i : ℕ) (x : X) → ys ≡ xs → i < length ys → x ≡ get_or ys i x → drop i xs ≡ x ∷ drop (i + 1) xs
drop_item xs ys i x same h e = rw (← same) (drop_more ys i x h ∙ ap (λ y. y ∷ drop (i + 1) ys) (sym e))

-- a SIB on the path
pub offered_on : (r : ℕ) (m : Site) (ms : List Site) → leb m.build.depth r ≡ true
    → offered_from r (m ∷ ms) ≡ offered m ++ offered_from (reach_after r m.build m.latch) ms
offered_on r m ms e = rw e

pub flaws_on : (r : ℕ) (m : Site) (ms : List Site) → leb m.build.depth r ≡ true
    → flaws_from r (m ∷ ms) ≡ flaws_of m ++ flaws_from (reach_after r m.build m.latch) ms
flaws_on r m ms e = rw e

-- a SIB off the path
pub offered_off : (r : ℕ) (m : Site) (ms : List Site) → leb m.build.depth r ≡ false → offered_from r (m ∷ ms) ≡ offered_from r ms
offered_off r m ms e = rw e

pub flaws_off : (r : ℕ) (m : Site) (ms : List Site) → leb m.build.depth r ≡ false → flaws_from r (m ∷ ms) ≡ flaws_from r ms
flaws_off r m ms e = rw e

-- How long the path is, and that every move keeps rows, held bits and offers as long as their instruments.
use Rattle.std.proofs.Common.{◌≡◌, suc, ◌≤◌, Bool, true, false, cond, List, [], ◌∷◌, map, length, take, drop, refl, ap, ◌∙◌, arith, length-append, length-drop}
use Rattle.std.proofs.lemmas.List.{length-take-le}
use Rattle.scan.specs.Network.{Flaw, Site, shown, live, Fits, Each}
use Rattle.scan.specs.Path.{on, pick, given, flaws_of, offered, path_given, path_flaws, path_offered, path}
use Rattle.scan.specs.Moves.{put, load, each, spread, fill, captured, capture, updated, update, reset, moved, shift, feed, loaded}
use Rattle.scan.proofs.Rows.{length_shown, length_moved}

-- A part of the path that is as long as each site's flaws is as long as the path's flaws.
length_at : (l : Bool) (fs : List Flaw) (xs : List Bool) → length xs ≡ length fs → length (cond l xs []) ≡ length (cond l fs [])
length_at true fs xs e = e
length_at false fs xs e = refl

pub length_pick : (g : Site → List Bool) → ((s : Site) → Fits s → length (g s) ≡ length (flaws_of s))
    → (ms : List Bool) (ss : List Site) → Each Fits ss → length (pick ms (map g ss)) ≡ length (pick ms (map flaws_of ss))
length_pick g h [] ss f = refl
length_pick g h (m ∷ ms) [] f = refl
length_pick g h (true ∷ ms) (s ∷ ss) f =
    let a = length-append (g s) (pick ms (map g ss)) in
    let b = length-append (flaws_of s) (pick ms (map flaws_of ss)) in
    let i = length_pick g h ms ss f.1 in
    let k = h s f.0 in
    omega (arith, a, b, i, k)
length_pick g h (false ∷ ms) (s ∷ ss) f = length_pick g h ms ss f.1

pub length_path_given : (ss : List Site) → Each Fits ss → length (path_given ss) ≡ length (path_flaws ss)
length_path_given ss f = length_pick given (λ s k. ap suc (length_at (live s) s.build.flaws s.row k.row)) (on ss) ss f

pub length_path_offered : (ss : List Site) → Each Fits ss → length (path_offered ss) ≡ length (path_flaws ss)
length_path_offered ss f =
    length_pick offered (λ s k. ap suc (length_at (live s) s.build.flaws (s.build.offer s.held) (k.offer s.held k.held))) (on ss) ss f

pub length_path : (ss : List Site) → Each Fits ss → length (path ss) ≡ length (path_flaws ss)
length_path ss f = length_shown (path_flaws ss) (path_given ss) ∙ length_path_given ss f

-- Bits dealt out to sites, enough for all of them.
pub fits_spread : (f : Site → List Bool → Site) → ((s : Site) (bs : List Bool) → Fits s → length (flaws_of s) ≤ length bs → Fits (f s bs))
    → (ms : List Bool) (ss : List Site) (bs : List Bool) → Each Fits ss → length (pick ms (map flaws_of ss)) ≤ length bs → Each Fits (spread f ms ss bs)
fits_spread f h [] ss bs k e = k
fits_spread f h (m ∷ ms) [] bs k e = tt
fits_spread f h (true ∷ ms) (s ∷ ss) bs k e =
    let a = length-append (flaws_of s) (pick ms (map flaws_of ss)) in
    let d = length-drop (length (flaws_of s)) bs in
    (h s bs k.0 (omega (arith, a)), fits_spread f h ms ss (drop (length (flaws_of s)) bs) k.1 (omega (arith, a, d)))
fits_spread f h (false ∷ ms) (s ∷ ss) bs k e = (k.0, fits_spread f h ms ss bs k.1 e)

row_at : (l : Bool) (fs : List Flaw) (bs rs : List Bool) → length (cond l fs []) ≤ length bs → length rs ≡ length fs → length (cond l (take (length fs) bs) rs) ≡ length fs
row_at true fs bs rs h e = length-take-le (length fs) bs h
row_at false fs bs rs h e = e

fits_put : (s : Site) (bs : List Bool) → Fits s → length (flaws_of s) ≤ length bs → Fits (put s bs)
fits_put s [] f h = absurd (omega (arith, h))
fits_put s (b ∷ bs) f h = record { row = row_at (live s) s.build.flaws bs s.row (omega (arith, h)) f.row; held = f.held; offer = f.offer }

fits_load : (s : Site) (bs : List Bool) → Fits s → length (flaws_of s) ≤ length bs → Fits (load s bs)
fits_load s [] f h = absurd (omega (arith, h))
fits_load s (b ∷ bs) f h = record {
  row = row_at (live s) s.build.flaws bs s.row (omega (arith, h)) f.row;
  held = row_at (live s) s.build.flaws bs s.held (omega (arith, h)) f.held;
  offer = f.offer;
}

pub fits_fill : (ss : List Site) (bs : List Bool) → Each Fits ss → length bs ≡ length (path ss) → Each Fits (fill (on ss) ss bs)
fits_fill ss bs f e = let k = length_path ss f in fits_spread put fits_put (on ss) ss bs f (omega (arith, e, k))

pub fits_loaded : (ss : List Site) (bs : List Bool) → Each Fits ss → length bs ≡ length (path ss) → Each Fits (loaded ss bs)
fits_loaded ss bs f e = let k = length_path ss f in fits_spread load fits_load (on ss) ss bs f (omega (arith, e, k))

pub fits_shift : (ss : List Site) (b : Bool) → Each Fits ss → Each Fits (shift ss b)
fits_shift ss b f = fits_fill ss (moved (path ss) b) f (length_moved (path ss) b)

pub fits_feed : (ss : List Site) (bs : List Bool) → Each Fits ss → Each Fits (feed ss bs)
fits_feed ss [] f = f
fits_feed ss (b ∷ bs) f = fits_feed (shift ss b) bs (fits_shift ss b f)

-- A change of each site by itself.
pub fits_each : (f : Site → Site) → ((s : Site) → Fits s → Fits (f s)) → (ms : List Bool) (ss : List Site) → Each Fits ss → Each Fits (each f ms ss)
fits_each f h [] ss k = k
fits_each f h (m ∷ ms) [] k = tt
fits_each f h (true ∷ ms) (s ∷ ss) k = (h s k.0, fits_each f h ms ss k.1)
fits_each f h (false ∷ ms) (s ∷ ss) k = (k.0, fits_each f h ms ss k.1)

either_at : (l : Bool) (fs : List Flaw) (xs rs : List Bool) → length xs ≡ length fs → length rs ≡ length fs → length (cond l xs rs) ≡ length fs
either_at true fs xs rs a b = a
either_at false fs xs rs a b = b

pub fits_capture : (ss : List Site) → Each Fits ss → Each Fits (capture ss)
fits_capture ss f =
    fits_each captured (λ s k. record {
      row = either_at (live s) s.build.flaws (s.build.offer s.held) s.row (k.offer s.held k.held) k.row;
      held = k.held;
      offer = k.offer;
    }) (on ss) ss f

pub fits_update : (ss : List Site) → Each Fits ss → Each Fits (update ss)
fits_update ss f =
    fits_each updated (λ s k. record {
      row = k.row;
      held = either_at (live s) s.build.flaws (shown s.build.flaws s.row) s.held (length_shown s.build.flaws s.row ∙ k.row) k.held;
      offer = k.offer;
    }) (on ss) ss f

pub fits_reset : (ss : List Site) → Each Fits ss → Each Fits (reset ss)
fits_reset [] f = tt
fits_reset (s ∷ ss) f = (record { row = f.0.row; held = f.0.held; offer = f.0.offer }, fits_reset ss f.1)

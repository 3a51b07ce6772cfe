-- Bits that go onto the path: a fill, what it keeps, and captures and updates in terms of it.
use Rattle.std.proofs.Common.{◌≡◌, ◌<◌, ◌≤◌, Bool, true, false, cond, List, [], ◌∷◌, ◌++◌, map, length, take, drop, sym, refl, ap, ◌∙◌, ap₂, arith, length-append, length-drop}
use Rattle.std.proofs.lemmas.List.{take-append-drop, take_at, drop_at}
use Rattle.scan.specs.Network.{Flaw, sound, Site, build_of, latch_of, shows, shown, live, Fits, Each}
use Rattle.scan.specs.Path.{marks, on, pick, given, flaws_of, offered, path_flaws, path_offered, path}
use Rattle.scan.specs.Moves.{first, put, load, each, spread, fill, captured, capture, updated, closed, reset}
use Rattle.scan.proofs.Rows.{SoundRow, shown_sound, each_left, each_right}

-- What a change of one site keeps, the same change of many keeps.
pub map_spread : {X : Type 0} (g : Site → X) (f : Site → List Bool → Site) → ((s : Site) (bs : List Bool) → g (f s bs) ≡ g s)
    → (ms : List Bool) (ss : List Site) (bs : List Bool) → map g (spread f ms ss bs) ≡ map g ss
map_spread g f h [] ss bs = refl
map_spread g f h (m ∷ ms) [] bs = refl
map_spread g f h (true ∷ ms) (s ∷ ss) bs = ap₂ ◌∷◌ (h s bs) (map_spread g f h ms ss (drop (length (flaws_of s)) bs))
map_spread g f h (false ∷ ms) (s ∷ ss) bs = ap (λ xs. g s ∷ xs) (map_spread g f h ms ss bs)

pub map_each : {X : Type 0} (g : Site → X) (f : Site → Site) → ((s : Site) → g (f s) ≡ g s)
    → (ms : List Bool) (ss : List Site) → map g (each f ms ss) ≡ map g ss
map_each g f h [] ss = refl
map_each g f h (m ∷ ms) [] = refl
map_each g f h (true ∷ ms) (s ∷ ss) = ap₂ ◌∷◌ (h s) (map_each g f h ms ss)
map_each g f h (false ∷ ms) (s ∷ ss) = ap (λ xs. g s ∷ xs) (map_each g f h ms ss)

pub map_reset : {X : Type 0} (g : Site → X) → ((s : Site) → g (closed s) ≡ g s) → (ss : List Site) → map g (reset ss) ≡ map g ss
map_reset g h [] = refl
map_reset g h (s ∷ ss) = ap₂ ◌∷◌ (h s) (map_reset g h ss)

-- A fill keeps the path where it is.
pub on_fill : (ms : List Bool) (ss : List Site) (bs : List Bool) → on (fill ms ss bs) ≡ on ss
on_fill ms ss bs = ap₂ (marks 1) (map_spread build_of put (λ _ _. refl) ms ss bs) (map_spread latch_of put (λ _ _. refl) ms ss bs)

pub path_flaws_fill : (ms : List Bool) (ss : List Site) (bs : List Bool) → path_flaws (fill ms ss bs) ≡ path_flaws ss
path_flaws_fill ms ss bs = ap₂ pick (on_fill ms ss bs) (map_spread flaws_of put (λ _ _. refl) ms ss bs)

-- one site: at an open instrument, and at any other
given_put_at : (l : Bool) (fs : List Flaw) (bs rs : List Bool) → cond l (cond l (take (length fs) bs) rs) [] ≡ take (length (cond l fs [])) bs
given_put_at true fs bs rs = refl
given_put_at false fs bs rs = refl

given_put : (s : Site) (bs : List Bool) → length (flaws_of s) ≤ length bs → given (put s bs) ≡ take (length (flaws_of s)) bs
given_put s [] h = absurd (omega (arith, h))
given_put s (b ∷ bs) h = ap (λ xs. b ∷ xs) (given_put_at (live s) s.build.flaws bs s.row)

pub given_fill : (ms : List Bool) (ss : List Site) (bs : List Bool) → length bs ≡ length (pick ms (map flaws_of ss))
    → pick ms (map given (fill ms ss bs)) ≡ bs
given_fill [] ss [] e = refl
given_fill [] ss (b ∷ bs) e = absurd (omega (arith, e))
given_fill (m ∷ ms) [] [] e = refl
given_fill (m ∷ ms) [] (b ∷ bs) e = absurd (omega (arith, e))
given_fill (true ∷ ms) (s ∷ ss) bs e =
    let k = length-append (flaws_of s) (pick ms (map flaws_of ss)) in
    let d = length-drop (length (flaws_of s)) bs in
    ap₂ ◌++◌ (given_put s bs (omega (arith, e, k))) (given_fill ms ss (drop (length (flaws_of s)) bs) (omega (arith, e, k, d)))
    ∙ take-append-drop (length (flaws_of s)) bs
given_fill (false ∷ ms) (s ∷ ss) bs e = given_fill ms ss bs e

pub path_fill : (ss : List Site) (bs : List Bool) → length bs ≡ length (path_flaws ss)
    → path (fill (on ss) ss bs) ≡ shown (path_flaws ss) bs
path_fill ss bs e =
    ap₂ shown (path_flaws_fill (on ss) ss bs)
    (ap (λ ms. pick ms (map given (fill (on ss) ss bs))) (on_fill (on ss) ss bs) ∙ given_fill (on ss) ss bs e)

-- Of two fills the last counts.
put_put_at : (l : Bool) (xs bs rs : List Bool) → cond l xs (cond l bs rs) ≡ cond l xs rs
put_put_at true xs bs rs = refl
put_put_at false xs bs rs = refl

put_put : (s : Site) (xs bs : List Bool) → 0 < length bs → put (put s xs) bs ≡ put s bs
put_put s xs [] h = absurd (omega (arith, h))
put_put s xs (b ∷ bs) h = λ i. record {
  build = s.build;
  latch = s.latch;
  cell = b;
  row = put_put_at (live s) (take (length s.build.flaws) bs) (take (length s.build.flaws) (drop 1 xs)) s.row i;
  held = s.held;
}

pub fill_fill : (ms : List Bool) (ss : List Site) (xs bs : List Bool) → length bs ≡ length (pick ms (map flaws_of ss))
    → fill ms (fill ms ss xs) bs ≡ fill ms ss bs
fill_fill [] ss xs bs e = refl
fill_fill (m ∷ ms) [] xs bs e = refl
fill_fill (true ∷ ms) (s ∷ ss) xs bs e =
    let n = length (flaws_of s) in
    let k = length-append (flaws_of s) (pick ms (map flaws_of ss)) in
    let d = length-drop n bs in
    ap₂ ◌∷◌ (put_put s xs bs (omega (arith, e, k))) (fill_fill ms ss (drop n xs) (drop n bs) (omega (arith, e, k, d)))
fill_fill (false ∷ ms) (s ∷ ss) xs bs e = ap (λ xs. s ∷ xs) (fill_fill ms ss xs bs e)

-- one site's part of a row of bits, and what follows it
pub part_at : (l : Bool) (fs : List Flaw) (xs ys rs : List Bool) → length xs ≡ length fs → cond l (take (length fs) (cond l xs [] ++ ys)) rs ≡ cond l xs rs
part_at true fs xs ys rs e = take_at xs ys (length fs) e
part_at false fs xs ys rs e = refl

pub after_at : (l : Bool) (fs : List Flaw) (xs ys : List Bool) → length xs ≡ length fs → drop (length (cond l fs [])) (cond l xs [] ++ ys) ≡ ys
after_at true fs xs ys e = drop_at xs ys (length fs) e
after_at false fs xs ys e = refl

same_at : (l : Bool) (rs : List Bool) → cond l rs rs ≡ rs
same_at true rs = refl
same_at false rs = refl

-- A network is a fill of itself with what its cells were last given.
pub fill_given : (ms : List Bool) (ss : List Site) → Each Fits ss → fill ms ss (pick ms (map given ss)) ≡ ss
fill_given [] ss f = refl
fill_given (m ∷ ms) [] f = refl
fill_given (true ∷ ms) (s ∷ ss) f =
    let after = pick ms (map given ss) in
    let fs = s.build.flaws in
    ap₂ ◌∷◌
    (λ i. record {
      build = s.build;
      latch = s.latch;
      cell = s.cell;
      row = (part_at (live s) fs s.row after s.row f.0.row ∙ same_at (live s) s.row) i;
      held = s.held;
    })
    (ap (fill ms ss) (after_at (live s) fs s.row after f.0.row) ∙ fill_given ms ss f.1)
fill_given (false ∷ ms) (s ∷ ss) f = ap (λ xs. s ∷ xs) (fill_given ms ss f.1)

-- A capture is a fill with what the path offers.
each_captured : (ms : List Bool) (ss : List Site) → Each Fits ss → each captured ms ss ≡ fill ms ss (pick ms (map offered ss))
each_captured [] ss f = refl
each_captured (m ∷ ms) [] f = refl
each_captured (true ∷ ms) (s ∷ ss) f =
    let after = pick ms (map offered ss) in
    let fs = s.build.flaws in
    let os = s.build.offer s.held in
    let e = f.0.offer s.held f.0.held in
    ap₂ ◌∷◌
    (λ i. record {
      build = s.build;
      latch = s.latch;
      cell = s.latch;
      row = sym (part_at (live s) fs os after s.row e) i;
      held = s.held;
    })
    (each_captured ms ss f.1 ∙ ap (fill ms ss) (sym (after_at (live s) fs os after e)))
each_captured (false ∷ ms) (s ∷ ss) f = ap (λ xs. s ∷ xs) (each_captured ms ss f.1)

pub capture_is_fill : (ss : List Site) → Each Fits ss → capture ss ≡ fill (on ss) ss (path_offered ss)
capture_is_fill ss f = each_captured (on ss) ss f

-- An update of a fill that no stuck cell is in the way of.
held_at : (l : Bool) (fs : List Flaw) (xs rs hs : List Bool) → SoundRow (cond l fs []) → cond l (shown fs (cond l xs rs)) hs ≡ cond l xs hs
held_at true fs xs rs hs e = shown_sound fs xs e
held_at false fs xs rs hs e = refl

pub update_fill : (ms : List Bool) (ss : List Site) (bs : List Bool) → SoundRow (pick ms (map flaws_of ss))
    → each updated ms (fill ms ss bs) ≡ spread load ms ss bs
update_fill [] ss bs e = refl
update_fill (m ∷ ms) [] bs e = refl
update_fill (true ∷ ms) (s ∷ ss) bs e =
    let here : SoundRow (flaws_of s) = each_left (λ f. f ≡ sound) (flaws_of s) (pick ms (map flaws_of ss)) e in
    let fs = s.build.flaws in
    ap₂ ◌∷◌
    (λ i. record {
      build = s.build;
      latch = shows (here.0 i) (first bs s.cell);
      cell = first bs s.cell;
      row = cond (live s) (take (length fs) (drop 1 bs)) s.row;
      held = held_at (live s) fs (take (length fs) (drop 1 bs)) s.row s.held here.1 i;
    })
    (update_fill ms ss (drop (length (flaws_of s)) bs) (each_right (λ f. f ≡ sound) (flaws_of s) (pick ms (map flaws_of ss)) e))
update_fill (false ∷ ms) (s ∷ ss) bs e = ap (λ xs. s ∷ xs) (update_fill ms ss bs e)

-- A row of cells by itself: what it shows, and what comes out of it bit by bit.
use Rattle.std.proofs.Common.{◌≡◌, suc, Bool, List, [], ◌∷◌, ◌++◌, length, take, drop, sym, refl, ap, ◌∙◌, ap₂, arith}
use Rattle.std.proofs.lemmas.List.{append_assoc, append-nil, length_push, take_at, drop_at}
use Rattle.scan.specs.Network.{Flaw, sound, shows, shown, Each}
use Rattle.scan.specs.Moves.{first, moved}

-- no cell of the row is stuck
abbrev pub SoundRow : List Flaw → Type 0
SoundRow fs = Each (λ f. f ≡ sound) fs

pub each_left : {X : Type 0} (P : X → Type 0) (xs ys : List X) → Each P (xs ++ ys) → Each P xs
each_left P [] ys e = tt
each_left P (x ∷ xs) ys e = (e.0, each_left P xs ys e.1)

pub each_right : {X : Type 0} (P : X → Type 0) (xs ys : List X) → Each P (xs ++ ys) → Each P ys
each_right P [] ys e = e
each_right P (x ∷ xs) ys e = each_right P xs ys e.1

pub length_shown : (fs : List Flaw) (bs : List Bool) → length (shown fs bs) ≡ length bs
length_shown [] bs = refl
length_shown (f ∷ fs) [] = refl
length_shown (f ∷ fs) (b ∷ bs) = ap suc (length_shown fs bs)

pub shown_sound : (fs : List Flaw) (bs : List Bool) → SoundRow fs → shown fs bs ≡ bs
shown_sound [] bs e = refl
shown_sound (f ∷ fs) [] e = refl
shown_sound (f ∷ fs) (b ∷ bs) e = ap₂ ◌∷◌ (ap (λ (g : Flaw). shows g b) e.0) (shown_sound fs bs e.1)

pub length_moved : (bs : List Bool) (b : Bool) → length (moved bs b) ≡ length bs
length_moved [] b = refl
length_moved (x ∷ bs) b = omega (arith, length_push bs b)

pub first_moved : (bs : List Bool) (b : Bool) → first bs b ∷ moved bs b ≡ bs ++ (b ∷ [])
first_moved [] b = refl
first_moved (x ∷ bs) b = refl

-- What comes out of a row that shows xs while bs go in, and what it shows then.
unfoldable pub row_outs : List Flaw → List Bool → List Bool → List Bool
row_outs fs xs [] = []
row_outs fs xs (b ∷ bs) = first xs b ∷ row_outs fs (shown fs (moved xs b)) bs

unfoldable pub row_after : List Flaw → List Bool → List Bool → List Bool
row_after fs xs [] = xs
row_after fs xs (b ∷ bs) = row_after fs (shown fs (moved xs b)) bs

pub length_row_outs : (fs : List Flaw) (xs bs : List Bool) → length (row_outs fs xs bs) ≡ length bs
unfolding row_outs
length_row_outs fs xs [] = refl
length_row_outs fs xs (b ∷ bs) = ap suc (length_row_outs fs (shown fs (moved xs b)) bs)

pub row_queue : (fs : List Flaw) (xs bs : List Bool) → SoundRow fs → row_outs fs xs bs ++ row_after fs xs bs ≡ xs ++ bs
unfolding row_outs row_after
row_queue fs xs [] e = sym (append-nil xs)
row_queue fs xs (b ∷ bs) e =
    ap (λ (t : List Bool). first xs b ∷ t) (row_queue fs (shown fs (moved xs b)) bs e)
    ∙ ap (λ (t : List Bool). first xs b ∷ (t ++ bs)) (shown_sound fs (moved xs b) e)
    ∙ ap (λ (t : List Bool). t ++ bs) (first_moved xs b)
    ∙ append_assoc xs (b ∷ []) bs

-- As many bits as there are cells: what was in comes out, and what goes in is there.
pub row_exchange : (fs : List Flaw) (xs bs : List Bool) → SoundRow fs → length bs ≡ length xs
    → (row_outs fs xs bs ≡ xs) × (row_after fs xs bs ≡ bs)
row_exchange fs xs bs f e =
    let q = row_queue fs xs bs f in
    let n = length xs in
    let k : length (row_outs fs xs bs) ≡ n = length_row_outs fs xs bs ∙ e in (
      sym (take_at (row_outs fs xs bs) (row_after fs xs bs) n k) ∙ ap (take n) q ∙ take_at xs bs n refl,
      sym (drop_at (row_outs fs xs bs) (row_after fs xs bs) n k) ∙ ap (drop n) q ∙ drop_at xs bs n refl,
    )

-- Fronts of one class of bytes, and words.
use Rattle.std.proofs.Common.{◌≡◌, ℕ, ◌+◌, Bool, List, [], ◌∷◌, ◌++◌, length, take, drop, IfSome, Some, None, sym, refl, ap, ◌∙◌, one-add, take_while}
use Rattle.std.proofs.Math.Seq.{take-append_seam, drop-append_seam}
use Rattle.std.proofs.lemmas.Bool.{cond_both}
use Rattle.std.proofs.lemmas.List.{take-append-drop}
use Rattle.std.proofs.lemmas.List.Sums.{take_while-cons}
use Rattle.std.proofs.lemmas.Slice.Eq.{bytes_eq-Decides}
use Rattle.std.specs.List.{prefix_len}
use Rattle.std.specs.Str.{bytes_eq}
use Rattle.pdl.specs.Text.{AllOf, Stops}
use Rattle.pdl.specs.Parse.{behind, past}

pub front_behind : (p : ℕ → Bool) (bs : List ℕ) → bs ≡ take_while p bs ++ behind p bs
front_behind p bs = sym (take-append-drop (prefix_len p bs) bs)

pub front_all : (p : ℕ → Bool) (bs : List ℕ) → AllOf p (take_while p bs)
front_all p [] = tt
front_all p (b ∷ bs) =
    rw take_while-cons (cond_both (p b) (b ∷ take_while p bs) [] (AllOf p) (λ e. (e, front_all p bs)) (λ _. tt))

-- a text is the front and what is behind it
pub cut_at : (p : ℕ → Bool) (bs rest : List ℕ) → rest ≡ behind p bs → (before : List ℕ) × AllOf p before × (bs ≡ before ++ rest)
cut_at p bs rest e = (take_while p bs, front_all p bs, front_behind p bs ∙ ap (λ l. take_while p bs ++ l) (sym e))

pub behind_stops : (p : ℕ → Bool) (bs : List ℕ) → Stops p (behind p bs)
behind_stops p [] = tt
behind_stops p (b ∷ bs) =
    cond_both (p b) (1 + prefix_len p bs) 0 (λ n. Stops p (drop n (b ∷ bs))) (λ _. rw one-add (behind_stops p bs)) (λ e. e)

-- all of a front, and no more
prefix_whole : (p : ℕ → Bool) (bs rest : List ℕ) → AllOf p bs → Stops p rest → prefix_len p (bs ++ rest) ≡ length bs
prefix_whole p [] [] h s = refl
prefix_whole p [] (b ∷ rest) h s = rw s refl
prefix_whole p (b ∷ bs) rest h s = let e = h.0 in rw (e, prefix_whole p bs rest h.1 s) (one-add (length bs))

pub front_whole : (p : ℕ → Bool) (bs rest : List ℕ) → AllOf p bs → Stops p rest → take_while p (bs ++ rest) ≡ bs
front_whole p bs rest h s = rw (prefix_whole p bs rest h s) (take-append_seam bs rest)

pub behind_whole : (p : ℕ → Bool) (bs rest : List ℕ) → AllOf p bs → Stops p rest → behind p (bs ++ rest) ≡ rest
behind_whole p bs rest h s = rw (prefix_whole p bs rest h s) (drop-append_seam bs rest)

pub past_found : (word bs : List ℕ) → IfSome (past word bs) (λ rest. bs ≡ word ++ rest)
past_found word bs =
    cond_both (bytes_eq (take (length word) bs) word) (Some (drop (length word) bs)) None (λ o. IfSome o (λ rest. bs ≡ word ++ rest))
    (λ e. let same = (bytes_eq-Decides (take (length word) bs) word).0 e in sym (take-append-drop (length word) bs) ∙ ap (λ l. l ++ drop (length word) bs) same)
    (λ _. tt)

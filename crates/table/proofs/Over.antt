-- A loop that writes f x over each element x of a list.
use Rattle.std.proofs.Common.{◌≡◌, ℕ, ◌+◌, ◌<◌, ◌≤◌, List, ◌++◌, map, length, get_or, take, drop, set, arith}
use Rattle.std.proofs.lemmas.List.{append-nil, take_all, drop_all, get_or_default}
use Rattle.std.proofs.lemmas.List.Edits.{map_over_more}

pub over_more : {X : Type 0} (f : X → X) (xs ys : List X) (i : ℕ) (y d : X) → i < length xs → length ys ≡ length xs
    → ys ≡ map f (take i xs) ++ drop i xs → y ≡ f (get_or ys i d)
    → set ys i y ≡ map f (take (i + 1) xs) ++ drop (i + 1) xs
over_more f xs ys i y d h k inv e = rw e (map_over_more f xs ys i (get_or ys i d) h inv (get_or_default ys i d (get_or ys i d) (omega arith)))

pub over_all : {X : Type 0} (f : X → X) (xs ys : List X) (i : ℕ) → length xs ≤ i → ys ≡ map f (take i xs) ++ drop i xs → ys ≡ map f xs
over_all f xs ys i h inv = rw (inv, take_all i xs h, drop_all i xs h) (append-nil (map f xs))

-- The same language read from the left, as a function of the bytes alone.
use Rattle.std.specs.Prelude.{ℕ, Bool, List, [], ◌∷◌, length, take, drop, take_while, Some, None, Ok, codes, Option, Result, option_map, option_and_then, ok_or, if◌then◌else◌, ◌==◌}
use Rattle.std.specs.Borrow.{Bor}
use Rattle.std.specs.List.{prefix_len}
use Rattle.std.specs.Option.{option_or}
use Rattle.std.specs.Result.{result_map_both}
use Rattle.std.specs.Str.{bytes_eq}
use Rattle.refusal.specs.declared.Refusal.{Refusal}
use Rattle.refusal.specs.declared.Refusal.TheVariants.{NotStatement}
use Rattle.pdl.specs.declared.Class.{Class}
use Rattle.pdl.specs.declared.Class.TheVariants.{Blank, Digit, Bit}
use Rattle.pdl.specs.declared.Next.{Next}
use Rattle.pdl.specs.Text.{blank, digit, bit, Spoken, write, get, apply, spoken}

-- the test that a class of bytes stands for
abbrev pub member : Class → ℕ → Bool
member Blank b = blank b
member Digit b = digit b
member Bit b = bit b

-- what is behind the longest front whose bytes pass a test; that front is `take_while`
abbrev pub behind : (ℕ → Bool) → List ℕ → List ℕ
behind p bs = drop (prefix_len p bs) bs

abbrev pub unblanked : List ℕ → List ℕ
unblanked bs = behind blank bs

-- the rest after a word
abbrev pub past : List ℕ → List ℕ → Option (List ℕ)
past word bs = if bytes_eq (take (length word) bs) word then Some (drop (length word) bs) else None

-- one byte or more that pass, and the rest
abbrev pub run : (ℕ → Bool) → List ℕ → Option (List ℕ × List ℕ)
run p [] = None
run p (b ∷ bs) = if p b then Some (take_while p (b ∷ bs), behind p (b ∷ bs)) else None

-- a number, and the rest
abbrev pub numbered : List ℕ → Option (List ℕ × List ℕ)
numbered [] = None
numbered (b ∷ bs) = if b == 48 then None else run digit (b ∷ bs)

-- the rest after a gap and a word
abbrev pub after_gap : List ℕ → List ℕ → Option (List ℕ)
after_gap word bs = option_and_then (λ gap. past word gap.1) (run blank bs)

abbrev pub number_after : List ℕ → Option (List ℕ × List ℕ)
number_after bs = option_and_then numbered (after_gap (codes "i") bs)

abbrev pub digits_after : List ℕ → Option (List ℕ × List ℕ)
digits_after bs = option_and_then (run bit) (after_gap (codes "0b") bs)

-- what a statement says, and the rest after its `;`
abbrev pub closed : Spoken → List ℕ → Option (Spoken × List ℕ)
closed s bs = option_map (λ rest. (s, rest)) (past (codes ";") bs)

abbrev pub get_after : List ℕ → Option (Spoken × List ℕ)
get_after bs = option_and_then (λ n. closed (get n.0) n.1) (number_after bs)

abbrev pub write_after : List ℕ → Option (Spoken × List ℕ)
write_after bs = option_and_then (λ n. option_and_then (λ ds. closed (write n.0 ds.0) ds.1) (digits_after n.1)) (number_after bs)

-- each statement, from its first word on
abbrev pub write_at : List ℕ → Option (Spoken × List ℕ)
write_at bs = option_and_then write_after (past (codes "iWrite") bs)

abbrev pub get_at : List ℕ → Option (Spoken × List ℕ)
get_at bs = option_and_then get_after (past (codes "iGet") bs)

abbrev pub apply_at : List ℕ → Option (Spoken × List ℕ)
apply_at bs = option_map (λ rest. (apply, rest)) (past (codes "iApply;") bs)

abbrev pub stated : List ℕ → Option (Spoken × List ℕ)
stated bs = option_or (option_or (write_at bs) (get_at bs)) (apply_at bs)

-- the next thing in a text: its end, a statement with the rest after it, or nothing that is a statement
abbrev pub begun : List ℕ → Result (Option (Spoken × List ℕ)) Refusal
begun [] = Ok None
begun (b ∷ bs) = ok_or (option_map Some (stated (b ∷ bs))) NotStatement

abbrev pub reading : List ℕ → Result (Option (Spoken × List ℕ)) Refusal
reading text = begun (unblanked text)

-- two parts of a text, by their bytes
abbrev pub parts : Bor (List ℕ) × Bor (List ℕ) → List ℕ × List ℕ
parts p = (p.0.now, p.1.now)

-- what the code answers, by its bytes
abbrev pub told : Next → Spoken × List ℕ
told n = (spoken n.statement, n.rest.now)

abbrev pub heard : Result (Option Next) Refusal → Result (Option (Spoken × List ℕ)) Refusal
heard r = result_map_both (option_map told) (λ e. e) r

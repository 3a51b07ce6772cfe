-- The language: which bytes spell a statement, and what an answer says of the text that it was given.
use Rattle.std.specs.Prelude.{◌≡◌, ℕ, ◌+◌, ◌-◌, ◌*◌, ◌<◌, Bool, true, false, ◌&&◌, ◌||◌, List, [], ◌∷◌, ◌++◌, length, Some, None, Ok, Err, codes, Option, Result, ◌==◌, ◌≢◌, nat_le, fold}
use Rattle.std.specs.List.{AllByRecursion}
use Rattle.refusal.specs.declared.Refusal.{Refusal}
use Rattle.refusal.specs.declared.Refusal.TheVariants.{NotStatement}
use Rattle.pdl.specs.declared.Next.{Next}
use Rattle.pdl.specs.declared.Statement.{Statement}
use Rattle.pdl.specs.declared.Statement.TheVariants.{Write, Get, Apply}

-- space and newline
abbrev pub blank : ℕ → Bool
blank b = b == 32 || b == 10

-- 0 to 9
abbrev pub digit : ℕ → Bool
digit b = nat_le 48 b && nat_le b 57

-- 0 and 1
abbrev pub bit : ℕ → Bool
bit b = b == 48 || b == 49

abbrev pub AllOf : (ℕ → Bool) → List ℕ → Type 0
AllOf p bs = AllByRecursion (λ b. p b ≡ true) bs

-- one or more
abbrev pub SomeOf : (ℕ → Bool) → List ℕ → Type 0
SomeOf p [] = ⊥
SomeOf p (b ∷ bs) = AllOf p (b ∷ bs)

-- none, or the first byte does not pass
abbrev pub Stops : (ℕ → Bool) → List ℕ → Type 0
Stops p [] = Unit {0}
Stops p (b ∷ bs) = p b ≡ false

abbrev pub Blanks : List ℕ → Type 0
Blanks bs = AllOf blank bs

abbrev pub Gap : List ℕ → Type 0
Gap bs = SomeOf blank bs

abbrev pub Bits : List ℕ → Type 0
Bits bs = SomeOf bit bs

-- the digits of a number that is named in a text: the first is not 0
abbrev pub Number : List ℕ → Type 0
Number [] = ⊥
Number (b ∷ bs) = (b ≢ 48) × AllOf digit (b ∷ bs)

-- what a statement says, by its bytes
pub data Spoken : Type 0 where
  write : List ℕ → List ℕ → Spoken
  get : List ℕ → Spoken
  apply : Spoken

abbrev pub spoken : Statement → Spoken
spoken (Write n ds) = write n.now ds.now
spoken (Get n) = get n.now
spoken Apply = apply

-- the bytes that spell a statement, with any gaps between its words
abbrev pub Spells : Spoken → List ℕ → Type 0
Spells (write n ds) said =
    (gap : List ℕ) × (gap' : List ℕ) × Gap gap × Gap gap' × Number n × Bits ds
    × (said ≡ codes "iWrite" ++ gap ++ codes "i" ++ n ++ gap' ++ codes "0b" ++ ds ++ codes ";")
Spells (get n) said = (gap : List ℕ) × Gap gap × Number n × (said ≡ codes "iGet" ++ gap ++ codes "i" ++ n ++ codes ";")
Spells apply said = said ≡ codes "iApply;"

-- blanks, then a statement, then the rest
abbrev pub Says : List ℕ → Spoken → List ℕ → Type 0
Says text s rest = (before : List ℕ) × (said : List ℕ) × Blanks before × Spells s said × (text ≡ before ++ said ++ rest)

-- more than blanks, and no statement first
abbrev pub Unsaid : List ℕ → Type 0
Unsaid text = (Blanks text → ⊥) × ((s : Spoken) (rest : List ℕ) → Says text s rest → ⊥)

-- what `next_statement` answers of a text
abbrev pub Gives : List ℕ → Result (Option Next) Refusal → Type 0
Gives text (Ok None) = Blanks text
Gives text (Ok (Some n)) = Says text (spoken n.statement) n.rest.now
Gives text (Err e) = (e ≡ NotStatement) × Unsaid text

-- a statement takes something of the text
abbrev pub Shorter : List ℕ → Result (Option Next) Refusal → Type 0
Shorter text (Ok None) = Unit {0}
Shorter text (Ok (Some n)) = length n.rest.now < length text
Shorter text (Err e) = Unit {0}

-- the number that decimal digits write, read on from the number before them
abbrev pub decimal_after : ℕ → List ℕ → ℕ
decimal_after n ds = fold (λ m d. m * 10 + (d - 48)) n ds

abbrev pub decimal : List ℕ → ℕ
decimal ds = decimal_after 0 ds

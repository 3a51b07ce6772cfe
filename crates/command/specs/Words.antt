-- The format of commands. A word is two bytes, the high one first:
--   0 w number     control: choose the instrument, to be written (w is 1) or read; number has 14 bits and is not 0
--   0 0 0          test
--   0 1 0          localise
--   1 n            data: n bytes follow; n has 15 bits
use Rattle.std.specs.Prelude.{◌≡◌, ℕ, ◌+◌, ◌-◌, ◌*◌, ◌/◌, ◌%◌, ◌<◌, ◌≤◌, Bool, true, false, cond, ◌&&◌, List, [], ◌∷◌, length, take, drop, Some, None, Ok, Err, Option, Result, nat_le, slice_index}
use Rattle.refusal.specs.declared.Refusal.{Refusal}
use Rattle.refusal.specs.declared.Refusal.TheVariants.{CutShort}
use Rattle.command.specs.declared.Command.{Command}
use Rattle.command.specs.declared.Command.TheVariants.{Control, Test, Localise, Data}
use Rattle.command.specs.declared.Next.{Next}

-- the word of the first two bytes
abbrev pub word_of : List ℕ → ℕ
word_of bs = slice_index bs 0 * 256 + slice_index bs 1

abbrev pub control_word : ℕ → Bool → ℕ
control_word number write = cond write (16384 + number) number

abbrev pub data_word : ℕ → ℕ
data_word n = 32768 + n

-- a number that a control word can hold
abbrev pub fits_control : ℕ → Bool
fits_control number = nat_le 1 number && nat_le number 16383

-- how many bytes follow a word
abbrev pub following : ℕ → ℕ
following w = w - 32768

-- The word begins this command and leaves these bytes of those after it.
abbrev pub Reads : ℕ → List ℕ → Command → List ℕ → Type 0
Reads w after (Control number write) rest = (w ≡ control_word number write) × (fits_control number ≡ true) × (rest ≡ after)
Reads w after Test rest = (w ≡ control_word 0 false) × (rest ≡ after)
Reads w after Localise rest = (w ≡ control_word 0 true) × (rest ≡ after)
Reads w after (Data d) rest =
    (w ≡ data_word (length d.now)) × (d.now ≡ take (following w) after) × (rest ≡ drop (following w) after)

-- The input ends inside its first command.
abbrev pub EndsInside : List ℕ → Type 0
EndsInside bs = (1 ≤ length bs) × (length bs < 2 + following (word_of bs))

abbrev pub Given : List ℕ → Option Next → Type 0
Given bs None = length bs ≡ 0
Given bs (Some n) = (2 + following (word_of bs) ≤ length bs) × Reads (word_of bs) (drop 2 bs) n.command n.rest.now

-- What the reader answers of an input: the next command with the rest, an absence, or a refusal.
abbrev pub Gives : List ℕ → Result (Option Next) Refusal → Type 0
Gives bs (Ok o) = Given bs o
Gives bs (Err e) = (e ≡ CutShort) × EndsInside bs

-- A word as two bytes.
abbrev pub bytes_of : ℕ → List ℕ
bytes_of w = w / 256 ∷ w % 256 ∷ []

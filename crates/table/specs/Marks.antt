-- The three marks of a record, and what changes them.
use Rattle.std.specs.Prelude.{◌≡◌, ℕ, ◌-◌, Bool, true, false, not, ◌&&◌, List, [], ◌∷◌, length, Some, None, Option, nat_le, slice_index_or, slice_set}
use Rattle.std.specs.Borrow.{Bor}
use Rattle.refusal.specs.declared.Refusal.{Refusal}
use Rattle.refusal.specs.declared.Refusal.TheVariants.{NoInstrument, AlreadyChosen}
use Rattle.refusal.specs.Checks.{unless}
use Rattle.table.specs.declared.Record.{Record}
use Rattle.table.specs.Rules.{blank, is_doorway}

-- the record of number n
abbrev pub numbered : List Record → ℕ → Record
numbered rs n = slice_index_or rs (n - 1) blank

abbrev pub names_sib : List Record → ℕ → Bool
names_sib rs n = nat_le 1 n && nat_le n (length rs)

abbrev pub names_instrument : List Record → ℕ → Bool
names_instrument rs n = names_sib rs n && not (is_doorway (numbered rs n).kind)

-- the answers of the two look-ups
abbrev pub FindsSib : List Record → ℕ → Option (Bor Record) → Type 0
FindsSib rs n None = names_sib rs n ≡ false
FindsSib rs n (Some r) = (names_sib rs n ≡ true) × (r.now ≡ numbered rs n)

abbrev pub FindsInstrument : List Record → ℕ → Option (Bor Record) → Type 0
FindsInstrument rs n None = names_instrument rs n ≡ false
FindsInstrument rs n (Some r) = (names_instrument rs n ≡ true) × (r.now ≡ numbered rs n)

-- A table just attached: no mark is left.
abbrev pub unmarked : Record → Record
unmarked r = record { kind = r.kind; depth = r.depth; length = r.length; chosen = false; write = false; excluded = false }

-- A choice that is emptied: the exclusions stay.
abbrev pub unchosen : Record → Record
unchosen r = record { kind = r.kind; depth = r.depth; length = r.length; chosen = false; write = false; excluded = r.excluded }

abbrev pub chosen_for : Bool → Record → Record
chosen_for w r = record { kind = r.kind; depth = r.depth; length = r.length; chosen = true; write = w; excluded = r.excluded }

-- the table with number n chosen, to be written or read
abbrev pub choosing : List Record → ℕ → Bool → List Record
choosing rs n w = slice_set rs (n - 1) (chosen_for w (numbered rs n))

-- why number n cannot be chosen
abbrev pub choice_checks : List Record → ℕ → List (Option Refusal)
choice_checks rs n = unless (names_instrument rs n) NoInstrument ∷ unless (not (numbered rs n).chosen) AlreadyChosen ∷ []

-- Whether an instrument counts as excluded.
abbrev pub is_excluded : List Record → ℕ → Bool
is_excluded rs n = names_sib rs n && (numbered rs n).excluded

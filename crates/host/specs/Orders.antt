-- What a group answers to an order. Checks run in this order, and the first that fails answers.
use Rattle.std.specs.Prelude.{◌≡◌, ℕ, Bool, not, List, [], ◌∷◌, ◌++◌, Some, None, Ok, Err, length, take, drop, Option, Result, ◌==◌}
use Rattle.std.specs.List.{list_any}
use Rattle.std.specs.Option.{option_map}
use Rattle.refusal.specs.declared.Refusal.{Refusal}
use Rattle.refusal.specs.declared.Refusal.TheVariants.{Table, NoInstrument, AlreadyChosen, DigitCount}
use Rattle.refusal.specs.Checks.{unless}
use Rattle.table.specs.declared.Record.{Record}
use Rattle.table.specs.Rules.{table_fault}
use Rattle.table.specs.Marks.{numbered, names_instrument}
use Rattle.host.specs.declared.group.Order.{Order}
use Rattle.host.specs.declared.group.Action.{Action}
use Rattle.host.specs.declared.group.Action.TheVariants.{Read, Write}
use Rattle.host.specs.declared.fault.HostFault.{HostFault}
use Rattle.host.specs.declared.fault.HostFault.TheVariants.{Refused, Memory}

-- an order of the group names the number
abbrev pub ordered : List Order → ℕ → Bool
ordered os n = list_any (λ o. o.number == n) os

abbrev pub order_checks : List Record → List Order → ℕ → List (Option Refusal)
order_checks rs os n = option_map Table (table_fault rs) ∷ unless (names_instrument rs n) NoInstrument ∷ unless (not (ordered os n)) AlreadyChosen ∷ []

-- the digits are as many as the instrument has bits
abbrev pub digit_check : List Record → ℕ → ℕ → Option Refusal
digit_check rs n digits = unless (digits == (numbered rs n).length) DigitCount

-- The answer is the first check that fails; want of memory comes only where none does.
abbrev pub Answers : {X : Type 0} → Option Refusal → Result X HostFault → Type 0
Answers o (Ok x) = o ≡ None
Answers o (Err (Refused e)) = o ≡ Some e
Answers o (Err (Memory a)) = o ≡ None

-- What an order does. A write names the place among the group's bits at which its own begin.
abbrev pub IsRead : Action → Type 0
IsRead Read = Unit {0}
IsRead (Write v) = ⊥

abbrev pub IsWrite : List Bool → List Bool → Action → Type 0
IsWrite held bits Read = ⊥
IsWrite held bits (Write first) = take (length bits) (drop first held) ≡ bits

-- One order more at the end: its number, its instrument's length, and what it does.
abbrev pub Takes : List Order → ℕ → ℕ → (Action → Type 0) → List Order → Type 0
Takes old n len Does new = (o : Order) × (new ≡ old ++ o ∷ []) × (o.number ≡ n) × (o.length ≡ len) × Does o.action

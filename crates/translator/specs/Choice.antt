-- The calls that only change the choice. Checks run in this order, and the first that fails answers.
use Rattle.std.specs.Prelude.{ℕ, List, ◌∷◌, Option}
use Rattle.std.specs.Option.{option_map}
use Rattle.refusal.specs.declared.Refusal.{Refusal}
use Rattle.refusal.specs.declared.Refusal.TheVariants.{Table}
use Rattle.refusal.specs.Checks.{first_failing}
use Rattle.table.specs.declared.Record.{Record}
use Rattle.table.specs.Rules.{table_fault}
use Rattle.table.specs.Marks.{choice_checks}

abbrev pub table_check : List Record → Option Refusal
table_check rs = option_map Table (table_fault rs)

abbrev pub control_refusal : List Record → ℕ → Option Refusal
control_refusal rs n = first_failing (table_check rs ∷ choice_checks rs n)

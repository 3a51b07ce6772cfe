-- What the marks of a table and the bytes of a data command order of each instrument.
use Rattle.std.specs.Prelude.{ℕ, zero, suc, ◌+◌, Bool, false, cond, List, [], ◌∷◌, length, slice_index_or}
use Rattle.table.specs.declared.Record.{Record}
use Rattle.table.specs.Marks.{numbered}
use Rattle.retarget.specs.Strings.{Order, none, read, write}
use Rattle.plan.specs.declared.wanted.Wanted.{Wanted}
use Rattle.plan.specs.Order.{wanted_at}
use Rattle.plan.specs.Plans.{sent_to}

-- n bits of a row from a place on; beyond its end they are 0
abbrev pub bits_from : List Bool → ℕ → ℕ → List Bool
bits_from row at zero = []
bits_from row at (suc n) = slice_index_or row at false ∷ bits_from row (suc at) n

-- A wanted instrument that is marked for a write gets its part of the row of sent bits, which begins at this place; any other is read.
abbrev pub order_at : Wanted → List Record → List Bool → ℕ → ℕ → Order
order_at w rs row at n = cond (wanted_at w rs n) (cond (numbered rs n).write (write (bits_from row at (numbered rs n).length)) read) none

-- From number n down: the bits of each chosen write follow those of the higher numbers, those of an excluded one too.
abbrev pub orders_from : Wanted → List Record → List Bool → ℕ → ℕ → List Order
orders_from w rs row at zero = []
orders_from w rs row at (suc n) = order_at w rs row at (suc n) ∷ orders_from w rs row (at + sent_to rs (suc n)) n

abbrev pub orders : Wanted → List Record → List Bool → List Order
orders w rs row = orders_from w rs row 0 (length rs)

-- What a pass does to the network that a transport means.
use Rattle.std.specs.Prelude.{◌≡◌, ℕ, suc, ◌%◌, ◌^◌, Bool, true, false, List, [], ◌∷◌, length, None, Ok, Err, Result}
use Rattle.refusal.specs.declared.Loss.{Loss}
use Rattle.refusal.specs.declared.ScanFault.{ScanFault}
use Rattle.table.specs.declared.Record.{Record}
use Rattle.table.specs.Rules.{table_fault}
use Rattle.scan.specs.Network.{Network}
use Rattle.scan.specs.Moves.{capture, outs}
use Rattle.retarget.specs.Strings.{Order, string, sieve, sift}
use Rattle.retarget.specs.Runs.{through, resting}
use Rattle.plan.specs.declared.wanted.Plan.{Plan}
use Rattle.plan.specs.Plans.{table_of, plan_shapes}
use Rattle.shifting.specs.Orders.{orders}
use Rattle.shifting.specs.Feeding.{laid, StaysFrom, Loses}

-- The orders, the strings and the sieves of a plan, where `row` has the bits that are sent.
abbrev pub plan_orders : Plan → List Bool → List Order
plan_orders p row = orders p.wanted (table_of p) row

abbrev pub string_of : Plan → List Bool → ℕ → List Bool
string_of p row pass = string p.depth (plan_shapes p (length (table_of p))) (plan_orders p row) pass

abbrev pub sieve_of : Plan → List Bool → ℕ → List Bool
sieve_of p row pass = sieve p.depth (plan_shapes p (length (table_of p))) (plan_orders p row) pass

abbrev pub trues : List Bool → ℕ
trues [] = 0
trues (true ∷ ms) = suc (trues ms)
trues (false ∷ ms) = trues ms

-- A pass captures, shifts its string and updates; the bits that its sieve marks are kept in `body`, one after the other. If one
-- of its calls is lost, what the body has beyond the bits to be kept stays.
abbrev pub PassDoes : (Loss → Type 0) → Network → List Bool → List Bool → List Bool → Result ℕ ScanFault → Network → List Bool → Type 0
PassDoes can n bits mask body (Ok shifted) m after =
    (m ≡ resting n (through n.sites bits)) × (after ≡ laid body 0 (sift mask (outs (capture n.sites) bits))) × (shifted ≡ length bits % 2 ^ 64)
PassDoes can n bits mask body (Err e) m after = Loses can n e m × StaysFrom (trues mask) body after

abbrev pub PassesTest : List Record → Type 0
PassesTest rs = table_fault rs ≡ None

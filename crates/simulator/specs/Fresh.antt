-- A network just made from a table: at rest, with the cable in, every SIB closed and every cell 0.
use Rattle.std.specs.Prelude.{◌≡◌, ℕ, ◌+◌, ◌-◌, ◌<◌, ◌≤◌, Bool, true, false, ◌≢◌, List, [], ◌∷◌, ◌++◌, length, take, drop, replicate, Some, None, Ok, Err, Option, Result, nat_lt, slice_index_or}
use Rattle.table.specs.declared.Record.{Record}
use Rattle.table.specs.Rules.{blank, is_doorway, table_fault}
use Rattle.scan.specs.Network as model
use Rattle.simulator.specs.declared.site.Offer.TheVariants.{Keeps}
use Rattle.simulator.specs.declared.site.Stuck.{Stuck}
use Rattle.simulator.specs.declared.site.Setting.{Setting}
use Rattle.simulator.specs.declared.site.NetworkFault.{NetworkFault}
use Rattle.simulator.specs.declared.site.NetworkFault.TheVariants.{Table, Settings, Held, Outside, Memory}
use Rattle.simulator.specs.declared.network.Simulator.{Simulator}
use Rattle.simulator.specs.Meaning.{offer_of, row_flaws}
use Rattle.simulator.specs.Simulated.{network}

abbrev pub plain : Setting
plain = record { offer = Keeps; fault = None }

-- the SIB of a record, with its setting and the bits that it holds
abbrev pub fresh_site : Record → Setting → List Bool → model.Site
fresh_site r t bits = record {
  build = record {
    doorway = is_doorway r.kind;
    depth = r.depth;
    own = model.sound;
    flaws = row_flaws r.length t.fault;
    offer = offer_of t.offer;
  };
  latch = false;
  cell = false;
  row = replicate r.length false;
  held = bits;
}

-- From number 1 up, each instrument takes its bits from the front; in scan order the highest number comes first.
abbrev pub fresh_sites : List Record → List Setting → List Bool → List model.Site
fresh_sites [] ts bits = []
fresh_sites (r ∷ rs) [] bits = []
fresh_sites (r ∷ rs) (t ∷ ts) bits = fresh_sites rs ts (drop r.length bits) ++ fresh_site r t (take r.length bits) ∷ []

abbrev pub fresh : List Record → List Setting → List Bool → model.Network
fresh rs ts bits = record { sites = fresh_sites rs ts bits; phase = model.rest; lost = 0 }

-- the bits of all instruments
abbrev pub bits_in : List Record → ℕ
bits_in [] = 0
bits_in (r ∷ rs) = r.length + bits_in rs

-- a stuck cell lies in its row
abbrev pub lies_in : Option Stuck → ℕ → Bool
lies_in None n = true
lies_in (Some f) n = nat_lt f.cell n

abbrev pub inside_at : List Record → List Setting → ℕ → Bool
inside_at rs ts i = lies_in (slice_index_or ts i plain).fault (slice_index_or rs i blank).length

-- the stuck cells of the numbers up to n lie in their rows
abbrev pub InsideBelow : List Record → List Setting → ℕ → Type 0
InsideBelow rs ts n = (i : ℕ) → i < n → inside_at rs ts i ≡ true

-- the lowest number whose stuck cell does not
pub record LowestOutside (rs : List Record) (ts : List Setting) (n : ℕ) : Type 0 where
  pub from_one : 1 ≤ n
  pub within : n ≤ length rs
  pub outside : inside_at rs ts (n - 1) ≡ false
  pub lower_inside : InsideBelow rs ts (n - 1)

abbrev pub Refused : List Record → List Setting → List Bool → NetworkFault → Type 0
Refused rs ts bits (Table f) = table_fault rs ≡ Some f
Refused rs ts bits Settings = (table_fault rs ≡ None) × (length ts ≢ length rs)
Refused rs ts bits (Outside n) = (table_fault rs ≡ None) × (length ts ≡ length rs) × LowestOutside rs ts n
Refused rs ts bits Held = (table_fault rs ≡ None) × (length ts ≡ length rs) × InsideBelow rs ts (length rs) × (length bits ≢ bits_in rs)
Refused rs ts bits Memory = Unit {0}

-- what fits together: a table that passes its test, a setting for each record, stuck cells in their rows, and a held bit for each cell
pub record Fitting (rs : List Record) (ts : List Setting) (bits : List Bool) : Type 0 where
  pub table : table_fault rs ≡ None
  pub settings : length ts ≡ length rs
  pub inside : InsideBelow rs ts (length rs)
  pub held : length bits ≡ bits_in rs

-- What is made of a table, one setting for each record, and the bits held; or why nothing is.
abbrev pub Makes : List Record → List Setting → List Bool → Result Simulator NetworkFault → Type 0
Makes rs ts bits (Ok s) = Fitting rs ts bits × (network s ≡ fresh rs ts bits) × (s.cable_out ≡ false)
Makes rs ts bits (Err e) = Refused rs ts bits e

-- The network that a simulator stands for.
use Rattle.std.specs.Prelude.{◌≡◌, ℕ, suc, ◌+◌, Bool, not, List, [], ◌∷◌, map, length, replicate, Some, None, vec_items, vec_capacity, Option, slice_set}
use Rattle.std.specs.VecDeque.{deque_capacity}
use Rattle.table.specs.Rules.{is_doorway}
use Rattle.scan.specs.Network as model
use Rattle.scan.specs.Network.{Flaw, sound, stuck}
use Rattle.scan.specs.Path.{flaws_of, on, path_flaws}
use Rattle.scan.specs.Moves.{fill}
use Rattle.simulator.specs.declared.site.Offer.{Offer}
use Rattle.simulator.specs.declared.site.Offer.TheVariants.{Keeps, Inverts}
use Rattle.simulator.specs.declared.site.Phase.{Phase}
use Rattle.simulator.specs.declared.site.Phase.TheVariants.{Rest, Scan, Broken}
use Rattle.simulator.specs.declared.site.Stuck.{Stuck}
use Rattle.simulator.specs.declared.site.StuckPlace.{StuckPlace}
use Rattle.simulator.specs.declared.site.Site.{Site}
use Rattle.simulator.specs.declared.path.Path.{Path}

-- what an instrument offers of the bits that it holds
abbrev pub offer_of : Offer → List Bool → List Bool
offer_of Keeps bs = bs
offer_of Inverts bs = map not bs

abbrev pub offered_bit : Offer → Bool → Bool
offered_bit Keeps b = b
offered_bit Inverts b = not b

-- the flaws of a row of n cells, of which at most one is stuck
abbrev pub row_flaws : ℕ → Option Stuck → List Flaw
row_flaws n None = replicate n sound
row_flaws n (Some f) = slice_set (replicate n sound) f.cell (stuck f.bit)

abbrev pub meaning : Site → model.Site
meaning s = record {
  build = record {
    doorway = is_doorway s.kind;
    depth = s.depth;
    own = sound;
    flaws = row_flaws (length (vec_items s.row)) s.fault;
    offer = offer_of s.offer;
  };
  latch = s.latch;
  cell = s.cell;
  row = vec_items s.row;
  held = vec_items s.held;
}

abbrev pub meanings : List Site → List model.Site
meanings ss = map meaning ss

-- the cells of all sites, on the path or not
abbrev pub all_cells : List Site → ℕ
all_cells [] = 0
all_cells (s ∷ ss) = suc (length (vec_items s.row)) + all_cells ss

-- as many sites, with as many cells
abbrev pub SameSize : List Site → List Site → Type 0
SameSize ss ts = (length ts ≡ length ss) × (all_cells ts ≡ all_cells ss)

-- a path with room for as many cells
abbrev pub SameRoom : Path → Path → Type 0
SameRoom p q = (deque_capacity q.bits ≡ deque_capacity p.bits) × (vec_capacity q.stuck ≡ vec_capacity p.stuck)

-- the stuck cells of a path whose first cell has the place n
abbrev pub stuck_places : ℕ → List Flaw → List StuckPlace
stuck_places n [] = []
stuck_places n (sound ∷ fs) = stuck_places (suc n) fs
stuck_places n (stuck b ∷ fs) = record { place = n; bit = b } ∷ stuck_places (suc n) fs

-- a stuck cell of the instrument that is on the path, where the SIB's own cell has the place n
abbrev pub stuck_at : ℕ → Site → List StuckPlace
stuck_at n s = stuck_places n (flaws_of (meaning s))

-- the bits of a path after its stuck cells have had their way
abbrev pub forced : List Bool → List StuckPlace → List Bool
forced bs [] = bs
forced bs (p ∷ ps) = forced (slice_set bs p.place p.bit) ps

abbrev pub with_held : model.Site → List Bool → model.Site
with_held s bs = record { build = s.build; latch = s.latch; cell = s.cell; row = s.row; held = bs }

-- an instrument that holds what its cells show
abbrev pub holding : model.Site → model.Site
holding s = with_held s (model.shown s.build.flaws s.row)

abbrev pub phase_of : Phase → model.Phase
phase_of Rest = model.rest
phase_of Scan = model.scan
phase_of Broken = model.broken

-- in scan the cells on the path are those of the simulator's path
abbrev pub sites_now : Phase → List model.Site → List Bool → List model.Site
sites_now Rest ms bits = ms
sites_now Scan ms bits = fill (on ms) ms bits
sites_now Broken ms bits = ms

abbrev pub network_of : List Site → List Bool → Phase → ℕ → model.Network
network_of ss bits phase lost = record { sites = sites_now phase (meanings ss) bits; phase = phase_of phase; lost = lost }

-- in scan there are as many bits as the path has cells, and the list has the path's stuck cells
abbrev pub scan_length : Phase → List Site → ℕ → ℕ
scan_length Rest ss n = n
scan_length Scan ss n = length (path_flaws (meanings ss))
scan_length Broken ss n = n

abbrev pub scan_stuck : Phase → List Site → List StuckPlace → List StuckPlace
scan_stuck Rest ss ps = ps
scan_stuck Scan ss ps = stuck_places 0 (path_flaws (meanings ss))
scan_stuck Broken ss ps = ps

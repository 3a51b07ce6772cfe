-- What is proved of strings and runs. ps are the shapes that the table has, os the orders.
use Rattle.std.specs.Prelude.{◌≡◌, ℕ, suc, ◌<◌, ◌≤◌, Bool, true, List, [], ◌∷◌, map, length}
use Rattle.scan.specs.Network.{sound, Site, Fits, Each, build_of, latch_of, held_of}
use Rattle.scan.specs.Path.{on, path, SoundSibs}
use Rattle.retarget.specs.Shapes.{Shape, shape_of, shapes_of, Formed, on_path, span}
use Rattle.retarget.specs.Wants.{wanted, deepest, opened, needed_down_to, needed_or_wanted}
use Rattle.retarget.specs.Strings.{Order, asks, word, string, path_cells, bit_for}
use Rattle.retarget.specs.Runs.{stage, passes, shifted, path_lengths, run, kept, held_after, offers_read}

-- The walk over shapes is the walk over a network's SIBs, and counts its path.
pub record Walked (ss : List Site) : Type 0 where
  pub marks : on_path 1 (shapes_of ss) (map latch_of ss) ≡ on ss
  pub length : length (path ss) ≡ span 1 (shapes_of ss) (map latch_of ss)

abbrev pub WalkByShapes : Type 0
WalkByShapes = (ss : List Site) → Each Fits ss → Walked ss

-- An order for each SIB, and to a written instrument as many bits as it has cells.
abbrev pub Apt : List Shape → List Order → Type 0
Apt [] [] = Unit {0}
Apt [] (o ∷ os) = ⊥
Apt (p ∷ ps) [] = ⊥
Apt (p ∷ ps) (o ∷ os) = (length (word p o) ≡ p.cells) × Apt ps os

-- Bit j of a pass's string is for cell j of the path as that pass finds it.
abbrev pub StringNamesItsCells : Type 0
StringNamesItsCells =
    (d p : ℕ) (ps : List Shape) (os : List Order) → Apt ps os
    → string d ps os p ≡ map (bit_for d ps os p) (path_cells ps (opened d p ps (map asks os)))

-- After n configuration passes: what is open, and nothing else has changed but cells.
pub record Stands (ss ts : List Site) (ls : List Bool) : Type 0 where
  pub builds : map build_of ts ≡ map build_of ss
  pub latches : map latch_of ts ≡ ls
  pub held : map held_of ts ≡ map held_of ss
  pub fits : Each Fits ts

-- no wanted instrument has a stuck cell
abbrev pub SoundWanted : List Site → List Order → Type 0
SoundWanted [] os = Unit {0}
SoundWanted (s ∷ ss) [] = Unit {0}
SoundWanted (s ∷ ss) (o ∷ os) = (wanted (shape_of s) (asks o) ≡ true → Each (λ f. f ≡ sound) s.build.flaws) × SoundWanted ss os

pub record Configured (d : ℕ) (ss : List Site) (os : List Order) : Type 0 where
  pub midway : (n : ℕ) → n < d → Stands ss (stage (string d (shapes_of ss) os) ss n) (needed_down_to n (shapes_of ss) (map asks os))
  pub done : Stands ss (stage (string d (shapes_of ss) os) ss d) (needed_or_wanted (shapes_of ss) (map asks os))
  pub lengths : (n : ℕ) → n ≤ d → length (string d (shapes_of ss) os (suc n)) ≡ length (path (stage (string d (shapes_of ss) os) ss n))
  pub counted : shifted (string d (shapes_of ss) os) (passes d) ≡ path_lengths (string d (shapes_of ss) os) ss (passes d)

-- From any latches and cells, whatever is faulty in the instruments.
abbrev pub ConfigurationOpensTheWay : Type 0
ConfigurationOpensTheWay =
    (ss : List Site) (os : List Order) → Each Fits ss → SoundSibs ss → Formed 1 (shapes_of ss) → Apt (shapes_of ss) os
    → Configured (deepest (shapes_of ss) (map asks os)) ss os

pub record Served (d : ℕ) (ss : List Site) (os : List Order) : Type 0 where
  pub builds : map build_of (run d (shapes_of ss) os ss) ≡ map build_of ss
  pub held : map held_of (run d (shapes_of ss) os ss) ≡ held_after (shapes_of ss) os (map held_of ss)
  pub kept : kept d (shapes_of ss) os ss ≡ offers_read os ss

-- Where no wanted instrument is faulty: written ones hold their bits, read ones ones, every other what it held; kept is what was offered.
abbrev pub RunWritesAndReads : Type 0
RunWritesAndReads =
    (ss : List Site) (os : List Order) → Each Fits ss → SoundSibs ss → Formed 1 (shapes_of ss) → Apt (shapes_of ss) os → SoundWanted ss os
    → Served (deepest (shapes_of ss) (map asks os)) ss os

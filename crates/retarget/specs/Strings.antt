-- Orders for instruments, the string of each pass, and what is kept of what comes out.
use Rattle.std.specs.Prelude.{ℕ, zero, suc, Bool, true, false, cond, not, ◌&&◌, List, [], ◌∷◌, map, replicate, slice_index_or}
use Rattle.scan.specs.Path.{pick}
use Rattle.retarget.specs.Shapes.{Shape, nowhere, on_path}
use Rattle.retarget.specs.Wants.{wanted, aims, opened}

-- What a run is to do with a SIB's instrument.
pub data Order : Type 0 where
  none : Order
  read : Order
  write : List Bool → Order

abbrev pub asks : Order → Bool
asks none = false
asks read = true
asks (write bs) = true

abbrev pub reads : Order → Bool
reads none = false
reads read = true
reads (write bs) = false

-- What goes into the row of a wanted instrument: ones for a read, the sent bits for a write.
abbrev pub word : Shape → Order → List Bool
word p none = replicate p.cells true
word p read = replicate p.cells true
word p (write bs) = bs

-- What a SIB on the path gets: its own bit and, where it is a wanted instrument that is open, its row's bits behind it.
abbrev pub part : Shape → Bool → Bool → Order → List Bool
part p aim l o = aim ∷ cond (l && wanted p (asks o)) (word p o) []

abbrev pub parts : List Shape → List Bool → List Bool → List Order → List (List Bool)
parts [] gs ls os = []
parts (p ∷ ps) [] ls os = []
parts (p ∷ ps) (g ∷ gs) [] os = []
parts (p ∷ ps) (g ∷ gs) (l ∷ ls) [] = []
parts (p ∷ ps) (g ∷ gs) (l ∷ ls) (o ∷ os) = part p g l o ∷ parts ps gs ls os

-- The string of pass p in a run of depth d.
abbrev pub string : ℕ → List Shape → List Order → ℕ → List Bool
string d ps os p =
    let ws = map asks os in
    let ls = opened d p ps ws in
    pick (on_path 1 ps ls) (parts ps (aims d p ps ws) ls os)

-- Which bits of a pass are kept as they come out: those at the places of the instruments read.
abbrev pub mask : Shape → Bool → Order → List Bool
mask p l o = false ∷ cond (l && wanted p (asks o)) (replicate p.cells (reads o)) []

abbrev pub masks : List Shape → List Bool → List Order → List (List Bool)
masks [] ls os = []
masks (p ∷ ps) [] os = []
masks (p ∷ ps) (l ∷ ls) [] = []
masks (p ∷ ps) (l ∷ ls) (o ∷ os) = mask p l o ∷ masks ps ls os

abbrev pub sieve : ℕ → List Shape → List Order → ℕ → List Bool
sieve d ps os p =
    let ls = opened d p ps (map asks os) in
    pick (on_path 1 ps ls) (masks ps ls os)

abbrev pub sift : List Bool → List Bool → List Bool
sift [] bs = []
sift (m ∷ ms) [] = []
sift (true ∷ ms) (b ∷ bs) = b ∷ sift ms bs
sift (false ∷ ms) (b ∷ bs) = sift ms bs

-- The law of the string: which cell each bit is for. A cell is a SIB's own, or one of its instrument's row, from 0.
pub data Cell : Type 0 where
  own : ℕ → Cell
  row : ℕ → ℕ → Cell

abbrev pub row_cells : ℕ → ℕ → ℕ → List Cell
row_cells i c zero = []
row_cells i c (suc n) = row i c ∷ row_cells i (suc c) n

-- The cells of SIB i, and of all SIBs from place i on, where they are on the path.
abbrev pub sib_path : ℕ → Shape → Bool → List Cell
sib_path i p l = own i ∷ cond (l && not p.doorway) (row_cells i 0 p.cells) []

abbrev pub sib_paths : ℕ → List Shape → List Bool → List (List Cell)
sib_paths i [] ls = []
sib_paths i (p ∷ ps) [] = []
sib_paths i (p ∷ ps) (l ∷ ls) = sib_path i p l ∷ sib_paths (suc i) ps ls

-- the cells of the path, from scan-out on
abbrev pub path_cells : List Shape → List Bool → List Cell
path_cells ps ls = pick (on_path 1 ps ls) (sib_paths 0 ps ls)

-- What each cell gets in pass p.
abbrev pub bit_for : ℕ → List Shape → List Order → ℕ → Cell → Bool
bit_for d ps os p (own i) = slice_index_or (aims d p ps (map asks os)) i false
bit_for d ps os p (row i c) = slice_index_or (word (slice_index_or ps i nowhere) (slice_index_or os i none)) c false

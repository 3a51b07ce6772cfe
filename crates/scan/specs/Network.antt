-- A scan network: SIBs in scan order, SIB N first, each with the instrument or the section that stands behind it.
use Rattle.std.specs.Prelude.{◌≡◌, ℕ, Bool, not, ◌&&◌, List, [], ◌∷◌, length}

-- A cell is sound, or stuck: then it always shows the same bit.
pub data Flaw : Type 0 where
  sound : Flaw
  stuck : Bool → Flaw

-- What never changes of a SIB. An instrument has a row of cells, as many as `flaws`, cell 1 first; a doorway has none.
pub record Build : Type 0 where
  pub doorway : Bool
  pub depth : ℕ
  pub own : Flaw
  pub flaws : List Flaw
  pub offer : List Bool → List Bool

-- A SIB: its latch (true is open), its one cell, and its instrument's cells and held bits. Cells are what they were last given.
pub record Site : Type 0 where
  pub build : Build
  pub latch : Bool
  pub cell : Bool
  pub row : List Bool
  pub held : List Bool

pub data Phase : Type 0 where
  rest : Phase
  scan : Phase
  broken : Phase

-- `lost` counts lost calls, modulo 2^64.
pub record Network : Type 0 where
  pub sites : List Site
  pub phase : Phase
  pub lost : ℕ

abbrev pub build_of : Site → Build
build_of s = s.build

abbrev pub latch_of : Site → Bool
latch_of s = s.latch

abbrev pub held_of : Site → List Bool
held_of s = s.held

-- what a cell shows that was given a bit
abbrev pub shows : Flaw → Bool → Bool
shows sound b = b
shows (stuck v) b = v

abbrev pub shown : List Flaw → List Bool → List Bool
shown [] bs = bs
shown (f ∷ fs) [] = []
shown (f ∷ fs) (b ∷ bs) = shows f b ∷ shown fs bs

-- an open instrument
abbrev pub live : Site → Bool
live s = s.latch && not s.build.doorway

-- Rows, held bits and offers are as long as the instrument; a doorway's are empty.
pub record Fits (s : Site) : Type 0 where
  pub row : length s.row ≡ length s.build.flaws
  pub held : length s.held ≡ length s.build.flaws
  pub offer : (bs : List Bool) → length bs ≡ length s.build.flaws → length (s.build.offer bs) ≡ length s.build.flaws

abbrev pub Each : {X : Type 0} → (X → Type 0) → List X → Type 0
Each P [] = Unit {0}
Each P (x ∷ xs) = P x × Each P xs

-- A SIB as a table has it, and the walk over a list of them in scan order, SIB N first.
use Rattle.std.specs.Prelude.{ℕ, suc, ◌+◌, ◌≤◌, Bool, false, cond, not, ◌&&◌, List, [], ◌∷◌, map, length, nat_le, slice_index_or}
use Rattle.scan.specs.Network.{Site}

-- `cells` is how many cells an instrument has in its row; a doorway has none.
pub record Shape : Type 0 where
  pub doorway : Bool
  pub depth : ℕ
  pub cells : ℕ

abbrev pub shape_of : Site → Shape
shape_of s = record { doorway = s.build.doorway; depth = s.build.depth; cells = length s.build.flaws }

abbrev pub shapes_of : List Site → List Shape
shapes_of ss = map shape_of ss

abbrev pub nowhere : Shape
nowhere = record { doorway = false; depth = 0; cells = 0 }

abbrev pub depth_at : List Shape → ℕ → ℕ
depth_at ps i = (slice_index_or ps i nowhere).depth

-- No first SIB deeper than b; each next at most one deeper than the one before it, and deeper only directly after a doorway.
abbrev pub Formed : ℕ → List Shape → Type 0
Formed b [] = Unit {0}
Formed b (p ∷ ps) = (1 ≤ p.depth) × (p.depth ≤ b) × Formed (cond p.doorway (suc p.depth) p.depth) ps

-- Whether each SIB is on the path where these latches are open, with the depth that is still in reach.
abbrev pub reach_after : ℕ → Shape → Bool → ℕ
reach_after r p l = cond (nat_le p.depth r) (cond (p.doorway && l) (suc p.depth) p.depth) r

abbrev pub on_path : ℕ → List Shape → List Bool → List Bool
on_path r [] ls = []
on_path r (p ∷ ps) [] = []
on_path r (p ∷ ps) (l ∷ ls) = nat_le p.depth r ∷ on_path (reach_after r p l) ps ls

-- How many cells the path has: a SIB's own and, where it is open, its instrument's.
abbrev pub sib_cells : Shape → Bool → ℕ
sib_cells p l = suc (cond (l && not p.doorway) p.cells 0)

abbrev pub span : ℕ → List Shape → List Bool → ℕ
span r [] ls = 0
span r (p ∷ ps) [] = 0
span r (p ∷ ps) (l ∷ ls) = cond (nat_le p.depth r) (sib_cells p l) 0 + span (reach_after r p l) ps ls

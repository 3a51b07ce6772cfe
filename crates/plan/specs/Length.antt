-- How long a section is: as long as its SIBs. A SIB is one cell and, when open, what stands behind it.
use Rattle.std.specs.Prelude.{ℕ, suc, ◌+◌, ◌-◌, Bool, false, cond, not, ◌&&◌, List, [], ◌∷◌, length, take, nat_lt}
use Rattle.retarget.specs.Shapes.{Shape, sib_cells, span}
use Rattle.retarget.specs.Wants.{opened}
use Rattle.plan.specs.declared.wanted.Plan.{Plan}
use Rattle.plan.specs.Order.{down, shape_at}
use Rattle.plan.specs.Plans.{table_of, plan_shapes, plan_wants, open_at}

-- a SIB as a pass finds it
pub record Seen : Type 0 where
  pub shape : Shape
  pub latch : Bool

-- what is deeper and follows it is not on the path
abbrev pub hides : Seen → Bool
hides x = not (x.shape.doorway && x.latch)

-- The cells of these SIBs, where the last one on the path before them was of depth e, and b says whether it hides deeper ones.
abbrev pub section : Bool → ℕ → List Seen → ℕ
section b e [] = 0
section b e (x ∷ xs) =
    cond (b && nat_lt e x.shape.depth) (section b e xs) (sib_cells x.shape x.latch + section (hides x) x.shape.depth xs)

-- how many in front lie deeper than d
abbrev pub run : ℕ → List Seen → ℕ
run d [] = 0
run d (x ∷ xs) = cond (nat_lt d x.shape.depth) (suc (run d xs)) 0

abbrev pub seen_at : Plan → ℕ → ℕ → Seen
seen_at p pass n = record { shape = shape_at (table_of p) n; latch = open_at p pass n }

-- the numbers from top down to the one above bottom
abbrev pub seen : Plan → ℕ → ℕ → ℕ → List Seen
seen p pass top bottom = take (top - bottom) (down (seen_at p pass) top)

-- one SIB, with those behind it, xs
abbrev pub sib : Seen → List Seen → ℕ
sib x xs = sib_cells x.shape x.latch + cond (hides x) 0 (section false 0 xs)

-- the length of the path of a pass
abbrev pub path_span : Plan → ℕ → ℕ
path_span p pass =
    let N = length (table_of p) in
    span 1 (plan_shapes p N) (opened p.depth pass (plan_shapes p N) (plan_wants p N))

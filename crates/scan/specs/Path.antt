-- The active path.
use Rattle.std.specs.Prelude.{◌≡◌, ℕ, suc, ◌<◌, ◌≤◌, Bool, true, false, cond, ◌&&◌, List, [], ◌∷◌, ◌++◌, map, length, get_or, Decides, ◌≢◌, nat_le, slice_index_or}
use Rattle.scan.specs.Network.{Flaw, sound, Build, Site, build_of, latch_of, shown, live, Each}

-- In the subject's words. Places count from 0 in scan order, so place i is number N - i. A SIB stands behind the nearest
-- higher number, which is an earlier place, of one depth less, and behind all that one stands behind; `depth` gives the depth at a place.
pub record DirectlyBehind (depth : ℕ → ℕ) (i j : ℕ) : Type 0 where
  pub before : j < i
  pub one_less : suc (depth j) ≡ depth i
  pub nearest : (m : ℕ) → j < m → m < i → suc (depth m) ≢ depth i

pub data Behind (depth : ℕ → ℕ) : ℕ → ℕ → Type 0 where
  directly : {i j : ℕ} → DirectlyBehind depth i j → Behind depth i j
  through : {i m j : ℕ} → DirectlyBehind depth i m → Behind depth m j → Behind depth i j

-- No first SIB deeper than b; each next at most one deeper than the one before it, and deeper only directly after a doorway.
abbrev pub Formed : ℕ → List Build → Type 0
Formed b [] = Unit {0}
Formed b (p ∷ ps) = (1 ≤ p.depth) × (p.depth ≤ b) × Formed (cond p.doorway (suc p.depth) p.depth) ps

abbrev pub nowhere : Build
nowhere = record { doorway = false; depth = 0; own = sound; flaws = []; offer = λ bs. bs }

abbrev pub depth_at : List Build → ℕ → ℕ
depth_at ps i = (get_or ps i nowhere).depth

-- To compute it, walk from SIB N down with the depth that is still in reach: a SIB no deeper than that is on the path, and then
-- an open doorway has one depth more in reach, any other SIB its own.
abbrev pub reach_after : ℕ → Build → Bool → ℕ
reach_after r p l = cond (nat_le p.depth r) (cond (p.doorway && l) (suc p.depth) p.depth) r

abbrev pub marks : ℕ → List Build → List Bool → List Bool
marks r [] ls = []
marks r (p ∷ ps) [] = []
marks r (p ∷ ps) (l ∷ ls) = nat_le p.depth r ∷ marks (reach_after r p l) ps ls

-- which SIBs are on the path
abbrev pub on : List Site → List Bool
on ss = marks 1 (map build_of ss) (map latch_of ss)

-- The two agree: a SIB is on the path exactly where all doorways that it stands behind are open.
abbrev pub PathTakesOpenDoorways : Type 0
PathTakesOpenDoorways =
    (ss : List Site) (i : ℕ) → Formed 1 (map build_of ss) → i < length ss
    → Decides (slice_index_or (on ss) i false) ((j : ℕ) → Behind (depth_at (map build_of ss)) i j → slice_index_or (map latch_of ss) j false ≡ true)

-- what the marked ones have, one after the other
abbrev pub pick : {X : Type 0} → List Bool → List (List X) → List X
pick [] xs = []
pick (m ∷ ms) [] = []
pick (true ∷ ms) (x ∷ xs) = x ++ pick ms xs
pick (false ∷ ms) (x ∷ xs) = pick ms xs

-- A SIB's part of the path, its own cell and an open instrument's row: the bits last given, the flaws, and what a capture gives.
abbrev pub given : Site → List Bool
given s = s.cell ∷ cond (live s) s.row []

abbrev pub flaws_of : Site → List Flaw
flaws_of s = s.build.own ∷ cond (live s) s.build.flaws []

abbrev pub offered : Site → List Bool
offered s = s.latch ∷ cond (live s) (s.build.offer s.held) []

abbrev pub path_given : List Site → List Bool
path_given ss = pick (on ss) (map given ss)

abbrev pub path_flaws : List Site → List Flaw
path_flaws ss = pick (on ss) (map flaws_of ss)

abbrev pub path_offered : List Site → List Bool
path_offered ss = pick (on ss) (map offered ss)

-- the bits that the path's cells show
abbrev pub path : List Site → List Bool
path ss = shown (path_flaws ss) (path_given ss)

-- no stuck cell is on the path
abbrev pub SoundPath : List Site → Type 0
SoundPath ss = Each (λ f. f ≡ sound) (path_flaws ss)

-- The SIBs' own cells are sound: today's networks, as a premise that can be dropped one day.
abbrev pub SoundSibs : List Site → Type 0
SoundSibs ss = Each (λ s. s.build.own ≡ sound) ss

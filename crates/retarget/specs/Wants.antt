-- What a run wants, and which latches it opens for that. Lists go in scan order; ws says which SIBs are wanted.
use Rattle.std.specs.Prelude.{◌≡◌, ℕ, suc, ◌<◌, max, Bool, true, false, cond, not, ◌&&◌, ◌||◌, List, [], ◌∷◌, length, Decides, nat_le, nat_lt, slice_index_or}
use Rattle.scan.specs.Path.{Behind}
use Rattle.retarget.specs.Shapes.{Shape, Formed, nowhere, depth_at}

-- only an instrument can be wanted
abbrev pub wanted : Shape → Bool → Bool
wanted p w = w && not p.doorway

-- A wanted instrument is among those in front that lie at least c deep.
abbrev pub found : ℕ → List Shape → List Bool → Bool
found c [] ws = false
found c (p ∷ ps) [] = false
found c (p ∷ ps) (w ∷ ws) = nat_le c p.depth && (wanted p w || found c ps ws)

-- A doorway with a wanted instrument behind it: ps and ws are what follows it.
abbrev pub needed : Shape → List Shape → List Bool → Bool
needed p ps ws = p.doorway && found (suc p.depth) ps ws

abbrev pub needs : List Shape → List Bool → List Bool
needs [] ws = []
needs (p ∷ ps) [] = []
needs (p ∷ ps) (w ∷ ws) = needed p ps ws ∷ needs ps ws

-- In the subject's words: needed is exactly what a wanted instrument stands behind.
abbrev pub wanted_at : List Shape → List Bool → ℕ → Bool
wanted_at ps ws m = wanted (slice_index_or ps m nowhere) (slice_index_or ws m false)

abbrev pub NeededLeadsToWanted : Type 0
NeededLeadsToWanted =
    (ps : List Shape) (ws : List Bool) (i : ℕ) → Formed 1 ps → length ws ≡ length ps
    → Decides (slice_index_or (needs ps ws) i false) ((m : ℕ) × (m < length ps) × (wanted_at ps ws m ≡ true) × Behind (depth_at ps) m i)

-- the greatest depth of a wanted instrument, 0 for none
abbrev pub deepest : List Shape → List Bool → ℕ
deepest [] ws = 0
deepest (p ∷ ps) [] = 0
deepest (p ∷ ps) (w ∷ ws) = max (cond (wanted p w) p.depth 0) (deepest ps ws)

-- A run of depth d has the passes 1 to d, which configure, and the data pass d + 1.
-- What pass p aims at: a needed doorway is to be open, a wanted instrument from the pass d on.
abbrev pub aims : ℕ → ℕ → List Shape → List Bool → List Bool
aims d p [] ws = []
aims d p (s ∷ ss) [] = []
aims d p (s ∷ ss) (w ∷ ws) = (needed s ss ws || (wanted s w && nat_le d p)) ∷ aims d p ss ws

-- What is open while pass p shifts: each pass before it opened one depth of needed doorways, the last one the wanted instruments.
abbrev pub opened : ℕ → ℕ → List Shape → List Bool → List Bool
opened d p [] ws = []
opened d p (s ∷ ss) [] = []
opened d p (s ∷ ss) (w ∷ ws) = ((needed s ss ws && nat_lt s.depth p) || (wanted s w && nat_lt d p)) ∷ opened d p ss ws

-- In the subject's words: the needed doorways down to a depth; the needed doorways and the wanted instruments.
abbrev pub needed_down_to : ℕ → List Shape → List Bool → List Bool
needed_down_to k [] ws = []
needed_down_to k (s ∷ ss) [] = []
needed_down_to k (s ∷ ss) (w ∷ ws) = (needed s ss ws && nat_le s.depth k) ∷ needed_down_to k ss ws

abbrev pub needed_or_wanted : List Shape → List Bool → List Bool
needed_or_wanted [] ws = []
needed_or_wanted (s ∷ ss) [] = []
needed_or_wanted (s ∷ ss) (w ∷ ws) = (needed s ss ws || wanted s w) ∷ needed_or_wanted ss ws

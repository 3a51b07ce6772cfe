-- What reset, capture, shift and update do to the sites.
use Rattle.std.specs.Prelude.{Bool, true, false, cond, List, [], ◌∷◌, ◌++◌, map, length, take, drop}
use Rattle.scan.specs.Network.{Site, live, shows, shown}
use Rattle.scan.specs.Path.{on, path, flaws_of}

abbrev pub first : List Bool → Bool → Bool
first [] b = b
first (x ∷ xs) b = x

-- the cells after a shift: each takes what the next one showed, and the last the given bit
abbrev pub moved : List Bool → Bool → List Bool
moved [] b = []
moved (x ∷ xs) b = xs ++ (b ∷ [])

-- a SIB on the path takes its part from the front of a row of bits
abbrev pub put : Site → List Bool → Site
put s bs = record {
  build = s.build;
  latch = s.latch;
  cell = first bs s.cell;
  row = cond (live s) (take (length s.build.flaws) (drop 1 bs)) s.row;
  held = s.held;
}

-- a change of each marked site, and the same with a row of bits dealt out to them
abbrev pub each : (Site → Site) → List Bool → List Site → List Site
each f [] ss = ss
each f (m ∷ ms) [] = []
each f (true ∷ ms) (s ∷ ss) = f s ∷ each f ms ss
each f (false ∷ ms) (s ∷ ss) = s ∷ each f ms ss

abbrev pub spread : (Site → List Bool → Site) → List Bool → List Site → List Bool → List Site
spread f [] ss bs = ss
spread f (m ∷ ms) [] bs = []
spread f (true ∷ ms) (s ∷ ss) bs = f s bs ∷ spread f ms ss (drop (length (flaws_of s)) bs)
spread f (false ∷ ms) (s ∷ ss) bs = s ∷ spread f ms ss bs

abbrev pub fill : List Bool → List Site → List Bool → List Site
fill ms ss bs = spread put ms ss bs

abbrev pub closed : Site → Site
closed s = record { build = s.build; latch = false; cell = s.cell; row = s.row; held = s.held }

abbrev pub reset : List Site → List Site
reset ss = map closed ss

-- A SIB's cell takes its latch, an open instrument's cells what it offers.
abbrev pub captured : Site → Site
captured s = record {
  build = s.build;
  latch = s.latch;
  cell = s.latch;
  row = cond (live s) (s.build.offer s.held) s.row;
  held = s.held;
}

abbrev pub capture : List Site → List Site
capture ss = each captured (on ss) ss

abbrev pub shift : List Site → Bool → List Site
shift ss b = fill (on ss) ss (moved (path ss) b)

-- A latch takes what its SIB's cell shows, an instrument that was open before holds what its cells show.
abbrev pub updated : Site → Site
updated s = record {
  build = s.build;
  latch = shows s.build.own s.cell;
  cell = s.cell;
  row = s.row;
  held = cond (live s) (shown s.build.flaws s.row) s.held;
}

abbrev pub update : List Site → List Site
update ss = each updated (on ss) ss

-- bits shifted in one after the other, and what comes out
abbrev pub feed : List Site → List Bool → List Site
feed ss [] = ss
feed ss (b ∷ bs) = feed (shift ss b) bs

abbrev pub outs : List Site → List Bool → List Bool
outs ss [] = []
outs ss (b ∷ bs) = first (path ss) b ∷ outs (shift ss b) bs

-- A SIB and an open instrument that take their part of a row of bits, cells and all.
abbrev pub load : Site → List Bool → Site
load s bs = record {
  build = s.build;
  latch = first bs s.cell;
  cell = first bs s.cell;
  row = cond (live s) (take (length s.build.flaws) (drop 1 bs)) s.row;
  held = cond (live s) (take (length s.build.flaws) (drop 1 bs)) s.held;
}

abbrev pub loaded : List Site → List Bool → List Site
loaded ss bs = spread load (on ss) ss bs

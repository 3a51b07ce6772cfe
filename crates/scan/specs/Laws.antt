-- What is proved of every network.
use Rattle.std.specs.Prelude.{◌≡◌, ℕ, Bool, false, List, ◌++◌, map, length, slice_index_or}
use Rattle.scan.specs.Network.{Site, Fits, Each, build_of, latch_of, held_of, shown}
use Rattle.scan.specs.Path.{on, path, path_flaws, path_offered, SoundPath}
use Rattle.scan.specs.Moves.{fill, reset, capture, shift, update, feed, outs, loaded}

-- Bits put onto the path are what it shows, but for stuck cells, and nothing else changes.
pub record Filled (ss : List Site) (bs : List Bool) : Type 0 where
  pub shows : path (fill (on ss) ss bs) ≡ shown (path_flaws ss) bs
  pub sound : SoundPath ss → path (fill (on ss) ss bs) ≡ bs
  pub builds : map build_of (fill (on ss) ss bs) ≡ map build_of ss
  pub latches : map latch_of (fill (on ss) ss bs) ≡ map latch_of ss
  pub held : map held_of (fill (on ss) ss bs) ≡ map held_of ss
  pub length : length (path (fill (on ss) ss bs)) ≡ length (path ss)

abbrev pub WhatIsPutIsShown : Type 0
WhatIsPutIsShown = (ss : List Site) (bs : List Bool) → Each Fits ss → length bs ≡ length (path ss) → Filled ss bs

-- A path with no stuck cell is a queue: what came out, followed by what is in it, is what was in it followed by what went in.
abbrev pub SoundPathIsAQueue : Type 0
SoundPathIsAQueue = (ss : List Site) (bs : List Bool) → Each Fits ss → SoundPath ss → outs ss bs ++ path (feed ss bs) ≡ path ss ++ bs

-- A whole pass brings out what was offered, and its bits arrive.
pub record Passed (ss : List Site) (bs : List Bool) : Type 0 where
  pub read : outs (capture ss) bs ≡ path_offered ss
  pub wrote : update (feed (capture ss) bs) ≡ loaded ss bs

abbrev pub PassReadsAndWrites : Type 0
PassReadsAndWrites = (ss : List Site) (bs : List Bool) → Each Fits ss → SoundPath ss → length bs ≡ length (path ss) → Passed ss bs

-- What a call leaves alone. Off the path nothing changes, but that a reset closes every latch.
pub record LeftAlone (ss ts : List Site) : Type 0 where
  pub builds : map build_of ts ≡ map build_of ss
  pub off_path : (i : ℕ) (d : Site) → slice_index_or (on ss) i false ≡ false → slice_index_or ts i d ≡ slice_index_or ss i d

pub record Changes (ss : List Site) (b : Bool) : Type 0 where
  pub captured : LeftAlone ss (capture ss)
  pub captured_latches : map latch_of (capture ss) ≡ map latch_of ss
  pub captured_held : map held_of (capture ss) ≡ map held_of ss
  pub shifted : LeftAlone ss (shift ss b)
  pub shifted_latches : map latch_of (shift ss b) ≡ map latch_of ss
  pub shifted_held : map held_of (shift ss b) ≡ map held_of ss
  pub updated : LeftAlone ss (update ss)
  pub reset_builds : map build_of (reset ss) ≡ map build_of ss
  pub reset_held : map held_of (reset ss) ≡ map held_of ss
  pub reset_closed : (i : ℕ) → slice_index_or (map latch_of (reset ss)) i false ≡ false

abbrev pub CallsChangeOnlyTheirPart : Type 0
CallsChangeOnlyTheirPart = (ss : List Site) (b : Bool) → Changes ss b

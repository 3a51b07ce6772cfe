-- A run: a reset and then passes, each a capture, its string bit by bit, and an update.
use Rattle.std.specs.Prelude.{ℕ, zero, suc, ◌+◌, Bool, cond, not, ◌&&◌, List, [], ◌∷◌, ◌++◌, length}
use Rattle.scan.specs.Network.{Network, rest, Site}
use Rattle.scan.specs.Path.{path}
use Rattle.scan.specs.Moves.{reset, capture, feed, outs, update}
use Rattle.retarget.specs.Shapes.{Shape}
use Rattle.retarget.specs.Wants.{wanted}
use Rattle.retarget.specs.Strings.{Order, asks, reads, word, string, sieve, sift}

abbrev pub through : List Site → List Bool → List Site
through ss bs = update (feed (capture ss) bs)

-- After a reset and the first n passes, where string p is what pass p shifts in.
abbrev pub stage : (ℕ → List Bool) → List Site → ℕ → List Site
stage string ss zero = reset ss
stage string ss (suc n) = through (stage string ss n) (string (suc n))

-- a network at rest with these sites
abbrev pub resting : Network → List Site → Network
resting n ss = record { sites = ss; phase = rest; lost = n.lost }

-- How many passes a run of depth d has: d to configure and one for the data, or none.
abbrev pub passes : ℕ → ℕ
passes zero = 0
passes (suc k) = suc (suc k)

-- all bits that a run shifts in the passes 1 to n
abbrev pub shifted : (ℕ → List Bool) → ℕ → ℕ
shifted string zero = 0
shifted string (suc n) = shifted string n + length (string (suc n))

-- the lengths of the path that the passes 1 to n find, summed
abbrev pub path_lengths : (ℕ → List Bool) → List Site → ℕ → ℕ
path_lengths string ss zero = 0
path_lengths string ss (suc n) = path_lengths string ss n + length (path (stage string ss n))

-- A run of depth d that carries out the orders os.
abbrev pub run : ℕ → List Shape → List Order → List Site → List Site
run d ps os ss = stage (string d ps os) ss (passes d)

-- the bits that are kept of its data pass
abbrev pub kept : ℕ → List Shape → List Order → List Site → List Bool
kept zero ps os ss = []
kept (suc k) ps os ss =
    sift (sieve (suc k) ps os (passes (suc k))) (outs (capture (stage (string (suc k) ps os) ss (suc k))) (string (suc k) ps os (passes (suc k))))

-- In the subject's words: what is held after a run, and what the instruments read offer, in scan order.
abbrev pub held_after : List Shape → List Order → List (List Bool) → List (List Bool)
held_after [] os hs = hs
held_after (p ∷ ps) [] hs = hs
held_after (p ∷ ps) (o ∷ os) [] = []
held_after (p ∷ ps) (o ∷ os) (h ∷ hs) = cond (wanted p (asks o)) (word p o) h ∷ held_after ps os hs

abbrev pub offer_of : Site → List Bool
offer_of s = s.build.offer s.held

abbrev pub offers_read : List Order → List Site → List Bool
offers_read os [] = []
offers_read [] (s ∷ ss) = []
offers_read (o ∷ os) (s ∷ ss) = cond (reads o && not s.build.doorway) (offer_of s) [] ++ offers_read os ss

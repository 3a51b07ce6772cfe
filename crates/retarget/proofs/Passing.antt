-- What one pass does to a network where what is open is what the pass expects.
use Rattle.std.proofs.Common.{◌≡◌, ℕ, suc, ◌≤◌, Bool, true, false, cond, not, ◌&&◌, ◌||◌, ltb, List, [], ◌∷◌, ◌++◌, map, length, drop, replicate, sym, refl, ap, ◌∙◌, subst, ap₂, arith}
use Rattle.std.proofs.lemmas.List.{length-replicate}
use Rattle.std.proofs.lemmas.Bool.{and_parts, or_right, ltb-true, le-leb}
use Rattle.scan.specs.Network.{Flaw, Site, latch_of, held_of, live, Fits, Each}
use Rattle.scan.specs.Path.{on, pick, flaws_of, offered, path, SoundSibs}
use Rattle.scan.specs.Moves.{load, spread, loaded, capture, outs}
use Rattle.scan.proofs.Rows.{SoundRow}
use Rattle.scan.proofs.Fill.{part_at, after_at}
use Rattle.scan.proofs.Queue.{pass_law}
use Rattle.retarget.specs.Shapes.{Shape, shape_of, shapes_of, Formed, reach_after, on_path, span}
use Rattle.retarget.specs.Wants.{wanted, found, needed, aims, opened}
use Rattle.retarget.specs.Strings.{Order, none, read, write, asks, reads, word, part, parts, string, mask, masks, sieve, sift}
use Rattle.retarget.specs.Runs.{through, offer_of}
use Rattle.retarget.specs.Laws.{Apt, SoundWanted}
use Rattle.retarget.proofs.Walking.{on_path_is, walk_by_shapes_law}
use Rattle.retarget.proofs.Lengths.{length_string}
use Rattle.retarget.proofs.Gathering.{sift_append, sift_replicate}
use Rattle.retarget.proofs.Opening.{Within, merge, Leads, found_at, open_at, leads_more, turned, found_bound}

-- A SIB as a pass finds it: m says that it is on the path, v that the pass is the data pass. What is open is wanted and on the path.
pub record Ready (v m : Bool) (s : Site) (o : Order) : Type 0 where
  pub lively : live s ≡ (v && wanted (shape_of s) (asks o))
  pub there : live s ≡ true → m ≡ true
  pub fits : Fits s
  pub apt : length (word (shape_of s) o) ≡ length s.build.flaws

abbrev pub AllReady : Bool → List Bool → List Site → List Bool → List Order → Type 0
AllReady v [] [] [] [] = Unit {0}
AllReady v [] [] [] (o ∷ os) = ⊥
AllReady v [] [] (g ∷ gs) os = ⊥
AllReady v [] (s ∷ ss) gs os = ⊥
AllReady v (m ∷ ms) [] gs os = ⊥
AllReady v (m ∷ ms) (s ∷ ss) [] os = ⊥
AllReady v (m ∷ ms) (s ∷ ss) (g ∷ gs) [] = ⊥
AllReady v (m ∷ ms) (s ∷ ss) (g ∷ gs) (o ∷ os) = Ready v m s o × AllReady v ms ss gs os

-- the parts and the masks of a pass that aims at gs
abbrev pub parts_of : List Site → List Bool → List Order → List (List Bool)
parts_of ss gs os = parts (shapes_of ss) gs (map latch_of ss) os

abbrev pub masks_of : List Site → List Order → List (List Bool)
masks_of ss os = masks (shapes_of ss) (map latch_of ss) os

-- what is held after a pass, and what is kept of it
abbrev pub held_then : Bool → List Order → List Site → List (List Bool)
held_then v os [] = []
held_then v [] (s ∷ ss) = []
held_then v (o ∷ os) (s ∷ ss) = cond (v && wanted (shape_of s) (asks o)) (word (shape_of s) o) s.held ∷ held_then v os ss

abbrev pub kept_then : Bool → List Order → List Site → List Bool
kept_then v os [] = []
kept_then v [] (s ∷ ss) = []
kept_then v (o ∷ os) (s ∷ ss) = cond (v && (reads o && not s.build.doorway)) (offer_of s) [] ++ kept_then v os ss

-- One SIB.
open_live : (l w door v : Bool) → (l && not door) ≡ (v && (w && not door)) → (l && (w && not door)) ≡ (l && not door)
open_live l w door v e = grind arith

row_sound : (l : Bool) (fs gs : List Flaw) → (l ≡ true → SoundRow fs) → SoundRow gs → SoundRow (cond l fs [] ++ gs)
row_sound true [] gs e r = r
row_sound true (f ∷ fs) gs e r = ((e refl).0, row_sound true fs gs (λ _. (e refl).1) r)
row_sound false fs gs e r = r

module _ (v m : Bool) (s : Site) (o : Order) (r : Ready v m s o) where
  part_is : (g : Bool) → part (shape_of s) g s.latch o ≡ g ∷ cond (live s) (word (shape_of s) o) []
  part_is g = ap (λ (l : Bool). g ∷ cond l (word (shape_of s) o) []) (open_live s.latch (asks o) s.build.doorway v r.lively)

  part_after : (g : Bool) (bs : List Bool) → drop (length (flaws_of s)) (part (shape_of s) g s.latch o ++ bs) ≡ bs
  part_after g bs =
      ap (λ (xs : List Bool). drop (length (flaws_of s)) (xs ++ bs)) (part_is g)
      ∙ after_at (live s) s.build.flaws (word (shape_of s) o) bs r.apt

  part_held : (g : Bool) (bs : List Bool) → (load s (part (shape_of s) g s.latch o ++ bs)).held ≡ cond (v && wanted (shape_of s) (asks o)) (word (shape_of s) o) s.held
  part_held g bs =
      ap (λ (xs : List Bool). (load s (xs ++ bs)).held) (part_is g)
      ∙ part_at (live s) s.build.flaws (word (shape_of s) o) bs s.held r.apt
      ∙ ap (λ (l : Bool). cond l (word (shape_of s) o) s.held) r.lively

  mask_is : mask (shape_of s) s.latch o ≡ false ∷ cond (live s) (replicate (length s.build.flaws) (reads o)) []
  mask_is = ap (λ (l : Bool). false ∷ cond l (replicate (length s.build.flaws) (reads o)) []) (open_live s.latch (asks o) s.build.doorway v r.lively)

  -- off the path nothing is open
  off_path : m ≡ false → (v && wanted (shape_of s) (asks o)) ≡ false
  off_path e = let there = r.there in let lively = r.lively in grind arith

-- What is kept of one SIB's part: the offer of an instrument read.
read_offer : (v door : Bool) (o : Order) (bs : List Bool) → cond (v && (asks o && not door)) (cond (reads o) bs []) [] ≡ cond (v && (reads o && not door)) bs []
read_offer false door o bs = refl
read_offer true door none bs = refl
read_offer true true read bs = refl
read_offer true false read bs = refl
read_offer true true (write ws) bs = refl
read_offer true false (write ws) bs = refl

sift_row : (l k : Bool) (n : ℕ) (bs ms cs : List Bool) → length bs ≡ n
    → sift (cond l (replicate n k) [] ++ ms) (cond l bs [] ++ cs) ≡ cond l (cond k bs []) [] ++ sift ms cs
sift_row true k n bs ms cs e = sift_append (replicate n k) ms bs cs (length-replicate n k ∙ sym e) ∙ ap (λ (xs : List Bool). xs ++ sift ms cs) (sift_replicate k n bs e)
sift_row false k n bs ms cs e = refl

mask_kept : (v : Bool) (s : Site) (o : Order) (ms cs : List Bool) → Ready v true s o
    → sift (mask (shape_of s) s.latch o ++ ms) (offered s ++ cs) ≡ cond (v && (reads o && not s.build.doorway)) (offer_of s) [] ++ sift ms cs
mask_kept v s o ms cs r =
    ap (λ (xs : List Bool). sift (xs ++ ms) (offered s ++ cs)) (mask_is v true s o r)
    ∙ sift_row (live s) (reads o) (length s.build.flaws) (offer_of s) ms cs (r.fits.offer s.held r.fits.held)
    ∙ ap (λ (l : Bool). cond l (cond (reads o) (offer_of s) []) [] ++ sift ms cs) r.lively
    ∙ ap (λ (xs : List Bool). xs ++ sift ms cs) (read_offer v s.build.doorway o (offer_of s))

-- What a pass does: v as before, ms the marks of the path, gs what it aims at.
pub record Carried (v : Bool) (ms : List Bool) (ss : List Site) (gs : List Bool) (os : List Order) : Type 0 where
  pub latches : map latch_of (spread load ms ss (pick ms (parts_of ss gs os))) ≡ merge ms gs (map latch_of ss)
  pub held : map held_of (spread load ms ss (pick ms (parts_of ss gs os))) ≡ held_then v os ss
  pub kept : sift (pick ms (masks_of ss os)) (pick ms (map offered ss)) ≡ kept_then v os ss
  pub sound : SoundSibs ss → (v ≡ true → SoundWanted ss os) → SoundRow (pick ms (map flaws_of ss))

carried_more : (v m : Bool) (s : Site) (g : Bool) (o : Order) (ms : List Bool) (ss : List Site) (gs : List Bool) (os : List Order)
    → Ready v m s o → Carried v ms ss gs os → Carried v (m ∷ ms) (s ∷ ss) (g ∷ gs) (o ∷ os)
carried_more v true s g o ms ss gs os r i =
    let bs = pick ms (parts_of ss gs os) in
    let skip = ap (spread load ms ss) (part_after v true s o r g bs) in
    record {
      latches = ap (λ (ls : List Bool). g ∷ ls) (ap (map latch_of) skip ∙ i.latches);
      held = ap₂ ◌∷◌ (part_held v true s o r g bs) (ap (map held_of) skip ∙ i.held);
      kept =
          mask_kept v s o (pick ms (masks_of ss os)) (pick ms (map offered ss)) r
          ∙ ap (λ (xs : List Bool). cond (v && (reads o && not s.build.doorway)) (offer_of s) [] ++ xs) i.kept;
      sound = λ a b.
          let row : live s ≡ true → SoundRow s.build.flaws = λ e. (let t = and_parts v _ (sym r.lively ∙ e) in (b t.0).0 t.1) in
          (a.0, row_sound (live s) s.build.flaws (pick ms (map flaws_of ss)) row (i.sound a.1 (λ e. (b e).1)));
    }
carried_more v false s g o ms ss gs os r i =
    let off = off_path v false s o r refl in
    record {
      latches = ap (λ (ls : List Bool). s.latch ∷ ls) i.latches;
      held = ap₂ ◌∷◌ (ap (λ (l : Bool). cond l (word (shape_of s) o) s.held) (sym off)) i.held;
      kept =
          i.kept
          ∙ ap (λ (xs : List Bool). xs ++ kept_then v os ss)
          (ap (λ (l : Bool). cond l (cond (reads o) (offer_of s) []) []) (sym off) ∙ read_offer v s.build.doorway o (offer_of s));
      sound = λ a b. i.sound a.1 (λ e. (b e).1);
    }

pub carried : (v : Bool) (ms : List Bool) (ss : List Site) (gs : List Bool) (os : List Order) → AllReady v ms ss gs os → Carried v ms ss gs os
carried v [] [] [] [] a = record { latches = refl; held = refl; kept = refl; sound = λ _ _. tt }
carried v [] [] [] (o ∷ os) a = absurd a
carried v [] [] (g ∷ gs) os a = absurd a
carried v [] (s ∷ ss) gs os a = absurd a
carried v (m ∷ ms) [] gs os a = absurd a
carried v (m ∷ ms) (s ∷ ss) [] os a = absurd a
carried v (m ∷ ms) (s ∷ ss) (g ∷ gs) [] a = absurd a
carried v (m ∷ ms) (s ∷ ss) (g ∷ gs) (o ∷ os) a = carried_more v m s g o ms ss gs os a.0 (carried v ms ss gs os a.1)

-- Where what is open is what pass p expects, every SIB is ready for it.
open_is : (door found w before last : Bool) → ((((door && found) && before) || ((w && not door) && last)) && not door) ≡ (last && (w && not door))
open_is door found w before last = grind arith

pub readied : (d p r b : ℕ) (ss : List Site) (os : List Order) → Formed b (shapes_of ss) → Within d (shapes_of ss) (map asks os) → Leads p r (shapes_of ss) (map asks os)
    → Each Fits ss → Apt (shapes_of ss) os → map latch_of ss ≡ opened d p (shapes_of ss) (map asks os)
    → AllReady (ltb d p) (on_path r (shapes_of ss) (map latch_of ss)) ss (aims d p (shapes_of ss) (map asks os)) os
readied d p r b [] [] fm i j f a e = tt
readied d p r b [] (o ∷ os) fm i j f a e = absurd a
readied d p r b (s ∷ ss) [] fm i j f a e = absurd a
readied d p r b (s ∷ ss) (o ∷ os) fm i j f a e =
    let q = shape_of s in
    let ps = shapes_of ss in
    let ws = map asks os in
    let head : s.latch ≡ open_at d p q (asks o) ps ws = cc in
    let tail : map latch_of ss ≡ opened d p ps ws = cc in
    let lively : live s ≡ (ltb d p && wanted q (asks o)) =
    ap (λ (l : Bool). l && not q.doorway) head ∙ open_is q.doorway (found (suc q.depth) ps ws) (asks o) (ltb q.depth p) (ltb d p) in (
      record {
        lively = lively;
        there = λ u.
            let t = and_parts (ltb d p) (wanted q (asks o)) (sym lively ∙ u) in
            let low = i.0 t.1 in
            let last = ltb-true d p t.0 in
            le-leb q.depth r (j q.depth (found_at q (asks o) ps ws (or_right (needed q ps ws) _ t.1)) (omega arith));
        fits = f.0;
        apt = a.0;
      },
      readied d p (reach_after r q s.latch) (cond q.doorway (suc q.depth) q.depth) ss os fm.2 i.1
          (rw head (leads_more d p r b q (asks o) ps ws fm j)) f.1 a.1 tail,
    )

-- A whole pass p over a network with these shapes: how long its string is and, over a sound path, what it leads to and what is kept of it.
pub record AfterPass (d p : ℕ) (ps : List Shape) (ss : List Site) (os : List Order) : Type 0 where
  pub latches : map latch_of (through ss (string d ps os p)) ≡ opened d (suc p) ps (map asks os)
  pub held : map held_of (through ss (string d ps os p)) ≡ held_then (ltb d p) os ss
  pub kept : sift (sieve d ps os p) (outs (capture ss) (string d ps os p)) ≡ kept_then (ltb d p) os ss

pub record WholePass (d p : ℕ) (ps : List Shape) (ss : List Site) (os : List Order) : Type 0 where
  pub length : length (string d ps os p) ≡ length (path ss)
  pub after : SoundSibs ss → (ltb d p ≡ true → SoundWanted ss os) → AfterPass d p ps ss os

pub whole_pass : (d p : ℕ) (ps : List Shape) (ss : List Site) (os : List Order) → shapes_of ss ≡ ps → 1 ≤ p → Formed 1 ps → Within d ps (map asks os)
    → Each Fits ss → Apt ps os → map latch_of ss ≡ opened d p ps (map asks os) → WholePass d p ps ss os
whole_pass d p ps ss os same =
    subst
    (λ (qs : List Shape). 1 ≤ p → Formed 1 qs → Within d qs (map asks os) → Each Fits ss → Apt qs os → map latch_of ss ≡ opened d p qs (map asks os) → WholePass d p qs ss os)
    same go
  where
    go : 1 ≤ p → Formed 1 (shapes_of ss) → Within d (shapes_of ss) (map asks os) → Each Fits ss → Apt (shapes_of ss) os
        → map latch_of ss ≡ opened d p (shapes_of ss) (map asks os) → WholePass d p (shapes_of ss) ss os
    go h fm i f a e =
        let qs = shapes_of ss in
        let ws = map asks os in
        let gs = aims d p qs ws in
        let leads : Leads p 1 qs ws = λ c u l. found_bound 1 c qs ws fm u in
        let c = carried (ltb d p) (on ss) ss gs os (subst (λ (ms : List Bool). AllReady (ltb d p) ms ss gs os) (on_path_is 1 ss) (readied d p 1 1 ss os fm i leads f a e)) in
        let bs = pick (on ss) (parts_of ss gs os) in
        let sent : string d qs os p ≡ bs =
        ap (λ (ls : List Bool). pick (on_path 1 qs ls) (parts qs gs ls os)) (sym e) ∙ ap (λ (ms : List Bool). pick ms (parts_of ss gs os)) (on_path_is 1 ss) in
        let sieved : sieve d qs os p ≡ pick (on ss) (masks_of ss os) =
        ap (λ (ls : List Bool). pick (on_path 1 qs ls) (masks qs ls os)) (sym e) ∙ ap (λ (ms : List Bool). pick ms (masks_of ss os)) (on_path_is 1 ss) in
        let long : length (string d qs os p) ≡ length (path ss) = length_string d p qs os a ∙ ap (span 1 qs) (sym e) ∙ sym (walk_by_shapes_law ss f).length in
        record {
          length = long;
          after = λ sibs wants.
              let q = pass_law ss bs f (c.sound sibs wants) (ap length (sym sent) ∙ long) in
              let went : through ss (string d qs os p) ≡ loaded ss bs = ap (through ss) sent ∙ q.wrote in
              record {
                latches =
                    ap (map latch_of) went ∙ c.latches
                    ∙ ap (λ (ms : List Bool). merge ms gs (map latch_of ss)) (sym (on_path_is 1 ss))
                    ∙ ap (λ (ls : List Bool). merge (on_path 1 qs ls) gs ls) e
                    ∙ turned d p 1 1 qs ws fm i leads h;
                held = ap (map held_of) went ∙ c.held;
                kept = ap₂ sift sieved (ap (outs (capture ss)) sent ∙ q.read) ∙ c.kept;
              };
        }

-- A run from any state: what its passes lead to, one after the other.
use Rattle.std.proofs.Common.{◌≡◌, ℕ, zero, suc, ◌+◌, ◌≤◌, Bool, true, false, cond, not, ◌&&◌, ltb, List, [], ◌∷◌, ◌++◌, map, length, sym, refl, ap, ◌∙◌, subst, ap₂, inl, inr, arith}
use Rattle.std.proofs.lemmas.Bool.{cases_Bool, ltb-true, lt-ltb, le-ltb}
use Rattle.scan.specs.Network.{Build, Site, build_of, latch_of, held_of, Fits, Each}
use Rattle.scan.specs.Path.{SoundSibs}
use Rattle.scan.specs.Moves.{reset}
use Rattle.scan.proofs.Fill.{map_reset}
use Rattle.retarget.specs.Shapes.{Shape, shape_of, shapes_of, Formed}
use Rattle.retarget.specs.Wants.{wanted, needed, deepest, opened}
use Rattle.retarget.specs.Strings.{Order, none, read, write, asks, reads, word, string}
use Rattle.retarget.specs.Runs.{stage, passes, shifted, path_lengths, held_after, offer_of, offers_read}
use Rattle.retarget.specs.Laws.{Apt, Stands, SoundWanted, ConfigurationOpensTheWay, Served, RunWritesAndReads}
use Rattle.retarget.proofs.Opening.{Within, within_deepest, opened_midway, opened_done, step_reset}
use Rattle.retarget.proofs.Keeping.{builds_stage, fits_stage}
use Rattle.retarget.proofs.Passing.{held_then, kept_then, WholePass, whole_pass}

-- What depends on builds alone, in a network with the same builds.
build_shape : Build → Shape
build_shape b = record { doorway = b.doorway; depth = b.depth; cells = length b.flaws }

shapes_by_builds : (ss : List Site) → shapes_of ss ≡ map build_shape (map build_of ss)
unfolding build_shape
shapes_by_builds [] = refl
shapes_by_builds (s ∷ ss) = ap (λ (ps : List Shape). shape_of s ∷ ps) (shapes_by_builds ss)

pub shapes_same : (ts ss : List Site) → map build_of ts ≡ map build_of ss → shapes_of ts ≡ shapes_of ss
shapes_same ts ss e = shapes_by_builds ts ∙ ap (map build_shape) e ∙ sym (shapes_by_builds ss)

pub sound_sibs_same : (ts ss : List Site) → map build_of ts ≡ map build_of ss → SoundSibs ss → SoundSibs ts
sound_sibs_same [] ss e h = tt
sound_sibs_same (t ∷ ts) [] e h = absurd (omega (arith, ap length e))
sound_sibs_same (t ∷ ts) (s ∷ ss) e h =
    let head : t.build ≡ s.build = cc in
    let tail : map build_of ts ≡ map build_of ss = cc in
    (ap (λ (b : Build). b.own) head ∙ h.0, sound_sibs_same ts ss tail h.1)

pub sound_wanted_same : (ts ss : List Site) (os : List Order) → map build_of ts ≡ map build_of ss → SoundWanted ss os → SoundWanted ts os
sound_wanted_same [] ss os e h = tt
sound_wanted_same (t ∷ ts) [] os e h = absurd (omega (arith, ap length e))
sound_wanted_same (t ∷ ts) (s ∷ ss) [] e h = tt
sound_wanted_same (t ∷ ts) (s ∷ ss) (o ∷ os) e h =
    let head : t.build ≡ s.build = cc in
    let tail : map build_of ts ≡ map build_of ss = cc in
    (rw head h.0, sound_wanted_same ts ss os tail h.1)

pub offers_same : (os : List Order) (ts ss : List Site) → map build_of ts ≡ map build_of ss → map held_of ts ≡ map held_of ss → offers_read os ts ≡ offers_read os ss
offers_same os [] [] b h = refl
offers_same os [] (s ∷ ss) b h = absurd (omega (arith, ap length b))
offers_same os (t ∷ ts) [] b h = absurd (omega (arith, ap length b))
offers_same [] (t ∷ ts) (s ∷ ss) b h = refl
offers_same (o ∷ os) (t ∷ ts) (s ∷ ss) b h =
    let build : t.build ≡ s.build = cc in
    let held : t.held ≡ s.held = cc in
    let builds : map build_of ts ≡ map build_of ss = cc in
    let helds : map held_of ts ≡ map held_of ss = cc in
    ap₂ ◌++◌ (ap₂ (λ (b : Build) (h : List Bool). cond (reads o && not b.doorway) (b.offer h) []) build held) (offers_same os ts ss builds helds)

-- What a pass leaves held and what is kept of it, in the words of the laws: a configuration pass, and the data pass.
held_stays : (os : List Order) (ss : List Site) → Apt (shapes_of ss) os → held_then false os ss ≡ map held_of ss
held_stays os [] a = refl
held_stays [] (s ∷ ss) a = absurd a
held_stays (o ∷ os) (s ∷ ss) a = ap (λ (hs : List (List Bool)). s.held ∷ hs) (held_stays os ss a.1)

held_data : (os : List Order) (ss : List Site) → Apt (shapes_of ss) os → held_then true os ss ≡ held_after (shapes_of ss) os (map held_of ss)
held_data os [] a = refl
held_data [] (s ∷ ss) a = absurd a
held_data (o ∷ os) (s ∷ ss) a = ap (λ (hs : List (List Bool)). cond (wanted (shape_of s) (asks o)) (word (shape_of s) o) s.held ∷ hs) (held_data os ss a.1)

kept_data : (os : List Order) (ss : List Site) → kept_then true os ss ≡ offers_read os ss
kept_data os [] = refl
kept_data [] (s ∷ ss) = refl
kept_data (o ∷ os) (s ∷ ss) = ap (λ (bs : List Bool). cond (reads o && not s.build.doorway) (offer_of s) [] ++ bs) (kept_data os ss)

pub reset_latches : (d b : ℕ) (ss : List Site) (os : List Order) → Formed b (shapes_of ss) → Within d (shapes_of ss) (map asks os) → Apt (shapes_of ss) os
    → map latch_of (reset ss) ≡ opened d 1 (shapes_of ss) (map asks os)
reset_latches d b [] os f i a = refl
reset_latches d b (s ∷ ss) [] f i a = absurd a
reset_latches d b (s ∷ ss) (o ∷ os) f i a =
    ap₂ ◌∷◌ (step_reset (needed (shape_of s) (shapes_of ss) (map asks os)) (wanted (shape_of s) (asks o)) s.build.depth d f.0 i.0)
    (reset_latches d (cond s.build.doorway (suc s.build.depth) s.build.depth) ss os f.2 i.1 a.1)

module _ (d : ℕ) (ss : List Site) (os : List Order) (fits : Each Fits ss) (sibs : SoundSibs ss) (formed : Formed 1 (shapes_of ss)) (apt : Apt (shapes_of ss) os)
    (within : Within d (shapes_of ss) (map asks os)) where
  -- after n passes, where n are at most the configuration passes
  abbrev at : ℕ → List Site
  at n = stage (string d (shapes_of ss) os) ss n

  abbrev Open : ℕ → Type 0
  Open n = Stands ss (at n) (opened d (suc n) (shapes_of ss) (map asks os))

  pub pass_from : (n : ℕ) → Open n → WholePass d (suc n) (shapes_of ss) (at n) os
  pass_from n st = whole_pass d (suc n) (shapes_of ss) (at n) os (shapes_same (at n) ss st.builds) (omega arith) formed within st.fits apt st.latches

  pub stages : (n : ℕ) → n ≤ d → Open n
  stages zero h = record {
    builds = builds_stage (string d (shapes_of ss) os) ss 0;
    latches = reset_latches d 1 ss os formed within apt;
    held = map_reset held_of (λ _. refl) ss;
    fits = fits_stage (string d (shapes_of ss) os) ss 0 fits;
  }
  stages (suc n) h =
      let st = stages n (omega arith) in
      let a = (pass_from n st).after (sound_sibs_same (at n) ss st.builds sibs) (λ u. absurd (omega (arith, ltb-true d (suc n) u))) in
      record {
        builds = builds_stage (string d (shapes_of ss) os) ss (suc n);
        latches = a.latches;
        held =
            a.held ∙ ap (λ (v : Bool). held_then v os (at n)) (le-ltb d (suc n) h)
            ∙ held_stays os (at n) (subst (λ (ps : List Shape). Apt ps os) (sym (shapes_same (at n) ss st.builds)) apt) ∙ st.held;
        fits = fits_stage (string d (shapes_of ss) os) ss (suc n) fits;
      }

  pub counted : (n : ℕ) → n ≤ suc d → shifted (string d (shapes_of ss) os) n ≡ path_lengths (string d (shapes_of ss) os) ss n
  counted zero h = refl
  counted (suc n) h = ap₂ ◌+◌ (counted n (omega arith)) (pass_from n (stages n (omega arith))).length

stands_like : (ss ts : List Site) (ls ks : List Bool) → ls ≡ ks → Stands ss ts ls → Stands ss ts ks
stands_like ss ts ls ks e st = record { builds = st.builds; latches = st.latches ∙ e; held = st.held; fits = st.fits }

pub configuration_law : ConfigurationOpensTheWay
configuration_law ss os fits sibs formed apt =
    let ps = shapes_of ss in
    let ws = map asks os in
    let d = deepest ps ws in
    let within = within_deepest ps ws in
    let at = stages d ss os fits sibs formed apt within in
    record {
      midway = λ n h. stands_like ss _ _ _ (opened_midway d n ps ws h) (at n (omega arith));
      done = stands_like ss _ _ _ (opened_done d ps ws within) (at d (omega arith));
      lengths = λ n h. (pass_from d ss os fits sibs formed apt within n (at n h)).length;
      counted = counted d ss os fits sibs formed apt within (passes d) (passes-most d);
    }
  where
    passes-most : (d : ℕ) → passes d ≤ suc d
    passes-most zero = omega arith
    passes-most (suc k) = omega arith

-- A run of depth 0: no instrument is wanted.
unwanted : (s : Shape) (w : Bool) → 1 ≤ s.depth → (wanted s w ≡ true → s.depth ≤ 0) → wanted s w ≡ false
unwanted s w a b = elim (cases_Bool (wanted s w)) [ inl y ↦ (let t = b y in absurd (omega arith)) | inr n ↦ n ]

unread : (o : Order) (door : Bool) → (asks o && not door) ≡ false → (reads o && not door) ≡ false
unread none door e = refl
unread read door e = e
unread (write bs) door e = refl

pub held_none : (b : ℕ) (ps : List Shape) (os : List Order) (hs : List (List Bool)) → Formed b ps → Within 0 ps (map asks os) → hs ≡ held_after ps os hs
held_none b [] os hs f i = refl
held_none b (s ∷ ps) [] hs f i = refl
held_none b (s ∷ ps) (o ∷ os) [] f i = refl
held_none b (s ∷ ps) (o ∷ os) (h ∷ hs) f i =
    ap₂ ◌∷◌ (ap (λ (l : Bool). cond l (word s o) h) (sym (unwanted s (asks o) f.0 i.0)))
    (held_none (cond s.doorway (suc s.depth) s.depth) ps os hs f.2 i.1)

pub offers_none : (b : ℕ) (os : List Order) (ss : List Site) → Formed b (shapes_of ss) → Within 0 (shapes_of ss) (map asks os) → [] ≡ offers_read os ss
offers_none b os [] f i = refl
offers_none b [] (s ∷ ss) f i = refl
offers_none b (o ∷ os) (s ∷ ss) f i =
    ap₂ (λ (l : Bool) (bs : List Bool). cond l (offer_of s) [] ++ bs) (sym (unread o s.build.doorway (unwanted (shape_of s) (asks o) f.0 i.0)))
    (offers_none (cond s.build.doorway (suc s.build.depth) s.build.depth) os ss f.2 i.1)

-- a run of any depth that is enough
pub served : (d : ℕ) (ss : List Site) (os : List Order) → Each Fits ss → SoundSibs ss → Formed 1 (shapes_of ss) → Apt (shapes_of ss) os → SoundWanted ss os
    → Within d (shapes_of ss) (map asks os) → Served d ss os
served zero ss os fits sibs formed apt wants within = record {
  builds = builds_stage (string 0 (shapes_of ss) os) ss 0;
  held = map_reset held_of (λ _. refl) ss ∙ held_none 1 (shapes_of ss) os (map held_of ss) formed within;
  kept = offers_none 1 os ss formed within;
}
served (suc k) ss os fits sibs formed apt wants within =
    let d = suc k in
    let ps = shapes_of ss in
    let ts = stage (string d ps os) ss d in
    let st = stages d ss os fits sibs formed apt within d (omega arith) in
    let same = shapes_same ts ss st.builds in
    let a = (pass_from d ss os fits sibs formed apt within d st).after (sound_sibs_same ts ss st.builds sibs) (λ _. sound_wanted_same ts ss os st.builds wants) in
    let last : ltb d (suc d) ≡ true = lt-ltb d (suc d) (omega arith) in
    record {
      builds = builds_stage (string d ps os) ss (suc d);
      held =
          a.held ∙ ap (λ (v : Bool). held_then v os ts) last ∙ held_data os ts (subst (λ (qs : List Shape). Apt qs os) (sym same) apt)
          ∙ ap₂ (λ (qs : List Shape) (hs : List (List Bool)). held_after qs os hs) same st.held;
      kept = a.kept ∙ ap (λ (v : Bool). kept_then v os ts) last ∙ kept_data os ts ∙ offers_same os ts ss st.builds st.held;
    }

pub run_law : RunWritesAndReads
run_law ss os fits sibs formed apt wants =
    served (deepest (shapes_of ss) (map asks os)) ss os fits sibs formed apt wants (within_deepest (shapes_of ss) (map asks os))

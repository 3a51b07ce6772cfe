-- Sites that are made from number 1 up, and put in scan order at the end.
use Rattle.std.proofs.Common.{◌≡◌, ℕ, ◌+◌, ◌≤◌, Bool, List, [], ◌∷◌, ◌++◌, map, length, take, drop, sym, refl, ap, ap₂, ◌∙◌, arith}
use mathlib.Core.List.{reverse}
use Rattle.std.specs.List.{fold, sum_by}
use Rattle.std.proofs.lemmas.List.{drop_all, map-append, map_push, append_assoc, reverse-append}
use Rattle.table.specs.declared.Record.{Record}
use Rattle.scan.specs.Network as model
use Rattle.scan.specs.Network.{Build, build_of}
use Rattle.simulator.specs.declared.site.Setting.{Setting}
use Rattle.simulator.specs.declared.site.Site.{Site}
use Rattle.simulator.specs.Meaning.{meaning, meanings, all_cells}
use Rattle.simulator.specs.Fresh.{fresh_site, fresh_sites, bits_in}
use Rattle.simulator.specs.NetworkFits.{length_row_flaws}
use Rattle.simulator.proofs.Cells.{built_cells, all_built}

more_lengths : (n : ℕ) (rs : List Record) → fold (λ (a : ℕ) (r : Record). a + r.length) n rs ≡ n + bits_in rs
more_lengths n [] = omega arith
more_lengths n (r ∷ rs) = omega (arith, more_lengths (n + r.length) rs)

pub sum_lengths : (rs : List Record) → sum_by (λ (r : Record). r.length) rs ≡ bits_in rs
sum_lengths rs = omega (arith, more_lengths 0 rs)

meanings_reverse : (ss : List Site) → meanings (reverse ss) ≡ reverse (meanings ss)
meanings_reverse [] = refl
meanings_reverse (s ∷ ss) =
    ap meanings (reverse-append (s ∷ []) ss)
    ∙ map-append meaning (reverse ss) (s ∷ [])
    ∙ ap (λ (ms : List model.Site). ms ++ meaning s ∷ []) (meanings_reverse ss)
    ∙ sym (reverse-append (meaning s ∷ []) (meanings ss))

-- the next record's site is made
pub made_more : (rs : List Record) (ts : List Setting) (left : List Bool) (k k' : ℕ) (r : Record) (t : Setting) (ss ss' : List Site) (s : Site) {all : List model.Site} → k' ≡ k + 1
    → drop k rs ≡ r ∷ drop (k + 1) rs → drop k ts ≡ t ∷ drop (k + 1) ts → meaning s ≡ fresh_site r t (take r.length left) → ss' ≡ ss ++ s ∷ []
    → fresh_sites (drop k rs) (drop k ts) left ++ reverse (meanings ss) ≡ all → fresh_sites (drop k' rs) (drop k' ts) (drop r.length left) ++ reverse (meanings ss') ≡ all
made_more rs ts left k k' r t ss ss' s ek er et em es w =
    let others = fresh_sites (drop (k + 1) rs) (drop (k + 1) ts) (drop r.length left) in
    let made = reverse (meanings ss) in
    rw (ek, es)
    (ap (λ (ms : List model.Site). others ++ reverse ms) (map_push meaning ss s)
    ∙ ap (λ (ms : List model.Site). others ++ ms) (reverse-append (meanings ss) (meaning s ∷ []))
    ∙ sym (append_assoc others (meaning s ∷ []) made)
    ∙ ap (λ (m : model.Site). (others ++ m ∷ []) ++ made) em
    ∙ ap₂ (λ (qs : List Record) (us : List Setting). fresh_sites qs us left ++ made) (sym er) (sym et)
    ∙ w)

-- once no record is left
pub made_all : (rs : List Record) (ts : List Setting) (held left : List Bool) (k : ℕ) (ss : List Site) → length rs ≤ k
    → fresh_sites (drop k rs) (drop k ts) left ++ reverse (meanings ss) ≡ fresh_sites rs ts held → meanings (reverse ss) ≡ fresh_sites rs ts held
made_all rs ts held left k ss h e = meanings_reverse ss ∙ rw (drop_all k rs h) at e

built_append : (bs cs : List Build) → built_cells (bs ++ cs) ≡ built_cells bs + built_cells cs
built_append [] cs = omega arith
built_append (b ∷ bs) cs = omega (arith, built_append bs cs)

fresh_built : (rs : List Record) (ts : List Setting) (bits : List Bool) → length ts ≡ length rs → built_cells (map build_of (fresh_sites rs ts bits)) ≡ bits_in rs + length rs
fresh_built [] ts bits e = refl
fresh_built (r ∷ rs) [] bits e = absurd (omega (arith, e))
fresh_built (r ∷ rs) (t ∷ ts) bits e =
    let front = fresh_sites rs ts (drop r.length bits) in
    let last = fresh_site r t (take r.length bits) in
    let m = ap built_cells (map-append build_of front (last ∷ [])) in
    let a = built_append (map build_of front) (build_of last ∷ []) in
    omega (arith, m, a, fresh_built rs ts (drop r.length bits) (omega (arith, e)), length_row_flaws r.length t.fault)

-- the cells of a fresh network
pub fresh_cells : (ss : List Site) (rs : List Record) (ts : List Setting) (bits : List Bool) → length ts ≡ length rs → meanings ss ≡ fresh_sites rs ts bits
    → all_cells ss ≡ bits_in rs + length rs
fresh_cells ss rs ts bits e m = all_built ss ∙ ap (λ ms. built_cells (map build_of ms)) m ∙ fresh_built rs ts bits e

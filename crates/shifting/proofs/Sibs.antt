-- A SIB's own bit and its row, shifted one after the other.
use Rattle.std.proofs.Common.{◌≡◌, ℕ, ◌+◌, ◌<◌, Bool, true, false, List, ◌∷◌, length, replicate, Ok, sym, refl, ap, ◌∙◌, subst, add-zero}
use lib.ListN.{length-replicate}
use Rattle.refusal.specs.declared.Loss.{Loss}
use Rattle.refusal.specs.declared.ScanFault.{ScanFault}
use Rattle.bits.specs.declared.BitPlace.{BitPlace}
use Rattle.bits.specs.Place.{flat}
use Rattle.scan.specs.Network.{Network}
use Rattle.scan.specs.Moves.{shift, outs}
use Rattle.scan.specs.Calls.{Shifts}
use Rattle.plan.specs.declared.visit.Row.{Row}
use Rattle.plan.specs.declared.visit.Row.TheVariants.{Hidden, Read, Write}
use Rattle.shifting.specs.Orders.{bits_from}
use Rattle.shifting.specs.Feeding.{fed, laid, StaysFrom, Loses, row_bits_of, row_mask, kept_cells, VisitShifts}
use Rattle.retarget.proofs.Gathering.{length_outs, sift_replicate}
use Rattle.shifting.proofs.Rows.{length_bits_from}
use Rattle.shifting.proofs.Midway.{same_shift, same_loses}

-- the loss of a call after the SIB's own bit
pub sib_loses : (can : Loss → Type 0) (n x m : Network) (bit out : Bool) (e : ScanFault) → Shifts can n bit (Ok out) x → Loses can x e m → Loses can n e m
sib_loses can n x m bit out e one l = same_loses can n x e m (rw one.2 (same_shift n bit)) l

module _ (can : Loss → Type 0) (n x m : Network) (bit out : Bool) (row : List Bool) (from : ℕ) (to : BitPlace) (body : List Bool) (one : Shifts can n bit (Ok out) x) where
  abbrev Shifted : Row → BitPlace → List Bool → Type 0
  Shifted r next after = VisitShifts can n (bit ∷ row_bits_of r row from) (false ∷ row_mask r) (kept_cells r) to body (Ok next) m after

  pub sib_hidden : (r : Row) → r ≡ Hidden → to.place < 8 → m ≡ x → Shifted r to body
  sib_hidden r e h k = subst (λ (r : Row). Shifted r to body) (sym e) (k ∙ one.2, h, sym (add-zero (flat to)), refl)

  pub sib_write : (r : Row) (cells : ℕ) → r ≡ Write cells → to.place < 8 → m ≡ fed x (bits_from row from cells) → Shifted r to body
  sib_write r cells e h k =
      subst (λ (r : Row). Shifted r to body) (sym e) (
        k ∙ ap (λ (y : Network). fed y (bits_from row from cells)) one.2,
        h,
        sym (add-zero (flat to)),
        sym (ap (laid body (flat to)) (sift_replicate false cells (outs (shift n.sites bit) (bits_from row from cells)) (length_outs (shift n.sites bit) (bits_from row from cells) ∙ length_bits_from row from cells))),
      )

  pub sib_read : (r : Row) (cells : ℕ) (next : BitPlace) (after : List Bool) → r ≡ Read cells → next.place < 8 → flat next ≡ flat to + cells
      → m ≡ fed x (replicate cells true) → after ≡ laid body (flat to) (outs x.sites (replicate cells true)) → Shifted r next after
  sib_read r cells next after e h f k a =
      let ones = replicate cells true in
      let came = outs (shift n.sites bit) ones in
      let all = sift_replicate true cells came (length_outs (shift n.sites bit) ones ∙ length-replicate cells true) in
      subst (λ (r : Row). Shifted r next after) (sym e) (
        k ∙ ap (λ (y : Network). fed y ones) one.2,
        h,
        f,
        a ∙ ap (λ (y : Network). laid body (flat to) (outs y.sites ones)) one.2 ∙ sym (ap (laid body (flat to)) all),
      )

-- Where a call is lost, the row keeps what lies beyond the visit's part.
pub write_stays : (at : ℕ) (row : List Bool) → StaysFrom at row row
write_stays at row i h = refl

pub read_stays : (r : Row) (cells at : ℕ) (row after : List Bool) → r ≡ Read cells → StaysFrom (at + length (replicate cells true)) row after → StaysFrom (at + kept_cells r) row after
read_stays r cells at row after e s = subst (λ (k : ℕ). StaysFrom (at + k) row after) (length-replicate cells true ∙ sym (ap kept_cells e)) s

-- In every state the network that a simulator means has rows, held bits and offers that fit: the proof of that law of a transport.
use Rattle.std.specs.Prelude.{◌≡◌, ℕ, not, Bool, List, [], ◌∷◌, length, replicate, Option, Some, None, vec_items, refl}
use Rattle.std.specs.VecDeque.{deque_len}
use Rattle.std.proofs.Common.{sym, ◌∙◌, arith}
use Rattle.std.proofs.lemmas.List.{length-map, length-replicate, length-set}
use Rattle.scan.specs.Network.{sound, stuck, Each, Fits}
use Rattle.scan.specs.Path.{path_flaws}
use Rattle.scan.proofs.Sizes.{length_path, fits_fill}
use Rattle.simulator.specs.declared.site.Offer.{Offer}
use Rattle.simulator.specs.declared.site.Offer.TheVariants.{Keeps, Inverts}
use Rattle.simulator.specs.declared.site.Phase.{Phase}
use Rattle.simulator.specs.declared.site.Phase.TheVariants.{Rest, Scan, Broken}
use Rattle.simulator.specs.declared.site.Site.{Site}
use Rattle.simulator.specs.declared.site.Stuck.{Stuck}
use Rattle.simulator.specs.declared.network.Simulator.{Simulator}
use Rattle.simulator.specs.Meaning.{meaning, meanings, offer_of, sites_now, row_flaws}
use Rattle.simulator.specs.Simulated.{network}

pub length_row_flaws : (n : ℕ) (o : Option Stuck) → length (row_flaws n o) ≡ n
length_row_flaws n None = length-replicate n sound
length_row_flaws n (Some f) = length-set (replicate n sound) f.cell (stuck f.bit) ∙ length-replicate n sound

offer_length : (o : Offer) (n : ℕ) (bs : List Bool) → length bs ≡ n → length (offer_of o bs) ≡ n
offer_length Keeps n bs e = e
offer_length Inverts n bs e = length-map bs not ∙ e

site_fits : (s : Site) → Fits (meaning s)
site_fits s =
    let n = length_row_flaws (length (vec_items s.row)) s.fault in
    record {
      row = sym n;
      held = omega (arith, n, s.even, s.row.ok.0, s.held.ok.0);
      offer = λ bs e. offer_length s.offer _ bs e;
    }

pub sites_fit : (ss : List Site) → Each Fits (meanings ss)
sites_fit [] = tt
sites_fit (s ∷ ss) = (site_fits s, sites_fit ss)

pub scan_bits : (s : Simulator) → s.phase ≡ Scan → length s.path.bits.items ≡ length (path_flaws (meanings (vec_items s.sites)))
scan_bits s e =
    let cells : length (path_flaws (meanings (vec_items s.sites))) ≡ deque_len s.path.bits = rw e at s.cells in
    sym s.path.bits.ok.0 ∙ sym cells

fits_in : (s : Simulator) (p : Phase) → s.phase ≡ p → Each Fits (sites_now p (meanings (vec_items s.sites)) s.path.bits.items)
fits_in s Rest e = sites_fit (vec_items s.sites)
fits_in s Broken e = sites_fit (vec_items s.sites)
fits_in s Scan e =
    let fits = sites_fit (vec_items s.sites) in
    fits_fill (meanings (vec_items s.sites)) _ fits (scan_bits s e ∙ sym (length_path (meanings (vec_items s.sites)) fits))

pub network_fits : (s : Simulator) → Each Fits (network s).sites
network_fits s = fits_in s s.phase refl

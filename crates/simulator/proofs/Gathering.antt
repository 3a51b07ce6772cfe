-- A loop that gathers what the path offers and where it is stuck, one site after the other.
use Rattle.std.proofs.Common.{◌≡◌, ℕ, suc, ◌+◌, ◌<◌, ◌≤◌, Bool, true, false, cond, leb, List, [], ◌∷◌, ◌++◌, length, drop, vec_items, Option, sym, ap, ◌∙◌, ap₂, arith, le-leb}
use borrow.Author.Tests.{lt-leb}
use Rattle.std.proofs.lemmas.List.{append_assoc, length-append}
use Rattle.scan.specs.Network.{live}
use Rattle.scan.specs.Path.{reach_after, flaws_of, offered}
use Rattle.simulator.specs.declared.site.Site.{Site}
use Rattle.simulator.specs.declared.site.Stuck.{Stuck}
use Rattle.simulator.specs.declared.site.StuckPlace.{StuckPlace}
use Rattle.simulator.specs.Meaning.{meaning, meanings, row_flaws, all_cells, stuck_places, stuck_at}
use Rattle.simulator.proofs.Walks.{offered_from, flaws_from, offered_on, offered_off, flaws_on, flaws_off}
use Rattle.simulator.specs.NetworkFits.{length_row_flaws}
use Rattle.simulator.proofs.Places.{stuck_places_append}

-- After i sites: n and m are how many bits and stuck cells there are, within the room that was there at first.
pub record Gathered (items : List Site) (i r : ℕ) (bits : List Bool) (n room : ℕ) (cells : List StuckPlace) (m places room₀ places₀ : ℕ) : Type 0 where
  pub bits_left : bits ++ offered_from r (meanings (drop i items)) ≡ offered_from 1 (meanings items)
  pub cells_left : cells ++ stuck_places n (flaws_from r (meanings (drop i items))) ≡ stuck_places 0 (flaws_from 1 (meanings items))
  pub length_left : n + length (flaws_from r (meanings (drop i items))) ≡ length (flaws_from 1 (meanings items))
  pub room_left : n + all_cells (drop i items) ≤ room
  pub places_left : m + length (drop i items) ≤ places
  pub same_room : room ≡ room₀
  pub same_places : places ≡ places₀

part_at : (l : Bool) (n : ℕ) (o : Option Stuck) → length (cond l (row_flaws n o) []) ≤ n
part_at true n o = omega (arith, length_row_flaws n o)
part_at false n o = omega arith

-- a part of the path is no longer than all cells of its site
part_within : (s : Site) → length (flaws_of (meaning s)) ≤ suc (length (vec_items s.row))
part_within s = omega (arith, part_at (live (meaning s)) (length (vec_items s.row)) s.fault)

-- The site s is the first of those left.
abbrev Next : List Site → ℕ → Site → Type 0
Next items i s = drop i items ≡ s ∷ drop (i + 1) items

-- There is room for the part of the next site.
pub part_fits : {items : List Site} {i r n room m places room₀ places₀ : ℕ} {bits : List Bool} {cells : List StuckPlace} {s : Site}
    → Gathered items i r bits n room cells m places room₀ places₀ → Next items i s → n + length (flaws_of (meaning s)) ≤ room
part_fits {s = s} w e = omega (arith, w.room_left, ap all_cells e, part_within s)

pub gathered_on : {items : List Site} {i r r' : ℕ} {bits bits' : List Bool} {n n' room room' : ℕ} {cells cells' : List StuckPlace} {m m' places places' room₀ places₀ : ℕ} {s : Site}
    → Gathered items i r bits n room cells m places room₀ places₀ → Next items i s → s.depth ≤ r
    → r' ≡ reach_after r (meaning s).build s.latch
    → bits' ≡ bits ++ offered (meaning s) → n' ≡ n + length (flaws_of (meaning s)) → room' ≡ room
    → cells' ≡ cells ++ stuck_at n s → m' ≤ m + 1 → places' ≡ places
    → Gathered items (i + 1) r' bits' n' room' cells' m' places' room₀ places₀
gathered_on {items = items} {i = i} {r = r} {r' = r'} {bits = bits} {bits' = bits'} {n = n} {n' = n'} {cells = cells} {s = s} w e le er eb en eroom ec em ep =
    let rest = meanings (drop (i + 1) items) in
    let ri = reach_after r (meaning s).build s.latch in
    let fl = ap (λ (ss : List Site). flaws_from r (meanings ss)) e ∙ flaws_on r (meaning s) rest (le-leb _ _ le) in
    let of = ap (λ (ss : List Site). offered_from r (meanings ss)) e ∙ offered_on r (meaning s) rest (le-leb _ _ le) in
    let k = length-append (flaws_of (meaning s)) (flaws_from ri rest) in
    record {
      bits_left =
          ap₂ (λ (q : ℕ) (bs : List Bool). bs ++ offered_from q rest) er eb
          ∙ append_assoc bits (offered (meaning s)) (offered_from ri rest)
          ∙ ap (λ (bs : List Bool). bits ++ bs) (sym of)
          ∙ w.bits_left;
      cells_left =
          ap (λ (cs : List StuckPlace). cs ++ stuck_places n' (flaws_from r' rest)) ec
          ∙ ap₂ (λ (q k : ℕ). (cells ++ stuck_at n s) ++ stuck_places k (flaws_from q rest)) er en
          ∙ append_assoc cells (stuck_at n s) (stuck_places (n + length (flaws_of (meaning s))) (flaws_from ri rest))
          ∙ ap (λ (cs : List StuckPlace). cells ++ cs) (sym (stuck_places_append n (flaws_of (meaning s)) (flaws_from ri rest)) ∙ ap (stuck_places n) (sym fl))
          ∙ w.cells_left;
      length_left = rw er (omega (arith, w.length_left, ap length fl, k, en));
      room_left = omega (arith, w.room_left, ap all_cells e, part_within s, en, eroom);
      places_left = omega (arith, w.places_left, ap length e, em, ep);
      same_room = eroom ∙ w.same_room;
      same_places = ep ∙ w.same_places;
    }

pub gathered_off : {items : List Site} {i r n room m places room₀ places₀ : ℕ} {bits : List Bool} {cells : List StuckPlace} {s : Site}
    → Gathered items i r bits n room cells m places room₀ places₀ → Next items i s → r < s.depth
    → Gathered items (i + 1) r bits n room cells m places room₀ places₀
gathered_off {items = items} {i = i} {r = r} {n = n} {bits = bits} {cells = cells} {s = s} w e lt =
    let rest = meanings (drop (i + 1) items) in
    let off : leb s.depth r ≡ false = lt-leb _ _ lt in
    let fl = ap (λ (ss : List Site). flaws_from r (meanings ss)) e ∙ flaws_off r (meaning s) rest off in
    let of = ap (λ (ss : List Site). offered_from r (meanings ss)) e ∙ offered_off r (meaning s) rest off in
    record {
      bits_left = ap (λ (bs : List Bool). bits ++ bs) (sym of) ∙ w.bits_left;
      cells_left = ap (λ fs. cells ++ stuck_places n fs) (sym fl) ∙ w.cells_left;
      length_left = omega (arith, w.length_left, ap length fl);
      room_left = omega (arith, w.room_left, ap all_cells e);
      places_left = omega (arith, w.places_left, ap length e);
      same_room = w.same_room;
      same_places = w.same_places;
    }

use Rattle.std.proofs.Common.{◌≡◌, Bool, List, vec_items, sym, refl, ap, ◌∙◌}
use Rattle.scan.specs.Path.{path_flaws}
use Rattle.scan.specs.Moves.{first, moved}
use Rattle.simulator.specs.Meaning.{meanings, stuck_places, forced}
use Rattle.simulator.specs.NetworkFits.{scan_bits}
use Rattle.simulator.proofs.Places.{forced_is_shown}
use Rattle.simulator.proofs.network.Simulator.turn.Goals as goal

pub returns : goal.returns
returns c =
    let s = c.args.self.now in
    let flaws = path_flaws (meanings (vec_items s.sites)) in
    let listed : stuck_places 0 flaws ≡ vec_items s.path.stuck = rw c.requires at s.listed in
    let shows = ap (forced s.path.bits.items) (sym listed) ∙ forced_is_shown flaws s.path.bits.items (scan_bits s c.requires) in
    record {
      sites = refl;
      answer = c.shift.ensures.out ∙ ap (λ (xs : List Bool). first xs c.args.bit) shows;
      bits = c.shift.ensures.bits ∙ ap (λ (xs : List Bool). moved xs c.args.bit) shows;
      phase = c.requires;
      count = refl;
      cable = refl;
    }

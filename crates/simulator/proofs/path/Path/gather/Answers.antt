use Rattle.std.proofs.Common.{ℕ, List, ◌++◌, vec_items, refl, ap, ◌∙◌, arith}
use Rattle.simulator.specs.declared.site.StuckPlace.{StuckPlace}
use Rattle.simulator.specs.Meaning.{stuck_at}
use Rattle.simulator.proofs.Walks.{drop_item}
use Rattle.simulator.proofs.Gathering.{part_fits, gathered_on, gathered_off}
use Rattle.simulator.proofs.path.Path.gather.Goals as goal
use Rattle.simulator.proofs.path.Path.gather.Goals.{then-from-reach, else-from-reach}

pub stuck_on-requires : goal.stuck_on-requires
stuck_on-requires c =
    let next = drop_item c.args.sites.now _ c.loop-site.site-index c.site-item.result refl c.loop-site-test.true c.site-item.is in
    let fits = part_fits c.loop-site.invariant next in
    omega (arith, fits, c.len.ensures, c.loop-site.bits.small)

pub offer_onto-requires : goal.offer_onto-requires
offer_onto-requires c =
    part_fits c.loop-site.invariant (drop_item c.args.sites.now _ c.loop-site.site-index c.site-item.result refl c.loop-site-test.true c.site-item.is)

pub loop-site-preserved : goal.loop-site-preserved
loop-site-preserved c =
    let next = drop_item c.args.sites.now _ c.loop-site.site-index c.site-item.result refl c.loop-site-test.true c.site-item.is in
    elim c.if-from-reach.branch [
      | then-from-reach w ↦
          rw (w.reach-is, w.self-is, w.bits-is)
          (gathered_on c.loop-site.invariant next (omega arith)
          (w.reach-reach.ensures c.loop-site.reach (omega arith))
          w.offer_onto.ensures.bits w.offer_onto.ensures.len w.offer_onto.ensures.room
          (w.note.ensures.cells ∙ ap (λ (cs : List StuckPlace). vec_items c.loop-site.self.stuck ++ cs) (w.stuck_on.ensures ∙ ap (λ (n : ℕ). stuck_at n c.site-item.result) w.len.ensures))
          w.note.ensures.len w.note.ensures.room)
      | else-from-reach w ↦ rw (w.reach-is, w.self-is, w.bits-is) (gathered_off c.loop-site.invariant next (omega arith))
    ]

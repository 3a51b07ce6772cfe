use Rattle.std.proofs.Common.{◌≡◌, ℕ, length, min, take, vec_items, refl, ap, ◌∙◌, arith, rules}
use Rattle.std.proofs.lemmas.List.{length_push}
use Rattle.std.proofs.lemmas.Slice.Zip.{zip_turn, zip_end}
use Rattle.simulator.specs.Meaning.{meanings}
use Rattle.simulator.specs.Fresh.{fresh_site, bits_in}
use Rattle.simulator.proofs.Walks.{drop_item}
use Rattle.simulator.proofs.Newness.{made_more, made_all}
use Rattle.simulator.proofs.making.make_sites.Goals as goal

pub loop-record-preserved : goal.loop-record-preserved
loop-record-preserved c =
    let rs = c.args.records.now in
    let ts = c.args.settings.now in
    let k = length c.loop-record.yielded in
    let more = length_push c.loop-record.yielded (c.in-Some.record, c.in-Some.setting) in
    let turn =
    zip_turn rs ts c.loop-record.yielded c.into_iter-record-iterator.result _ c.next.new.self _ (cc) (cc) c.loop-record.yielded_by (c.in-Some.record, c.in-Some.setting) c.in-Some.is c.next.ensures.steps in
    let record_next = drop_item rs rs k c.in-Some.record.now refl turn.0 (turn.2 _) in
    let setting_next = drop_item ts ts k c.in-Some.setting.now refl turn.1 (turn.3 _) in
    let bits =
    c.in_ok-make_site.ensures.0 ∙ ap (fresh_site c.in-Some.record.now c.in-Some.setting.now) (c.split_at.ensures.front ∙ ap (λ (n : ℕ). take n c.loop-record.rest.now) c.from.ensures) in
    record {
      next = search rules;
      ends = search rules;
      made =
          rw (c.split_at.ensures.back, c.from.ensures)
          (made_more rs ts c.loop-record.rest.now k _ _ _ _ _ c.in_ok-make_site.field-0 more record_next setting_next bits c.push_reserved.ensures.items c.loop-record.invariant.made);
      left = rw more (omega (arith, c.loop-record.invariant.left, ap bits_in record_next));
      count = omega arith;
      room = omega arith;
    }

pub returns : goal.returns
returns c =
    let rs = c.args.records.now in
    let ts = c.args.settings.now in
    let k = length c.loop-record.yielded in
    let ended : k ≡ min (length rs) (length ts) =
    zip_end rs ts c.loop-record.yielded c.into_iter-record-iterator.result _ c.next.new.self _ (cc) (cc) c.loop-record.yielded_by c.in-None.is c.next.ensures.steps in
    (ap meanings c.reverse.ensures.items ∙ made_all rs ts c.args.held.now _ k (vec_items c.loop-record.sites) (omega arith) c.loop-record.invariant.made, omega arith)

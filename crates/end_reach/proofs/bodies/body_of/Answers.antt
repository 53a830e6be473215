use Rattle.std.proofs.Common.{◌∙◌, get_or, sym}
use Rattle.std.proofs.lemmas.List.{get_or_default}
use Rattle.vpc_base.proofs.Options.{none_if, some_if}
use Rattle.vpc_model.specs.declared.places.End.TheVariants as ends
use Rattle.described_hosts.specs.Hosts.{numbered}
use Rattle.listing_text.proofs.BodyLemmas.{body-part, body-whole, so_far-few, so_far-more, so_far-none}
use Rattle.end_reach.specs.Texts.{row_lines_from}
use Rattle.end_reach.specs.Told.{wanted}
use Rattle.end_reach.proofs.bodies.body_of.Goals as goal

pub loop-start-init : goal.loop-start-init
loop-start-init g c = record { told = so_far-none (wanted c.args.f.now c.args.asked.now.query.now c.args.asked.now.targets.now) (row_lines_from c.args.f.now) _ c.new.ensures.items; walks = c.of-walks.ensures }

pub add_start-requires-clause-few : goal.add_start-requires-clause-few
add_start-requires-clause-few g c = so_far-few (wanted c.args.f.now c.args.asked.now.query.now c.args.asked.now.targets.now) (row_lines_from c.args.f.now) _ c.loop-start.body.text.items c.loop-start.body.count c.loop-start.body.next c.loop-start.invariant.told

pub loop-start-preserved : goal.loop-start-preserved
loop-start-preserved g c =
    let starts = c.args.starts.now in
    let k = c.loop-start.start-index in
    let start = get_or starts k (ends.Interface (numbered 0)) in
    record {
      told = so_far-more (wanted c.args.f.now c.args.asked.now.query.now c.args.asked.now.targets.now) (row_lines_from c.args.f.now) starts k start c.loop-start-test.true (get_or_default starts k (ends.Interface (numbered 0)) start c.loop-start-test.true)
          c.loop-start.body.text.items c.add_start.new.body.text.items c.loop-start.body.count c.add_start.new.body.count c.loop-start.body.next c.add_start.new.body.next
          c.loop-start.invariant.told c.in_ok-add_start.ensures.added (none_if c.add_start.new.body.next (sym c.is_some.ensures ∙ c.if-is_some.false));
      walks = c.in_ok-add_start.ensures.walks;
    }

pub returns-then-is_some : goal.returns-then-is_some
returns-then-is_some g c =
    let starts = c.args.starts.now in
    let k = c.loop-start.start-index in
    let start = get_or starts k (ends.Interface (numbered 0)) in
    body-part (wanted c.args.f.now c.args.asked.now.query.now c.args.asked.now.targets.now) (row_lines_from c.args.f.now) starts k start c.loop-start-test.true (get_or_default starts k (ends.Interface (numbered 0)) start c.loop-start-test.true)
    c.loop-start.body.text.items c.add_start.new.body.text.items c.loop-start.body.count c.add_start.new.body.count c.loop-start.body.next c.add_start.new.body.next
    c.loop-start.invariant.told c.in_ok-add_start.ensures.added (some_if c.add_start.new.body.next (sym c.is_some.ensures ∙ c.if-is_some.true))

pub returns : goal.returns
returns g c =
    body-whole (wanted c.args.f.now c.args.asked.now.query.now c.args.asked.now.targets.now) (row_lines_from c.args.f.now) c.args.starts.now c.loop-start.start-index c.loop-start.body.text.items c.loop-start.body.count c.loop-start.body.next
    c.loop-start-test.false c.loop-start.auto.start-index-end c.loop-start.invariant.told

use Rattle.std.proofs.Common.{get_or}
use Rattle.std.proofs.lemmas.List.{get_or_default}
use Rattle.listing_text.specs.Outside.{numbered}
use Rattle.vpc_model.specs.declared.places.End.TheVariants as ends
use Rattle.end_reach.proofs.StartLemmas.{starts_more}
use Rattle.end_reach.specs.Asked.{is_far_start}
use Rattle.end_reach.proofs.starts.add_outside.Goals as goal

pub loop-far-preserved : goal.loop-far-preserved
loop-far-preserved c =
    let outside = c.args.outside.now in
    let k = c.loop-far.far-index in
    let far = get_or outside k (numbered 0) in
    starts_more ends.Far (is_far_start c.args.goal) outside k far c.loop-far-test.true c.args.starts.now.items c.loop-far.starts.items c.add_far.new.starts.items
    (get_or_default outside k (numbered 0) far c.loop-far-test.true) c.loop-far.invariant c.in_ok-add_far.ensures

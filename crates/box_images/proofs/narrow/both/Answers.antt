use Rattle.box_images.proofs.BodyLemmas.{bodies_meet}
use Rattle.box_images.proofs.NarrowLemmas.{told_by_both, told_by_first, told_by_second, value_if_some}
use Rattle.box_images.proofs.narrow.both.Goals as goal

pub returns-then-not-a : goal.returns-then-not-a
returns-then-not-a c few more part s t k l = told_by_first few more part s t c.args.a.now c.if-not-a.true k

pub returns-then-not-b : goal.returns-then-not-b
returns-then-not-b c few more part s t k l = told_by_second few more part s t c.args.b.now c.if-not-b.true l

pub unwrap-requires : goal.unwrap-requires
unwrap-requires c = bodies_meet c.meet.result c.args.a.now.body c.args.b.now.body c.requires.0 c.requires.1.0 c.requires.1.1 c.meet.ensures.none

pub returns : goal.returns
returns c few more part s t k l =
    told_by_both few more part c.unwrap.result s t c.args.a.now c.args.b.now c.if-not-a.false c.if-not-b.false
    (value_if_some c.meet.result c.unwrap.result _ c.unwrap.ensures c.meet.ensures.ranges) k l

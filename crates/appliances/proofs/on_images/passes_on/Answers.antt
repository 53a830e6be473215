use Rattle.appliances.proofs.OnImages.{box_decides, box_left}
use Rattle.appliances.proofs.on_images.passes_on.Goals as goal

pub returns-then-held : goal.returns-then-held
returns-then-held c =
    box_decides c.args.boxes.now c.args.i.now c.loop-b.rest c.loop-b.b-index _ c.box_on-held.result c.box_on.result c.loop-b-test.true c.if-held.true
    c.loop-b.invariant c.box_on-held.ensures c.box_on.ensures

pub loop-b-preserved : goal.loop-b-preserved
loop-b-preserved c =
    let next = c.within-rest.ensures in
    box_left c.args.boxes.now c.args.i.now c.loop-b.rest c.within-rest.result c.loop-b.b-index _ c.box_on-held.result c.loop-b-test.true c.if-held.false
    next.image next.valid next.kind c.loop-b.invariant c.box_on-held.ensures

use Rattle.std.proofs.Common.{true}
use Rattle.vpc_base.proofs.Members.{row_has}
use Rattle.image_tests.proofs.Trying.{any_passes, none_passes_yet, one_passes, trying_first, trying_last, trying_next}
use Rattle.box_steps.proofs.Delegated.{block_of_rest, block_test}
use Rattle.box_steps.proofs.hosts.blocks_on.Goals as goal
use Rattle.box_steps.specs.Hosts.{DivideBlocks}

pub loop-block-init : goal.loop-block-init
loop-block-init c =
    trying_first (DivideBlocks c.args.blocks.now) (any_passes (block_test c.args.side c.args.i.now)) c.args.blocks.now c.args.i.now c.requires.valid c.requires.walk

pub loop-block-preserved : goal.loop-block-preserved
loop-block-preserved c =
    let blocks = c.args.blocks.now in
    let i = c.args.i.now in
    let test = block_test c.args.side i in
    let k = c.loop-block.block-index in
    let rest = c.loop-block.rest in
    let block = c.block-item.result in
    let x = c.block_on-has.result in
    let has = row_has blocks k block c.loop-block-test.true c.block-item.is in
    trying_next (DivideBlocks blocks) (any_passes test blocks) (any_passes test) test (none_passes_yet test) blocks i k rest block x
    c.within-rest.result c.loop-block-test.true c.block-item.is c.if-has.false c.within-rest.ensures.image c.within-rest.ensures.valid c.within-rest.ensures.kind
    c.loop-block.invariant (block_of_rest blocks c.args.side i rest block x has c.loop-block.invariant.image c.block_on-has.ensures)

pub returns-then-has : goal.returns-then-has
returns-then-has c =
    let blocks = c.args.blocks.now in
    let i = c.args.i.now in
    let test = block_test c.args.side i in
    let k = c.loop-block.block-index in
    let rest = c.loop-block.rest in
    let block = c.block-item.result in
    let x = c.block_on-has.result in
    let has = row_has blocks k block c.loop-block-test.true c.block-item.is in
    trying_last (DivideBlocks blocks) (any_passes test blocks) (any_passes test) test blocks i k rest block x true
    (one_passes test block) c.loop-block-test.true c.block-item.is c.if-has.true
    c.loop-block.invariant (block_of_rest blocks c.args.side i rest block x has c.loop-block.invariant.image c.block_on-has.ensures)

use Rattle.image_tests.proofs.Trying.{IsTrying, any_passes}
use Rattle.box_steps.proofs.Delegated.{block_test}
use Rattle.box_steps.proofs.hosts.blocks_on.Given as goal
use Rattle.box_steps.specs.Hosts.{DivideBlocks}

abbrev pub invariant-loop-block : goal.invariant-loop-block
invariant-loop-block l =
    let passes = any_passes (block_test l.side l.i) in
    IsTrying (DivideBlocks l.blocks) (passes l.blocks) passes l.blocks l.i l.block-index l.rest

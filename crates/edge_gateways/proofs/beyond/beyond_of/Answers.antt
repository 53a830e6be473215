use Rattle.std.proofs.Common.{◌∙◌, ◌∷◌, [], List, ap, refl}
use Rattle.std.proofs.lemmas.Slice.{pushed}
use Rattle.vpc_base.proofs.Zips.{zip_next}
use Rattle.prefix_text.specs.Block.{Block}
use Rattle.vpc_model.specs.Far.{is_within}
use Rattle.edge_gateways.specs.FarBlocks.{HasBlocksBeyond}
use Rattle.edge_gateways.proofs.beyond.beyond_of.Goals as goal

pub loop-far-preserved : goal.loop-far-preserved
loop-far-preserved c =
    let d = c.args.n.now in
    let added = pushed (c.in_ok-of_blocks.field-0 ∷ []) refl c.in_ok-push.was c.push.ensures.items in
    let has : HasBlocksBeyond d c.far-item.result c.in_ok-of_blocks.field-0 = λ a. c.in_ok-of_blocks.ensures a ∙ ap (λ (bs : List Block). is_within bs a) c.blocks_beyond.ensures in
    zip_next (HasBlocksBeyond d) c.as_slice-fars.result.now c.loop-far.sets.items _ c.loop-far.far-index c.far-item.result c.in_ok-of_blocks.field-0 c.loop-far-test.true c.far-item.is c.loop-far.invariant has added

use Rattle.std.proofs.Common.{◌+◌, ◌∙◌, ◌∷◌, [], ap, arith, refl, subst, sym, take}
use Rattle.std.specs.List.{AllZip, list_any}
use Rattle.std.proofs.lemmas.Slice.{pushed}
use Rattle.vpc_base.proofs.Zips.{zip_more}
use Rattle.prefix_text.specs.Block.{holds}
use Rattle.edge_gateways.specs.Sides.{HasBlocksOf}
use Rattle.edge_gateways.proofs.blocks.blocks_of.Goals as goal

pub loop-vpc-preserved : goal.loop-vpc-preserved
loop-vpc-preserved c =
    let is = pushed (c.in_ok-of_blocks.field-0 ∷ []) refl c.in_ok-push.was c.push.ensures.items in
    let has : HasBlocksOf c.vpc-item.result c.in_ok-of_blocks.field-0 = λ a. c.in_ok-of_blocks.ensures a ∙ ap (list_any (holds a)) c.as_slice.ensures in
    let more = zip_more HasBlocksOf c.args.vpcs.now c.loop-vpc.blocks.items c.loop-vpc.vpc-index c.vpc-item.result c.in_ok-of_blocks.field-0 (omega arith) c.vpc-item.is c.loop-vpc.invariant has in
    subst (λ sets. AllZip HasBlocksOf (take (c.loop-vpc.vpc-index + 1) c.args.vpcs.now) sets) (sym is) more

use Rattle.std.proofs.Common.{◌∙◌, ap, arith}
use Rattle.std.specs.List.{list_any}
use Rattle.vpc_base.proofs.Zips.{zip_next}
use Rattle.prefix_text.specs.Block.{holds}
use Rattle.security_groups.specs.Members.{HasBlocksOf}
use Rattle.security_groups.proofs.delegated.sets_of.Goals as goal

pub loop-of_group-preserved : goal.loop-of_group-preserved
loop-of_group-preserved c =
    let has : HasBlocksOf c.of_group-item.result.items c.in_ok-of_blocks.field-0 = λ a. c.in_ok-of_blocks.ensures a ∙ ap (list_any (holds a)) c.as_slice.ensures.value in
    zip_next (λ b set. HasBlocksOf b.items set) c.args.blocks.now c.loop-of_group.sets.items c.push.new.self.items c.loop-of_group.of_group-index c.of_group-item.result c.in_ok-of_blocks.field-0 (omega arith) c.of_group-item.is c.loop-of_group.invariant has c.in_ok-push.ensures.items

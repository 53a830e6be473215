use Rattle.std.proofs.Common.{◌∙◌, ap, arith}
use Rattle.std.specs.List.{list_any}
use Rattle.vpc_base.proofs.Zips.{zip_next}
use Rattle.prefix_text.specs.Block.{holds}
use Rattle.security_groups.specs.Lists.{HasEntriesOf}
use Rattle.security_groups.proofs.lists.entries_of.Goals as goal

pub loop-list-preserved : goal.loop-list-preserved
loop-list-preserved c =
    let has : HasEntriesOf c.list-item.result c.in_ok-of_blocks.field-0 = λ a. c.in_ok-of_blocks.ensures a ∙ ap (list_any (holds a)) c.as_slice.ensures in
    zip_next HasEntriesOf c.args.lists.now c.loop-list.entries.items c.push.new.self.items c.loop-list.list-index c.list-item.result c.in_ok-of_blocks.field-0 (omega arith) c.list-item.is c.loop-list.invariant has c.in_ok-push.ensures.items

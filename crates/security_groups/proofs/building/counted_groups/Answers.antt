use Rattle.std.proofs.Common.{◌∙◌, ◌++◌, [], ap, arith, slice_index_or}
use Rattle.std.specs.Prelude.{option_to_list}
use Rattle.security_groups.specs.Resolved.{counted}
use Rattle.security_groups.proofs.Steps.{filter_map-next}
use Rattle.security_groups.proofs.building.counted_groups.Goals as goal

pub loop-id-preserved : goal.loop-id-preserved
loop-id-preserved c =
    filter_map-next (counted c.args.n.now c.args.dir (slice_index_or c.args.naming.now.vpcs.ids c.args.vpc [])) c.args.ids.now c.loop-id.id-index c.id-item.result c.loop-id.numbers.items c.push_some.new.numbers.items (omega arith) c.id-item.is c.loop-id.invariant
    (c.in_ok-push_some.ensures ∙ ap (λ o. c.loop-id.numbers.items ++ option_to_list o) c.counted.ensures)

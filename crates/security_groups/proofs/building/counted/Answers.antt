use Rattle.std.proofs.Common.{[], slice_index_or}
use Rattle.security_groups.proofs.Counting.{counted-by}
use Rattle.security_groups.proofs.building.counted.Goals as goal

pub returns-then-may_name : goal.returns-then-may_name
returns-then-may_name c =
    counted-by c.args.n.now c.args.dir (slice_index_or c.args.naming.now.vpcs.ids c.args.vpc []) c.args.id.now c.bytes.result.now c.in_ok-group.group c.may_name.result _ c.description.ensures.accepted
    c.bytes.ensures.value c.in_ok-group.ensures c.may_name.ensures c.if-may_name.true

pub returns-else-may_name : goal.returns-else-may_name
returns-else-may_name c =
    counted-by c.args.n.now c.args.dir (slice_index_or c.args.naming.now.vpcs.ids c.args.vpc []) c.args.id.now c.bytes.result.now c.in_ok-group.group c.may_name.result _ c.description.ensures.accepted
    c.bytes.ensures.value c.in_ok-group.ensures c.may_name.ensures c.if-may_name.false

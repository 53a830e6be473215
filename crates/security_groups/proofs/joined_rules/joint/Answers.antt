use Rattle.security_groups.proofs.Joining.{joint-made}
use Rattle.security_groups.proofs.joined_rules.joint.Goals as goal

pub returns : goal.returns
returns c =
    joint-made c.args.rules.now c.index-rules-0.result c.in_ok-runs.runs.items c.in_ok-blocks.blocks c.in_ok-lists.lists c.in_ok-groups.groups
    c.requires.some c.requires.alike c.index-rules-0.is c.in_ok-blocks.ensures c.in_ok-runs.ensures c.in_ok-lists.ensures c.in_ok-groups.ensures

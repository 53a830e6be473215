use Rattle.security_groups.proofs.GroupsOn.{one-allows}
use Rattle.security_groups.proofs.port_tables.PortTable.allowed_on.Goals as goal

pub returns-then-allowed : goal.returns-then-allowed
returns-then-allowed c =
    one-allows c.args.lists.now c.args.members.now c.args.dir c.args.self.now c.in_ok-number.number c.args.i.now c.in_ok-allowed.allowed
    c.in_ok-number.ensures.0 c.if-allowed.true c.in_ok-allowed.ensures

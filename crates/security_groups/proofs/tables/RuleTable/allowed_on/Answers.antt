use Rattle.security_groups.proofs.Joining.{same-allowed, same-found}
use Rattle.security_groups.proofs.tables.RuleTable.allowed_on.Goals as goal

pub returns-in-Some : goal.returns-in-Some
returns-in-Some c =
    same-allowed c.args.lists.now c.args.members.now c.args.dir c.self.inside.rules c.in-Some.joined c.args.self.now c.args.i.now c.allowed_on.result
    (same-found c.self.inside.rules c.in-Some.joined c.self.inside.joined c.in-Some.is c.self.invariant) c.self.view_is c.allowed_on.ensures

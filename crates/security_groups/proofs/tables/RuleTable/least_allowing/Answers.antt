use Rattle.std.proofs.Common.{◌∙◌, ap}
use Rattle.security_groups.specs.Asking.{least}
use Rattle.security_groups.specs.Rules.{allows}
use Rattle.security_groups.proofs.tables.RuleTable.least_allowing.Goals as goal

pub returns : goal.returns
returns c = c.least_allowing.ensures ∙ ap (least (allows c.args.lists.now c.args.members.now c.args.dir c.args.h.now)) c.self.view_is

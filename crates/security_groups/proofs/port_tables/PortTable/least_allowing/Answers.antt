use Rattle.std.proofs.Common.{◌∙◌}
use Rattle.security_groups.proofs.Runs.{least-begun}
use Rattle.security_groups.proofs.port_tables.PortTable.least_allowing.Goals as goal

pub returns : goal.returns
returns c = c.least_in_runs.ensures ∙ least-begun c.args.lists.now c.args.members.now c.args.dir c.args.h.now c.args.self.now c.begun.result.rules.now c.begun.ensures.rules

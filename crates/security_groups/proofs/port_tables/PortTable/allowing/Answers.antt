use Rattle.security_groups.proofs.Finding.{begun-finds}
use Rattle.security_groups.proofs.port_tables.PortTable.allowing.Goals as goal

pub returns : goal.returns
returns c = begun-finds c.args.lists.now c.args.members.now c.args.dir c.args.h.now c.args.self.now c.begun.result.rules.now _ c.begun.ensures.rules c.allowing_in_runs.ensures

use Rattle.security_groups.proofs.Runs.{run-rest}
use Rattle.security_groups.proofs.port_tables.run_of.Goals as goal

pub returns-then-rest-lt16 : goal.returns-then-rest-lt16
returns-then-rest-lt16 c = run-rest c.args.rules.now c.args.k c.if-rest-lt16.true

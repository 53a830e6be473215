use Rattle.std.proofs.Common.{refl}
use Rattle.vpc_commands.specs.Due as due
use Rattle.vpc_commands.proofs.commands.put_answer.Goals as goal

pub returns-in-Ok : goal.returns-in-Ok
returns-in-Ok g c = due.whole c.args.text.now (refl, refl) c.in-Ok.ensures.whole

pub returns-in-Err : goal.returns-in-Err
returns-in-Err g c = due.cut_short c.args.status c.args.text.now (refl, refl) c.in-Err.ensures.proper_prefix c.in-Err.ensures.failed_only_where_faults_rose refl

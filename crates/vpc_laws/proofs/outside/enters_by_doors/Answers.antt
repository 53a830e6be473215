use Rattle.vpc_laws.proofs.Beyond.{networks_enter_by_doors}
use Rattle.vpc_laws.proofs.outside.enters_by_doors.Goals as goal

pub returns : goal.returns
returns c = networks_enter_by_doors

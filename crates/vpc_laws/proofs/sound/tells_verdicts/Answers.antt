use Rattle.vpc_laws.proofs.Telling.{verdicts_are_told}
use Rattle.vpc_laws.proofs.sound.tells_verdicts.Goals as goal

pub returns : goal.returns
returns c = verdicts_are_told

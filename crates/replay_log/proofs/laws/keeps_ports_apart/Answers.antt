use Rattle.replay_log.proofs.Apart.{ports_stay_apart}
use Rattle.replay_log.proofs.laws.keeps_ports_apart.Goals as goal

pub returns : goal.returns
returns c = ports_stay_apart

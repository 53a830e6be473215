use Rattle.replay_laws.proofs.Interleaved.{answers_are_let_in, answers_are_to_opens}
use Rattle.replay_log.proofs.Apart.{ports_stay_apart}
use Rattle.replay_log.proofs.replay.Goals as goal

pub returns-clause-let_in : goal.returns-clause-let_in
returns-clause-let_in g c = answers_are_let_in c.args.f.now c.args.deciders.now.appliances c.args.events.now

pub returns-clause-to_opens : goal.returns-clause-to_opens
returns-clause-to_opens g c = answers_are_to_opens c.args.f.now c.args.deciders.now.appliances c.args.events.now

pub returns-clause-ports : goal.returns-clause-ports
returns-clause-ports g c = ports_stay_apart c.args.f.now c.args.deciders.now.appliances c.args.events.now

use Rattle.std.proofs.Common.{◌≡◌, ◌++◌, drop}
use Rattle.std.specs.List.{All}
use Rattle.replay_log.proofs.Replays.{outcomes_after}
use Rattle.vpc_laws.specs.Sound.{EndsWell}
use Rattle.vpc_model.specs.Replay.{replay_of}
use Rattle.replay_log.proofs.outcomes_of.Given as goal

abbrev pub invariant-loop-e : goal.invariant-loop-e
invariant-loop-e g l = record {
  rest : l.outcomes.items ++ outcomes_after l.f l.deciders.appliances l.session.conns l.session.nats (drop l.e-index l.events) ≡ replay_of l.f l.deciders.appliances l.events;
  told : All (EndsWell l.f) l.outcomes.items;
}

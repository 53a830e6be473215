use Rattle.std.proofs.Common.{List, subst, sym}
use Rattle.std.specs.List.{All}
use Rattle.vpc_laws.specs.Sound.{EndsWell}
use Rattle.vpc_laws.specs.Types.{Description, Outcome}
use Rattle.replay_log.proofs.ReplayLemmas.{answers_events}
use Rattle.replay_log.proofs.played.replay_with.Goals as goal

pub answer_outcomes-requires : goal.answer_outcomes-requires
answer_outcomes-requires g c =
    let told = subst (λ (outcomes : List Outcome). All (EndsWell c.args.fabric.now) outcomes) (sym c.as_slice.ensures.value) c.in_ok-outcomes.ensures.told in
    subst (λ (d : Description). All (EndsWell d) c.as_slice.result.now) (sym c.network.ensures) told

pub returns : goal.returns
returns g c =
    answers_events c.answer_outcomes.result c.args.fabric.now c.network.result.now c.args.events.now c.args.deciders.now.appliances c.in_ok-outcomes.outcomes.items c.as_slice.result.now
    c.network.ensures c.requires.appliances c.in_ok-outcomes.ensures.outcomes c.as_slice.ensures.value c.answer_outcomes.ensures.status c.answer_outcomes.ensures.text

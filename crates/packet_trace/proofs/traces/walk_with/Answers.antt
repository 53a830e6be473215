use Rattle.std.proofs.Common.{◌∙◌}
use Rattle.packet_trace.proofs.TraceLemmas.{answers_event, ends_in, hops_in}
use Rattle.packet_trace.proofs.traces.walk_with.Goals as goal

pub answer_walk-requires-clause-hops : goal.answer_walk-requires-clause-hops
answer_walk-requires-clause-hops g c =
    hops_in c.args.fabric.now c.network.result.now c.walk_event-outcome.new.hops.items c.as_slice.result.now c.network.ensures c.as_slice.ensures.value c.walk_event-outcome.ensures.sound

pub answer_walk-requires-clause-end : goal.answer_walk-requires-clause-end
answer_walk-requires-clause-end g c = ends_in c.args.fabric.now c.network.result.now c.walk_event-outcome.result c.network.ensures c.walk_event-outcome.ensures.end

pub returns : goal.returns
returns g c =
    answers_event c.answer_walk.result c.args.fabric.now c.network.result.now c.args.e.now c.as_slice.result.now c.walk_event-outcome.result c.network.ensures
    (c.as_slice.ensures.value ∙ c.walk_event-outcome.ensures.hops) c.walk_event-outcome.ensures.outcome c.answer_walk.ensures.status c.answer_walk.ensures.text

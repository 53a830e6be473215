use Rattle.std.proofs.Common.{◌∙◌, refl}
use Rattle.packet_trace.proofs.TraceLemmas.{hops_in}
use Rattle.walk_reasons.proofs.Answering.{answers_event}
use Rattle.walk_reasons.proofs.answer.explain.Goals as goal

pub answer_reasons-requires-clause-hops : goal.answer_reasons-requires-clause-hops
answer_reasons-requires-clause-hops g c =
    hops_in c.args.f.now c.args.f.now c.walk_event-outcome.new.hops.items c.as_slice.result.now refl c.as_slice.ensures.value c.walk_event-outcome.ensures.sound

pub returns : goal.returns
returns g c =
    answers_event c.answer_reasons.result c.args.f.now c.args.e.now c.as_slice.result.now c.walk_event-outcome.result
    (c.as_slice.ensures.value ∙ c.walk_event-outcome.ensures.hops) c.walk_event-outcome.ensures.outcome c.answer_reasons.ensures.status c.answer_reasons.ensures.text

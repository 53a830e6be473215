use Rattle.std.proofs.Common.{◌∙◌, ap}
use Rattle.packet_emulator.proofs.Verdicts.{walk_of-reply}
use Rattle.vpc_model.specs.Verdict.{alone, verdict_of_reply}
use Rattle.vpc_model.specs.Walk.{Walk}
use Rattle.packet_emulator.proofs.verdict.verdict_of_answer.Goals as goal

pub returns-clause-verdict : goal.returns-clause-verdict
returns-clause-verdict g c = λ request left.
    c.verdict_of_reply.ensures
    ∙ ap (verdict_of_reply (alone c.args.asked.now.start) c.args.asked.now.header.now)
    (c.walk-outcome.ensures.outcome ∙ ap (λ (w : Walk). w.outcome) (walk_of-reply c.args.asked.now.fabric.now c.args.deciders.now.appliances c.args.asked.now.goal c.args.answer request c.start_place-from.result _ _ c.start_place-from.ensures left.conns left.nats))

pub returns-clause-reply : goal.returns-clause-reply
returns-clause-reply g c = λ request left.
    c.walk-outcome.ensures.hops ∙ ap (λ (w : Walk). w.hops) (walk_of-reply c.args.asked.now.fabric.now c.args.deciders.now.appliances c.args.asked.now.goal c.args.answer request c.start_place-from.result _ _ c.start_place-from.ensures left.conns left.nats)

use Rattle.std.proofs.Common.{◌∙◌, ap, sym}
use Rattle.conn_tracking.specs.Tracked.{Tracked}
use Rattle.nat_gateway.specs.Book.{Book}
use Rattle.packet_emulator.proofs.Verdicts.{walk_of-request}
use Rattle.vpc_model.specs.Verdict.{alone, hops_after, request_walk, verdict_of_request}
use Rattle.vpc_model.specs.Walk.{Walk}
use Rattle.packet_emulator.proofs.verdict.both.Goals as goal

pub returns-in-Stopped-clause-verdict : goal.returns-in-Stopped-clause-verdict
returns-in-Stopped-clause-verdict g c =
    let walk = (walk_of-request c.args.f.now c.args.deciders.now.appliances c.args.start c.args.h c.start_place-from.result _ _ c.start_place-from.ensures (ap (λ (t : Tracked). t.conns) c.new.ensures) (ap (λ (b : Book). b.entries) c.new-2.ensures)) in
    sym (ap (verdict_of_request c.args.f.now c.args.deciders.now.appliances (alone c.args.start) c.args.goal c.args.h (request_walk c.args.f.now c.args.deciders.now.appliances c.args.start c.args.h)) (sym (ap (λ (w : Walk). w.outcome) walk) ∙ (sym c.walk.ensures.outcome ∙ c.in-Stopped.is)))

pub returns-in-Stopped-clause-request : goal.returns-in-Stopped-clause-request
returns-in-Stopped-clause-request g c = c.walk.ensures.hops ∙ ap (λ (w : Walk). w.hops) (walk_of-request c.args.f.now c.args.deciders.now.appliances c.args.start c.args.h c.start_place-from.result _ _ c.start_place-from.ensures (ap (λ (t : Tracked). t.conns) c.new.ensures) (ap (λ (b : Book). b.entries) c.new-2.ensures))

pub returns-in-Stopped-clause-reply : goal.returns-in-Stopped-clause-reply
returns-in-Stopped-clause-reply g c =
    let walk = (walk_of-request c.args.f.now c.args.deciders.now.appliances c.args.start c.args.h c.start_place-from.result _ _ c.start_place-from.ensures (ap (λ (t : Tracked). t.conns) c.new.ensures) (ap (λ (b : Book). b.entries) c.new-2.ensures)) in
    c.requires.reply ∙ sym (ap (hops_after c.args.f.now c.args.deciders.now.appliances c.args.goal (request_walk c.args.f.now c.args.deciders.now.appliances c.args.start c.args.h)) (sym (ap (λ (w : Walk). w.outcome) walk) ∙ (sym c.walk.ensures.outcome ∙ c.in-Stopped.is)))

pub returns-in-Arrived-clause-verdict : goal.returns-in-Arrived-clause-verdict
returns-in-Arrived-clause-verdict g c =
    let walk = (walk_of-request c.args.f.now c.args.deciders.now.appliances c.args.start c.args.h c.start_place-from.result _ _ c.start_place-from.ensures (ap (λ (t : Tracked). t.conns) c.new.ensures) (ap (λ (b : Book). b.entries) c.new-2.ensures)) in
    c.verdict_of_arrival.ensures.verdict (request_walk c.args.f.now c.args.deciders.now.appliances c.args.start c.args.h) (record { conns = sym (c.walk.ensures.conns ∙ ap (λ (w : Walk). w.conns) walk); nats = sym (c.walk.ensures.nats ∙ ap (λ (w : Walk). w.nats) walk) })
    ∙ sym (ap (verdict_of_request c.args.f.now c.args.deciders.now.appliances (alone c.args.start) c.args.goal c.args.h (request_walk c.args.f.now c.args.deciders.now.appliances c.args.start c.args.h)) (sym (ap (λ (w : Walk). w.outcome) walk) ∙ (sym c.walk.ensures.outcome ∙ c.in-Arrived.is)))

pub returns-in-Arrived-clause-request : goal.returns-in-Arrived-clause-request
returns-in-Arrived-clause-request g c = c.walk.ensures.hops ∙ ap (λ (w : Walk). w.hops) (walk_of-request c.args.f.now c.args.deciders.now.appliances c.args.start c.args.h c.start_place-from.result _ _ c.start_place-from.ensures (ap (λ (t : Tracked). t.conns) c.new.ensures) (ap (λ (b : Book). b.entries) c.new-2.ensures))

pub returns-in-Arrived-clause-reply : goal.returns-in-Arrived-clause-reply
returns-in-Arrived-clause-reply g c =
    let walk = (walk_of-request c.args.f.now c.args.deciders.now.appliances c.args.start c.args.h c.start_place-from.result _ _ c.start_place-from.ensures (ap (λ (t : Tracked). t.conns) c.new.ensures) (ap (λ (b : Book). b.entries) c.new-2.ensures)) in
    c.verdict_of_arrival.ensures.reply (request_walk c.args.f.now c.args.deciders.now.appliances c.args.start c.args.h) (record { conns = sym (c.walk.ensures.conns ∙ ap (λ (w : Walk). w.conns) walk); nats = sym (c.walk.ensures.nats ∙ ap (λ (w : Walk). w.nats) walk) })
    ∙ sym (ap (hops_after c.args.f.now c.args.deciders.now.appliances c.args.goal (request_walk c.args.f.now c.args.deciders.now.appliances c.args.start c.args.h)) (sym (ap (λ (w : Walk). w.outcome) walk) ∙ (sym c.walk.ensures.outcome ∙ c.in-Arrived.is)))

use Rattle.std.proofs.Common.{◌∙◌, ap}
use Rattle.packet_emulator.proofs.Sessions.{walk-ends_well, walk-keeps_book, walk_of-event}
use Rattle.packet_emulator.specs.Session.{Remembered}
use Rattle.vpc_model.specs.Walk.{Walk}
use Rattle.packet_emulator.proofs.session.Session.forward.Goals as goal

pub invariant_of-self-2 : goal.invariant_of-self-2
invariant_of-self-2 g c =
    let e = c.args.e.now in
    walk-keeps_book c.args.f.now c.args.deciders.now.appliances e.label c.start_place-place.result e.header _ c.self.inside.nats.entries _ _ c.fits.ensures
    c.reserve-2.ensures.entries c.self.invariant c.walk-outcome.ensures.nats

pub returns-clause-outcome : goal.returns-clause-outcome
returns-clause-outcome g c =
    c.walk-outcome.ensures.outcome
    ∙ ap (λ (w : Walk). w.outcome)
    (walk_of-event c.args.f.now c.args.deciders.now.appliances c.args.e.now c.start_place-place.result _ _ c.args.self.now c.start_place-place.ensures
    (c.reserve.ensures.conns ∙ ap (λ (r : Remembered). r.conns) c.self.view_is) (c.reserve-2.ensures.entries ∙ ap (λ (r : Remembered). r.nats) c.self.view_is))

pub returns-clause-conns : goal.returns-clause-conns
returns-clause-conns g c =
    c.walk-outcome.ensures.conns
    ∙ ap (λ (w : Walk). w.conns)
    (walk_of-event c.args.f.now c.args.deciders.now.appliances c.args.e.now c.start_place-place.result _ _ c.args.self.now c.start_place-place.ensures
    (c.reserve.ensures.conns ∙ ap (λ (r : Remembered). r.conns) c.self.view_is) (c.reserve-2.ensures.entries ∙ ap (λ (r : Remembered). r.nats) c.self.view_is))

pub returns-clause-nats : goal.returns-clause-nats
returns-clause-nats g c =
    c.walk-outcome.ensures.nats
    ∙ ap (λ (w : Walk). w.nats)
    (walk_of-event c.args.f.now c.args.deciders.now.appliances c.args.e.now c.start_place-place.result _ _ c.args.self.now c.start_place-place.ensures
    (c.reserve.ensures.conns ∙ ap (λ (r : Remembered). r.conns) c.self.view_is) (c.reserve-2.ensures.entries ∙ ap (λ (r : Remembered). r.nats) c.self.view_is))

pub returns-clause-ports : goal.returns-clause-ports
returns-clause-ports g c =
    let e = c.args.e.now in
    (walk-keeps_book c.args.f.now c.args.deciders.now.appliances e.label c.start_place-place.result e.header _ c.self.inside.nats.entries _ _ c.fits.ensures
    c.reserve-2.ensures.entries c.self.invariant c.walk-outcome.ensures.nats).apart

pub returns-clause-told : goal.returns-clause-told
returns-clause-told g c =
    let e = c.args.e.now in
    walk-ends_well c.args.f.now c.network.result.now c.args.deciders.now.appliances e.label e.start c.start_place-place.result e.header _ _ c.walk-outcome.result
    c.network.ensures c.description.ensures.accepted c.start_place-place.ensures c.requires.start c.walk-outcome.ensures.outcome

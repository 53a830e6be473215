use Rattle.std.proofs.Common.{◌∙◌, ap, refl}
use Rattle.packet_emulator.proofs.Walking.{leads-on, walk_of-first}
use Rattle.packet_emulator.specs.Comes.{comes}
use Rattle.vpc_model.specs.Step.Words.{go}
use Rattle.vpc_model.specs.Walk.{Walk}
use Rattle.packet_emulator.proofs.walks.walk.Goals as goal

pub walk_on-requires-clause-next : goal.walk_on-requires-clause-next
walk_on-requires-clause-next g c =
    leads-on c.args.f.now c.network-n.result.now c.args.deciders.now.appliances c.args.label c.args.h c.args.start (go c.args.start c.args.h) (comes c.step-next.result.0) _ _ c.network-n.ensures c.description.ensures.accepted c.requires.start refl c.step-next.ensures.next

pub returns-clause-outcome : goal.returns-clause-outcome
returns-clause-outcome g c =
    let step = c.step-next.ensures in
    c.walk_on.ensures.outcome
    ∙ ap (λ (w : Walk). w.outcome)
    (walk_of-first c.args.f.now c.args.deciders.now.appliances c.args.label c.args.h c.args.start c.args.hops.now.items c.push.new.self.items (comes c.step-next.result.0) _ _ _ _ c.step-next.result.1
    c.requires.empty step.next step.by step.conns step.nats c.push.ensures.items)

pub returns-clause-hops : goal.returns-clause-hops
returns-clause-hops g c =
    let step = c.step-next.ensures in
    c.walk_on.ensures.hops
    ∙ ap (λ (w : Walk). w.hops)
    (walk_of-first c.args.f.now c.args.deciders.now.appliances c.args.label c.args.h c.args.start c.args.hops.now.items c.push.new.self.items (comes c.step-next.result.0) _ _ _ _ c.step-next.result.1
    c.requires.empty step.next step.by step.conns step.nats c.push.ensures.items)

pub returns-clause-conns : goal.returns-clause-conns
returns-clause-conns g c =
    let step = c.step-next.ensures in
    c.walk_on.ensures.conns
    ∙ ap (λ (w : Walk). w.conns)
    (walk_of-first c.args.f.now c.args.deciders.now.appliances c.args.label c.args.h c.args.start c.args.hops.now.items c.push.new.self.items (comes c.step-next.result.0) _ _ _ _ c.step-next.result.1
    c.requires.empty step.next step.by step.conns step.nats c.push.ensures.items)

pub returns-clause-nats : goal.returns-clause-nats
returns-clause-nats g c =
    let step = c.step-next.ensures in
    c.walk_on.ensures.nats
    ∙ ap (λ (w : Walk). w.nats)
    (walk_of-first c.args.f.now c.args.deciders.now.appliances c.args.label c.args.h c.args.start c.args.hops.now.items c.push.new.self.items (comes c.step-next.result.0) _ _ _ _ c.step-next.result.1
    c.requires.empty step.next step.by step.conns step.nats c.push.ensures.items)

use Rattle.std.proofs.Common.{◌∙◌, ap, sym}
use Rattle.packet_emulator.proofs.Steps.{internet-plain, nat_out-unasked, nats-into, nats-out}
use Rattle.vpc_model.specs.Step.Words.{Step}
use Rattle.packet_emulator.proofs.step.step.Goals as goal

pub returns-in-OutOf-clause-nats : goal.returns-in-OutOf-clause-nats
returns-in-OutOf-clause-nats g c = sym (nats-out c.args.f.now c.args.deciders.now.appliances c.args.label c.in-OutOf.i c.args.place c.args.h.now _ _ c.in-OutOf.is)

pub returns-in-Into-clause-nats : goal.returns-in-Into-clause-nats
returns-in-Into-clause-nats g c = sym (nats-into c.args.f.now c.args.deciders.now.appliances c.args.label c.in-Into.i c.args.place c.args.h.now _ _ c.in-Into.is)

pub returns-in-Internet-clause-next : goal.returns-in-Internet-clause-next
returns-in-Internet-clause-next g c = c.internet.ensures ∙ sym (ap (λ (s : Step). s.next) (internet-plain c.args.f.now c.args.deciders.now.appliances c.args.label c.args.place c.args.h.now _ _ c.in-Internet.is))

pub returns-in-Internet-clause-by : goal.returns-in-Internet-clause-by
returns-in-Internet-clause-by g c = sym (ap (λ (s : Step). s.by) (internet-plain c.args.f.now c.args.deciders.now.appliances c.args.label c.args.place c.args.h.now _ _ c.in-Internet.is))

pub returns-in-Internet-clause-conns : goal.returns-in-Internet-clause-conns
returns-in-Internet-clause-conns g c = sym (ap (λ (s : Step). s.conns) (internet-plain c.args.f.now c.args.deciders.now.appliances c.args.label c.args.place c.args.h.now _ _ c.in-Internet.is))

pub returns-in-Internet-clause-nats : goal.returns-in-Internet-clause-nats
returns-in-Internet-clause-nats g c = sym (ap (λ (s : Step). s.nats) (internet-plain c.args.f.now c.args.deciders.now.appliances c.args.label c.args.place c.args.h.now _ _ c.in-Internet.is))

pub returns-in-NatOut-clause-by : goal.returns-in-NatOut-clause-by
returns-in-NatOut-clause-by g c = sym (nat_out-unasked c.args.f.now c.args.deciders.now.appliances c.args.label c.in-NatOut.n c.args.place c.args.h.now _ _ c.in-NatOut.is).0

pub returns-in-NatOut-clause-conns : goal.returns-in-NatOut-clause-conns
returns-in-NatOut-clause-conns g c = sym (nat_out-unasked c.args.f.now c.args.deciders.now.appliances c.args.label c.in-NatOut.n c.args.place c.args.h.now _ _ c.in-NatOut.is).1

use Rattle.std.proofs.Common.{◌∙◌, ap, sym}
use Rattle.vpc_laws.specs.Types.{Interface}
use Rattle.vpc_model.specs.Lookup.{has_address}
use Rattle.appliances.proofs.Forwarding.{boxes_at-number, taken_in-drops, taken_in-none, taken_in-own, taken_in-passes}
use Rattle.packet_emulator.proofs.interface.taken_in.Goals as goal

pub returns-in_default : goal.returns-in_default
returns-in_default g c = taken_in-none c.args.f.now c.args.deciders.now.appliances c.args.i c.args.h.now (sym c.in_default.is ∙ c.number.ensures)

pub passes-requires : goal.passes-requires
passes-requires g c = (boxes_at-number c.args.deciders.now.appliances c.args.i c.in-Some.k (sym c.in-Some.is ∙ c.number.ensures)).0

pub returns-then-has_address : goal.returns-then-has_address
returns-then-has_address g c = taken_in-own c.args.f.now c.args.deciders.now.appliances c.args.i c.args.h.now c.in-Some.k (sym c.in-Some.is ∙ c.number.ensures) (ap (λ (e : Interface). has_address e c.args.h.now.dst) (sym c.interface_at.ensures) ∙ (sym c.has_address.ensures ∙ c.if-has_address.true))

pub returns-then-passes : goal.returns-then-passes
returns-then-passes g c = taken_in-passes c.args.f.now c.args.deciders.now.appliances c.args.i c.args.h.now c.in-Some.k (sym c.in-Some.is ∙ c.number.ensures) (ap (λ (e : Interface). has_address e c.args.h.now.dst) (sym c.interface_at.ensures) ∙ (sym c.has_address.ensures ∙ c.if-has_address.false)) (sym c.passes.ensures ∙ c.if-passes.true)

pub returns-else-passes : goal.returns-else-passes
returns-else-passes g c = taken_in-drops c.args.f.now c.args.deciders.now.appliances c.args.i c.args.h.now c.in-Some.k (sym c.in-Some.is ∙ c.number.ensures) (ap (λ (e : Interface). has_address e c.args.h.now.dst) (sym c.interface_at.ensures) ∙ (sym c.has_address.ensures ∙ c.if-has_address.false)) (sym c.passes.ensures ∙ c.if-passes.false)

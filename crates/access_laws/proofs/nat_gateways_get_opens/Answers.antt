use Rattle.std.proofs.Common.{ap, inl, inr, sym, ◌∙◌}
use Rattle.vpc_base.specs.declared.headers.Label.TheVariants as labels
use Rattle.vpc_laws.specs.Types.{Place}
use Rattle.vpc_model.specs.Terms.{step_at}
use Rattle.vpc_model.specs.declared.stops.Stop.TheVariants as stops
use Rattle.access_laws.proofs.Shutting.{came-owned, handed-over}
use Rattle.access_laws.proofs.nat_gateways_get_opens.Goals as goal

pub returns : goal.returns
returns c = λ d appliances v sent came inside accepted have is next at.
    let first = sym (ap (λ (p : Place). (step_at d appliances labels.Opening p came).next) is.to) ∙ next in
    let handed = handed-over d v came.header inside.header have (came-owned d appliances labels.Opening v sent came accepted is) first in
    let then = ap (λ (p : Place). (step_at d appliances labels.Opening p inside).next) at in
    elim handed [
      | inl ends ↦ inl (record { by = ends.by; stops_there = then ∙ ends.stops_there })
      | inr (inl over) ↦
          inr (inl (over.0, then ∙ over.1, λ m there. record { by = stops.NatUnsolicited over.0; stops_there = ap (λ (p : Place). (step_at d appliances labels.Opening p m).next) there }))
      | inr (inr by) ↦ inr (inr (record { table = by.table; box = by.box; of_gateway = by.of_gateway; is_box = by.is_box; sends = then ∙ by.sends }))
    ]

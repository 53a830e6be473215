use Rattle.std.proofs.Common.{◌∙◌, ap, sym}
use Rattle.vpc_laws.specs.Types.{Description}
use Rattle.vpc_model.specs.Lookup.{gateway_of}
use Rattle.vpc_model.specs.Step.Router.{is_attached, to_internet}
use Rattle.vpc_model.specs.declared.places.Place.TheVariants as places
use Rattle.box_steps.proofs.TargetAnswers.{answers_leaving, to_internet-attached}
use Rattle.box_steps.proofs.router.to_internet_on.Goals as goal

pub returns-then-is_attached : goal.returns-then-is_attached
returns-then-is_attached c =
    let d = c.args.f.now in
    let s = c.args.s in
    let v = c.args.v in
    let g = c.args.g in
    let attached = c.is_attached.ensures ∙ ap (is_attached g) (c.gateway_of.ensures ∙ ap (λ (n : Description). gateway_of n v) c.network.ensures) in
    answers_leaving d s (places.IgwOut v) (λ h. to_internet d s h g) c.args.i.now c.leaving_on.result c.unless_stopped_on.result c.unless_stopped_on.ensures
    (λ h. to_internet-attached d s v g h c.requires.own (sym attached ∙ c.if-is_attached.true)) c.leaving_on.ensures

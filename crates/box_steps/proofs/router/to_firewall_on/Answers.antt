use Rattle.std.proofs.Common.{◌≡◌, ◌∙◌, Option, Some, refl, subst, sym}
use Rattle.box_images.specs.Answers.{Answers}
use Rattle.box_images.specs.Images.{header_at}
use Rattle.vpc_laws.specs.Types.{FirewallNo, SubnetNo}
use Rattle.vpc_model.specs.Firewalls.{firewall_of}
use Rattle.vpc_model.specs.Step.Crossing.{crossing}
use Rattle.vpc_model.specs.Step.Inspect.{firewall_subnet}
use Rattle.vpc_model.specs.Step.Router.{to_firewall}
use Rattle.vpc_model.specs.Step.Words.{go}
use Rattle.vpc_model.specs.declared.places.Place.TheVariants as places
use Rattle.box_steps.proofs.Going.{goes_on}
use Rattle.box_steps.proofs.router.to_firewall_on.Goals as goal
use Rattle.box_steps.specs.Cuts.{Standing}
use Rattle.box_steps.specs.Onward.{onward_of}

pub returns-in-Some : goal.returns-in-Some
returns-in-Some c =
    let d = c.args.f.now in
    let s = c.args.s in
    let i = c.args.i.now in
    let e = c.in-Some.e in
    let found : firewall_of d c.args.v c.args.id.now ≡ Some e = sym c.firewall_of.ensures.number ∙ c.in-Some.is in
    subst (λ (o : Option FirewallNo). Answers (Standing d) (λ h. onward_of (to_firewall d s (header_at i h) c.args.t c.args.k o)) i.part c.unless_stopped_on.result) (sym found)
    (goes_on (Standing d) (λ h. crossing d s (firewall_subnet d e) (header_at i h)) (λ h. go (places.Inspect e) (header_at i h)) i.part
    c.crossing_on-crossed.result _ c.unless_stopped_on.result c.unless_stopped_on.ensures (λ h. refl)
    (subst (λ (t : SubnetNo). Answers (Standing d) (λ h. crossing d s t (header_at i h)) i.part c.crossing_on-crossed.result) c.firewall_subnet.ensures.number c.crossing_on-crossed.ensures))

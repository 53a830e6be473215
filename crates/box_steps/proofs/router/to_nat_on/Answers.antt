use Rattle.std.proofs.Common.{◌∙◌, ap, refl, subst, sym}
use Rattle.box_images.specs.Answers.{Answers}
use Rattle.box_images.specs.Images.{header_at}
use Rattle.vpc_laws.specs.Types.{NatGateway, NatLife, SubnetNo}
use Rattle.vpc_model.specs.Lookup.{subnet_no}
use Rattle.vpc_model.specs.Step.Crossing.{crossing}
use Rattle.vpc_model.specs.Step.Nat.{own_subnet}
use Rattle.vpc_model.specs.Step.Router.{to_nat}
use Rattle.vpc_model.specs.Step.Words.{go}
use Rattle.vpc_model.specs.declared.places.Place.TheVariants as places
use Rattle.box_steps.proofs.Going.{goes_on}
use Rattle.box_steps.proofs.router.to_nat_on.Goals as goal
use Rattle.box_steps.specs.Cuts.{Standing}
use Rattle.box_steps.specs.Onward.{onward_of}

pub returns-in-Live : goal.returns-in-Live
returns-in-Live c =
    let d = c.args.f.now in
    let s = c.args.s in
    let n = c.args.n in
    let i = c.args.i.now in
    let t = subnet_no d c.in-Live.subnet in
    let life = ap (λ (r : NatGateway). r.life) (sym c.nat_at.ensures) ∙ c.in-Live.is in
    subst (λ (l : NatLife). Answers (Standing d) (λ h. onward_of (to_nat d s (header_at i h) n l)) i.part c.unless_stopped_on.result) (sym life)
    (goes_on (Standing d) (λ h. crossing d s t (header_at i h)) (λ h. go (places.NatOut n) (header_at i h)) i.part
    c.crossing_on.result _ c.unless_stopped_on.result c.unless_stopped_on.ensures (λ h. refl)
    (subst (λ (u : SubnetNo). Answers (Standing d) (λ h. crossing d s u (header_at i h)) i.part c.crossing_on.result)
    (c.nat_subnet-t.ensures.number ∙ ap (λ (l : NatLife). subnet_no d (own_subnet l)) life) c.crossing_on.ensures))

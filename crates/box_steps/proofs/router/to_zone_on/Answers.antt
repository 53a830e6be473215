use Rattle.std.proofs.Common.{Option, refl, subst, sym}
use Rattle.box_images.specs.Answers.{Answers}
use Rattle.box_images.specs.Images.{header_at}
use Rattle.vpc_laws.specs.Types.{SubnetNo}
use Rattle.vpc_model.specs.Choice.{or_else}
use Rattle.vpc_model.specs.Step.Crossing.{entering, leaving}
use Rattle.vpc_model.specs.Step.Router.{to_zone}
use Rattle.vpc_model.specs.Step.Words.{go}
use Rattle.vpc_model.specs.declared.places.Place.TheVariants as places
use Rattle.box_steps.proofs.Going.{goes_on}
use Rattle.box_steps.proofs.router.to_zone_on.Goals as goal
use Rattle.box_steps.specs.Cuts.{Standing}
use Rattle.box_steps.specs.Onward.{onward_of}

pub returns-in-Some : goal.returns-in-Some
returns-in-Some c =
    let d = c.args.f.now in
    let s = c.args.s in
    let a = c.args.a in
    let i = c.args.i.now in
    let t = c.in-Some.t in
    subst (λ (o : Option SubnetNo). Answers (Standing d) (λ h. onward_of (to_zone d s (header_at i h) a o)) i.part c.unless_stopped_on.result) (sym c.in-Some.is)
    (goes_on (Standing d) (λ h. or_else (leaving d s (header_at i h)) (entering d t (header_at i h))) (λ h. go (places.Tgw a t) (header_at i h)) i.part
    c.between_on.result _ c.unless_stopped_on.result c.unless_stopped_on.ensures (λ h. refl) c.between_on.ensures)

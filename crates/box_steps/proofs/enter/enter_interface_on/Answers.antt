use Rattle.std.proofs.Common.{cond, subst}
use Rattle.box_images.specs.Answers.{Answers}
use Rattle.box_images.specs.Images.{header_at}
use Rattle.vpc_laws.specs.Types.{SubnetNo}
use Rattle.vpc_model.specs.Lookup.{interface_at, subnet_of}
use Rattle.vpc_model.specs.Step.Crossing.{entering, is_gateway}
use Rattle.vpc_model.specs.Step.Words.{go, stop}
use Rattle.vpc_model.specs.declared.places.Place.TheVariants as places
use Rattle.vpc_model.specs.declared.stops.Stop.TheVariants as stops
use Rattle.box_steps.proofs.Going.{goes_on}
use Rattle.box_steps.proofs.enter.enter_interface_on.Goals as goal
use Rattle.box_steps.specs.Cuts.{Standing}

pub returns : goal.returns
returns c =
    let d = c.args.f.now in
    let i = c.args.i.now in
    let e = c.args.e in
    goes_on (Standing d) (λ h. entering d (subnet_of d e) (header_at i h))
    (λ h. cond (is_gateway (interface_at d e).kind) (stop (stops.NotAHost e)) (go (places.Into e) (header_at i h))) i.part
    c.entering_on.result c.into_host.result c.unless_stopped_on.result c.unless_stopped_on.ensures (λ h. c.into_host.ensures (header_at i h))
    (subst (λ (t : SubnetNo). Answers (Standing d) (λ h. entering d t (header_at i h)) i.part c.entering_on.result) c.subnet_of.ensures.number c.entering_on.ensures)

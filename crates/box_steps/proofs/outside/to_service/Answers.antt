use Rattle.std.proofs.Common.{◌≡◌, IfSome, Option, refl, subst, sym, true}
use Rattle.box_images.specs.Answers.{Answers}
use Rattle.box_images.specs.Images.{header_at}
use Rattle.vpc_laws.specs.Types.{VpcNo}
use Rattle.vpc_model.specs.Peerings.{has_block}
use Rattle.vpc_model.specs.Sound.{is_vpc}
use Rattle.vpc_model.specs.Step.Far.{to_service}
use Rattle.vpc_model.specs.Step.Words.{arrive}
use Rattle.vpc_model.specs.declared.places.End.TheVariants as ends
use Rattle.vpc_model.specs.declared.stops.Stop.TheVariants as stops
use Rattle.box_steps.proofs.Going.{goes_if}
use Rattle.box_steps.proofs.outside.to_service.Goals as goal
use Rattle.box_steps.specs.Cuts.{Standing}
use Rattle.box_steps.specs.Onward.{onward_of}
use Rattle.box_steps.specs.declared.onward.Onward.TheVariants as onwards

pub returns : goal.returns
returns c =
    let d = c.args.f.now in
    let k = c.args.k in
    let i = c.args.i.now in
    let v = c.in-Some.v in
    subst (λ (o : Option VpcNo). Answers (Standing d) (λ h. onward_of (to_service d k (header_at i h) o)) i.part c.onward_if.result) (sym c.in-Some.is)
    (goes_if (Standing d) (λ h. has_block d v (header_at i h).src) (λ h. arrive (ends.Far k)) i.part c.is_inside_on-source.result (onwards.Arrive (ends.Far k)) (stops.FarSource k) c.onward_if.result c.onward_if.ensures
    (λ h. refl) (c.is_inside_on-source.ensures d c.edges.ensures (subst (λ (o : Option VpcNo). IfSome o (λ w. is_vpc d w ≡ true)) c.in-Some.is c.requires.beside)))

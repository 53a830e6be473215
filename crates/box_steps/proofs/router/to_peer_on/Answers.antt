use Rattle.std.proofs.Common.{◌≡◌, ◌∙◌, Option, ap, false, is_some, sym, true}
use Rattle.fabric.proofs.Peered.{far-is_some}
use Rattle.fabric.specs.Sites.{far_vpc}
use Rattle.vpc_laws.specs.Types.{Peering, VpcNo}
use Rattle.vpc_model.specs.Far.{far_end_of_id}
use Rattle.vpc_model.specs.Lookup.{has_vpc, peering_at, vpc_at}
use Rattle.vpc_model.specs.Peerings.{other_side}
use Rattle.vpc_model.specs.Step.Router.{to_half_peering, to_peer}
use Rattle.vpc_model.specs.declared.places.Place.TheVariants as places
use Rattle.box_images.specs.Images.{header_at}
use Rattle.image_tests.proofs.Answering.{answers_same}
use Rattle.box_steps.proofs.TargetAnswers.{answers_leaving, to_peer-described, to_peer-half}
use Rattle.box_steps.specs.Cuts.{Standing}
use Rattle.box_steps.specs.Onward.{onward_of}
use Rattle.box_steps.proofs.router.to_peer_on.Goals as goal

pub returns-in-Some-far_vpc : goal.returns-in-Some-far_vpc
returns-in-Some-far_vpc c =
    let d = c.args.f.now in
    let s = c.args.s in
    let v = c.args.v in
    let x = c.args.x in
    let pair = c.in-Some.field-0 in
    let active = ap (λ (r : Peering). r.pair) (sym c.peering_at.ensures) ∙ c.in-Some.is in
    let described : has_vpc d (other_side (vpc_at d v).id pair) ≡ true =
    sym (far-is_some d v pair) ∙ ap (λ (o : Option VpcNo). is_some o) (sym (c.far_vpc.ensures ∙ ap (far_vpc d v) active) ∙ c.in-Some-far_vpc.is) in
    answers_leaving d s (places.Peer x v) (λ h. to_peer d s h x (peering_at d x).pair) c.args.i.now c.leaving_on.result c.unless_stopped_on.result c.unless_stopped_on.ensures
    (λ h. to_peer-described d s v x pair (peering_at d x).pair h c.requires.own active described)
    c.leaving_on.ensures

pub returns-in-None : goal.returns-in-None
returns-in-None c =
    let d = c.args.f.now in
    let s = c.args.s in
    let v = c.args.v in
    let x = c.args.x in
    let pair = c.in-Some.field-0 in
    let active = ap (λ (r : Peering). r.pair) (sym c.peering_at.ensures) ∙ c.in-Some.is in
    let none : has_vpc d (other_side (vpc_at d v).id pair) ≡ false =
    sym (far-is_some d v pair) ∙ ap (λ (o : Option VpcNo). is_some o) (sym (c.far_vpc.ensures ∙ ap (far_vpc d v) active) ∙ c.in-None.is) in
    answers_same (Standing d) (λ h. onward_of (to_half_peering d s (header_at c.args.i.now h) x (far_end_of_id d (peering_at d x).id)))
    (λ h. onward_of (to_peer d s (header_at c.args.i.now h) x (peering_at d x).pair)) c.args.i.now.part c.to_half_peering_on.result
    (λ h. ap onward_of (to_peer-half d s v x pair (peering_at d x).pair (header_at c.args.i.now h) c.requires.own active none)) c.to_half_peering_on.ensures

-- What peerings with networks that aren't described answer for all headers of a body.
use Rattle.std.proofs.Common.{◌≡◌, ◌∙◌, Bool, Some, ap, cond, false, not, refl, subst, sym, true}
use Rattle.box_images.specs.Answers.{Answers}
use Rattle.box_images.specs.Images.{header_at}
use Rattle.box_images.specs.declared.images.Image.{Image}
use Rattle.box_images.specs.declared.images.Part.{Part}
use Rattle.header_boxes.specs.Boxes.{IsValid}
use Rattle.image_tests.proofs.Answering.{answers_same}
use Rattle.vpc_base.specs.declared.headers.Header.{Header}
use Rattle.vpc_laws.specs.Types.{Description, Far, FarNo, PeerNo, VpcNo}
use Rattle.vpc_model.specs.Far.{blocks_beyond, is_within, peering_to, vpc_beside}
use Rattle.vpc_model.specs.Lookup.{far_at}
use Rattle.vpc_model.specs.Peerings.{has_block}
use Rattle.vpc_model.specs.Step.Far.{in_by_peering, over_half_peering}
use Rattle.vpc_model.specs.Step.Words.{Next, arrive, go, stop}
use Rattle.vpc_model.specs.declared.places.End.TheVariants as ends
use Rattle.vpc_model.specs.declared.places.EnterBy.TheVariants as through
use Rattle.vpc_model.specs.declared.places.Place.TheVariants as places
use Rattle.vpc_model.specs.declared.stops.Stop.TheVariants as stops
use Rattle.box_steps.proofs.Going.{goes_if}
use Rattle.box_steps.proofs.Telling.{answers_then, answers_told}
use Rattle.box_steps.specs.Cuts.{Standing}
use Rattle.box_steps.specs.Onward.{onward_if, onward_of}
use Rattle.box_steps.specs.Outside.{over_sides}
use Rattle.box_steps.specs.declared.onward.Onward.{Onward}
use Rattle.box_steps.specs.declared.onward.Onward.TheVariants as onwards

-- what comes next, by whether the blocks of the one side hold the source, and those of the other the destination
abbrev carried : PeerNo → Bool → Bool → Next → Next
carried x source destination after = cond (not source) (stop (stops.PeerSource x)) (cond (not destination) (stop (stops.PeerDestination x)) after)

carried-on : (x : PeerNo) (destination : Bool) (after : Next) → cond destination after (stop (stops.PeerDestination x)) ≡ carried x true destination after
carried-on x true after = refl
carried-on x false after = refl

-- from one side to the other
answers_over_sides : (d : Description) (x : PeerNo) (inside beyond : Header → Bool) (after : Header → Next) (next : Onward) (i j : Image) (source destination : Part Bool) (y : Part Onward)
    → IsValid i.part → j ≡ record i { part = source.body } → ((h : Header) → onward_of (after h) ≡ next) → y ≡ over_sides x source destination next
    → Answers (Standing d) (λ h. inside (header_at i h)) i.part source → Answers (Standing d) (λ h. beyond (header_at j h)) j.part destination
    → Answers (Standing d) (λ h. let k = header_at i h in onward_of (carried x (inside k) (beyond k) (after k))) i.part y
answers_over_sides d x inside beyond after next i j source destination y valid within same is asked told = by source.told refl
  where
    whole : Header → Onward
    whole k = onward_of (carried x (inside k) (beyond k) (after k))

    refused : Part Onward
    refused = record { body = source.body; told = onwards.Stop (stops.PeerSource x) }

    sent : Part Onward
    sent = onward_if destination next (stops.PeerDestination x)

    by : (b : Bool) → source.told ≡ b → Answers (Standing d) (λ h. whole (header_at i h)) i.part y
    by false e =
        subst (Answers (Standing d) (λ h. whole (header_at i h)) i.part) (sym (is ∙ ap (λ (b : Bool). cond b sent refused) e))
        (answers_told (Standing d) (λ h. inside (header_at i h)) (λ h. whole (header_at i h)) i.part source (onwards.Stop (stops.PeerSource x))
        (λ h held. ap (λ (b : Bool). let k = header_at i h in onward_of (carried x b (beyond k) (after k))) (held ∙ e)) asked)
    by true e =
        subst (Answers (Standing d) (λ h. whole (header_at i h)) i.part) (sym (is ∙ ap (λ (b : Bool). cond b sent refused) e))
        (answers_then (Standing d) inside whole (λ k. onward_of (carried x true (beyond k) (after k))) i j source sent valid within
        (λ h held. ap (λ (b : Bool). let k = header_at i h in onward_of (carried x b (beyond k) (after k))) (held ∙ e)) asked
        (answers_same (Standing d) (λ h. let k = header_at j h in onward_of (cond (beyond k) (after k) (stop (stops.PeerDestination x)))) (λ h. let k = header_at j h in onward_of (carried x true (beyond k) (after k))) j.part sent
        (λ h. ap onward_of (carried-on x (beyond (header_at j h)) (after (header_at j h))))
        (goes_if (Standing d) (λ h. beyond (header_at j h)) (λ h. after (header_at j h)) j.part destination next (stops.PeerDestination x) sent refl (λ h. same (header_at j h)) told)))

-- out of the described VPC
pub answers_out_over : (d : Description) (k : FarNo) (f : Far) (x : PeerNo) (v : VpcNo) (i j : Image) (source destination : Part Bool) (y : Part Onward)
    → IsValid i.part → j ≡ record i { part = source.body } → f ≡ far_at d k → x ≡ peering_to d f → Some v ≡ vpc_beside d f → y ≡ over_sides x source destination (onwards.Arrive (ends.Far k))
    → Answers (Standing d) (λ h. has_block d v (header_at i h).src) i.part source
    → Answers (Standing d) (λ h. is_within (blocks_beyond d (far_at d k)) (header_at j h).dst) j.part destination
    → Answers (Standing d) (λ h. onward_of (over_half_peering d k (peering_to d f) (header_at i h) (blocks_beyond d f) (vpc_beside d f))) i.part y
answers_out_over d k f x v i j source destination y valid within row peering beside is asked told =
    answers_same (Standing d) (λ h. onward_of (over_half_peering d k x (header_at i h) (blocks_beyond d (far_at d k)) (Some v)))
    (λ h. onward_of (over_half_peering d k (peering_to d f) (header_at i h) (blocks_beyond d f) (vpc_beside d f))) i.part y
    (λ h. ap onward_of
    (ap (λ (z : PeerNo). over_half_peering d k z (header_at i h) (blocks_beyond d (far_at d k)) (Some v)) peering
    ∙ ap (λ (g : Far). over_half_peering d k (peering_to d f) (header_at i h) (blocks_beyond d g) (Some v)) (sym row)
    ∙ ap (over_half_peering d k (peering_to d f) (header_at i h) (blocks_beyond d f)) beside))
    (answers_over_sides d x (λ g. has_block d v g.src) (λ g. is_within (blocks_beyond d (far_at d k)) g.dst) (λ g. arrive (ends.Far k)) (onwards.Arrive (ends.Far k)) i j source destination y
    valid within (λ h. refl) is asked told)

-- into it
pub answers_in_over : (d : Description) (k : FarNo) (f : Far) (x : PeerNo) (v : VpcNo) (i j : Image) (source destination : Part Bool) (y : Part Onward)
    → IsValid i.part → j ≡ record i { part = source.body } → f ≡ far_at d k → x ≡ peering_to d f → Some v ≡ vpc_beside d f
    → y ≡ over_sides x source destination (onwards.Go (places.Enter v (through.Peering x)))
    → Answers (Standing d) (λ h. is_within (blocks_beyond d (far_at d k)) (header_at i h).src) i.part source
    → Answers (Standing d) (λ h. has_block d v (header_at j h).dst) j.part destination
    → Answers (Standing d) (λ h. onward_of (in_by_peering d (peering_to d f) (header_at i h) (blocks_beyond d f) (vpc_beside d f))) i.part y
answers_in_over d k f x v i j source destination y valid within row peering beside is asked told =
    answers_same (Standing d) (λ h. onward_of (in_by_peering d x (header_at i h) (blocks_beyond d (far_at d k)) (Some v)))
    (λ h. onward_of (in_by_peering d (peering_to d f) (header_at i h) (blocks_beyond d f) (vpc_beside d f))) i.part y
    (λ h. ap onward_of
    (ap (λ (z : PeerNo). in_by_peering d z (header_at i h) (blocks_beyond d (far_at d k)) (Some v)) peering
    ∙ ap (λ (g : Far). in_by_peering d (peering_to d f) (header_at i h) (blocks_beyond d g) (Some v)) (sym row)
    ∙ ap (in_by_peering d (peering_to d f) (header_at i h) (blocks_beyond d f)) beside))
    (answers_over_sides d x (λ g. is_within (blocks_beyond d (far_at d k)) g.src) (λ g. has_block d v g.dst) (λ g. go (places.Enter v (through.Peering x)) g) (onwards.Go (places.Enter v (through.Peering x))) i j source destination y
    valid within (λ h. refl) is asked told)

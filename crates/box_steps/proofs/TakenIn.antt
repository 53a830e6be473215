-- What becomes of packets that an interface has taken in, for all headers of a body.
use Rattle.std.proofs.Common.{Bool, None, Option, Some, ap, cond, false, refl, slice_get, subst, sym, true, ℕ, ◌∙◌, ◌≡◌}
use Rattle.header_boxes.specs.Boxes.{IsValid}
use Rattle.appliances.proofs.Forwarding.{taken_in-drops, taken_in-none, taken_in-own, taken_in-passes}
use Rattle.appliances.proofs.Standing.{boxes_are_standing}
use Rattle.appliances.specs.Passing.{boxes_of, number_of, passes_at}
use Rattle.box_images.specs.Terms.{Answers, header_at}
use Rattle.image_tests.specs.Types.{Image, Part}
use Rattle.cut_laws.proofs.Among.{among_through}
use Rattle.cut_laws.specs.Dividing.{Divide}
use Rattle.image_tests.proofs.Answering.{answers_all, answers_more}
use Rattle.vpc_laws.specs.Types.{Description, EniNo, Header}
use Rattle.vpc_model.specs.Terms.{Appliances, Next, all_cuts, appliances_of, cuts_of_box, go, has_address, interface_at, on_sides, standing_cuts, stop, taken_in}
use Rattle.vpc_model.specs.declared.places.End.TheVariants as ends
use Rattle.vpc_model.specs.declared.places.Place.TheVariants as places
use Rattle.vpc_model.specs.declared.stops.Stop.TheVariants as stops
use Rattle.box_steps.proofs.Telling.{answers_then, answers_told}
use Rattle.box_steps.specs.Terms.{Onward, Standing, onward_of}
use Rattle.box_steps.specs.declared.onward.Onward.TheVariants as onwards

-- the number is that of an appliance of the description
described : (d : Description) (rows : Appliances) (i : EniNo) (o : Option ℕ) → rows ≡ appliances_of d → o ≡ number_of rows i → o ≡ number_of (appliances_of d) i
described d rows i o is number = number ∙ ap (λ (r : Appliances). number_of r i) is

-- no appliance: all have arrived
pub taken_in_all : (d : Description) (rows : Appliances) (i : EniNo) (image : Image) → rows ≡ appliances_of d → IsValid image.part → None ≡ number_of rows i
    → Answers (Standing d) (λ h. onward_of (taken_in d (appliances_of d) i (header_at image h))) image.part (record { body = image.part; told = onwards.Arrive (ends.Interface i) })
taken_in_all d rows i image is valid none =
    answers_all (Standing d) (λ h. onward_of (taken_in d (appliances_of d) i (header_at image h))) image.part (onwards.Arrive (ends.Interface i)) valid
    (λ h. ap onward_of (taken_in-none d (appliances_of d) i (header_at image h) (described d rows i None is none)))

-- for its own addresses: they have arrived too
pub taken_in_own : (d : Description) (rows : Appliances) (i : EniNo) (image : Image) (k : ℕ) (x : Part Bool) → rows ≡ appliances_of d → Some k ≡ number_of rows i → x.told ≡ true
    → Answers (Standing d) (λ h. has_address (interface_at d i) (header_at image h).dst) image.part x
    → Answers (Standing d) (λ h. onward_of (taken_in d (appliances_of d) i (header_at image h))) image.part (record { body = x.body; told = onwards.Arrive (ends.Interface i) })
taken_in_own d rows i image k x is number own l =
    answers_told (Standing d) (λ h. has_address (interface_at d i) (header_at image h).dst) (λ h. onward_of (taken_in d (appliances_of d) i (header_at image h))) image.part x (onwards.Arrive (ends.Interface i))
    (λ h e. sym (ap onward_of (taken_in-own d (appliances_of d) i (header_at image h) k (described d rows i (Some k) is number) (e ∙ own)))) l

-- an appliance sends on, or drops
abbrev sent : EniNo → Header → Bool → Next
sent i h passes = cond passes (go (places.OutOf i) h) (stop (stops.ApplianceDrop i))

taken_in-other : (d : Description) (rows : Appliances) (i : EniNo) (h : Header) (k : ℕ) → Some k ≡ number_of rows i → has_address (interface_at d i) h.dst ≡ false → taken_in d rows i h ≡ sent i h (passes_at rows k h)
taken_in-other d rows i h k number other = by (passes_at rows k h) refl
  where
    by : (b : Bool) → passes_at rows k h ≡ b → taken_in d rows i h ≡ sent i h b
    by true e = sym (taken_in-passes d rows i h k number other e)
    by false e = sym (taken_in-drops d rows i h k number other e)

-- by the boxes of the appliance, which cut by standing cuts
passes-standing : (d : Description) (rows : Appliances) (k : ℕ) (j : Image) (y : Part Bool) → rows ≡ appliances_of d
    → Answers (Divide (all_cuts cuts_of_box (boxes_of (slice_get rows k)))) (λ h. passes_at rows k (header_at j h)) j.part y
    → Answers (Standing d) (λ h. passes_at (appliances_of d) k (header_at j h)) j.part y
passes-standing d rows k j y is l =
    answers_more (Divide (all_cuts cuts_of_box (boxes_of (slice_get (appliances_of d) k)))) (Standing d) (λ h. passes_at (appliances_of d) k (header_at j h)) j.part y
    (λ cuts standing. among_through (on_sides (all_cuts cuts_of_box (boxes_of (slice_get (appliances_of d) k)))) (standing_cuts d) cuts (boxes_are_standing d k) standing)
    (subst (λ (r : Appliances). Answers (Divide (all_cuts cuts_of_box (boxes_of (slice_get r k)))) (λ h. passes_at r k (header_at j h)) j.part y) is l)

pub taken_in_sent : (d : Description) (rows : Appliances) (i : EniNo) (image j : Image) (k : ℕ) (x y : Part Bool) (onward : Onward) → rows ≡ appliances_of d → IsValid image.part → Some k ≡ number_of rows i → x.told ≡ false
    → j ≡ record image { part = x.body } → ((h : Header) → onward_of (sent i h y.told) ≡ onward)
    → Answers (Standing d) (λ h. has_address (interface_at d i) (header_at image h).dst) image.part x
    → Answers (Divide (all_cuts cuts_of_box (boxes_of (slice_get rows k)))) (λ h. passes_at rows k (header_at j h)) j.part y
    → Answers (Standing d) (λ h. onward_of (taken_in d (appliances_of d) i (header_at image h))) image.part (record { body = y.body; told = onward })
taken_in_sent d rows i image j k x y onward is valid number other over turns l p =
    let apps = appliances_of d in
    let rest : Header → Onward = λ h. onward_of (sent i h (passes_at apps k h)) in
    answers_then (Standing d) (λ h. has_address (interface_at d i) h.dst) (λ h. onward_of (taken_in d apps i h)) rest image j x (record { body = y.body; told = onward }) valid over
    (λ h e. ap onward_of (taken_in-other d apps i (header_at image h) k (described d rows i (Some k) is number) (e ∙ other)))
    l
    (answers_told (Standing d) (λ h. passes_at apps k (header_at j h)) (λ h. rest (header_at j h)) j.part y onward
    (λ h e. ap (λ (b : Bool). onward_of (sent i (header_at j h) b)) e ∙ turns (header_at j h)) (passes-standing d rows k j y is p))

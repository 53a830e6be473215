-- Opens that can no longer arrive at their goal, for all headers of a body.
use Rattle.std.proofs.Common.{◌≡◌, ◌∙◌, ◌&&◌, Bool, List, None, Option, Some, ap, false, is_none, not, refl, subst, sym, true, ℕ}
use Rattle.std.proofs.lemmas.Bool.{cond_both}
use Rattle.appliances.proofs.Forwarding.{boxes_at-none, boxes_at-number}
use Rattle.appliances.specs.Passing.{number_of}
use Rattle.vpc_base.specs.Cuts.{CutLists}
use Rattle.vpc_base.specs.declared.headers.Label.TheVariants as labels
use Rattle.header_boxes.specs.Boxes.{IsValid}
use Rattle.box_images.specs.Terms.{Answers, header_at}
use Rattle.image_tests.specs.Types.{Image, Part}
use Rattle.vpc_laws.specs.Types.{Box5, Description, End, EniNo, Header, NatNo, Place, Stop, SubnetNo, TableNo, Target, VpcNo}
use Rattle.vpc_model.specs.Terms.{Appliances, Moment, Next, crossing, deliver, deliver_by, enter_host, entering, go, host_of, interface_at, is_gateway, nat_of, same_end, step_at, stop, subnet_of, to_host, to_target, unless_stopped, vpc_of_subnet}
use Rattle.vpc_model.specs.declared.places.End.TheVariants as ends
use Rattle.vpc_model.specs.declared.places.Place.TheVariants as places
use Rattle.vpc_model.specs.declared.rows.Target.TheVariants as targets
use Rattle.vpc_model.specs.declared.stops.Stop.TheVariants as stops
use Rattle.box_steps.proofs.Telling.{answers_then, answers_told}
use Rattle.box_steps.proofs.Turning.{standing_answers}
use Rattle.box_steps.specs.Terms.{AtPlace, BoxMoment, HoldsOver, Standing, is_away, is_elsewhere, misses, misses_at, moment_at}

-- ---- interfaces

and_false : (b : Bool) → false ≡ (b && false)
and_false true = refl
and_false false = refl

and_true : (b : Bool) → b ≡ (b && true)
and_true true = refl
and_true false = refl

-- an appliance's sends on
pub elsewhere-appliance : (appliances : Appliances) (goal : End) (i : EniNo) (k : ℕ) → Some k ≡ number_of appliances i → false ≡ is_elsewhere appliances goal i
elsewhere-appliance appliances goal i k number =
    and_false (not (same_end (ends.Interface i) goal))
    ∙ sym (ap (λ (o : Option (List Box5)). not (same_end (ends.Interface i) goal) && is_none o) (boxes_at-number appliances i k number).1)

pub elsewhere-other : (appliances : Appliances) (goal : End) (i : EniNo) (is_goal : Bool) → None ≡ number_of appliances i → is_goal ≡ same_end (ends.Interface i) goal
    → not is_goal ≡ is_elsewhere appliances goal i
elsewhere-other appliances goal i is_goal none same =
    ap not same
    ∙ (and_true (not (same_end (ends.Interface i) goal))
    ∙ sym (ap (λ (o : Option (List Box5)). not (same_end (ends.Interface i) goal) && is_none o) (boxes_at-none appliances i none)))

-- ---- one open, whatever the ACLs on its way say

unless_stopped-misses : (appliances : Appliances) (goal : End) (o : Option Stop) (x : Next) → misses appliances goal x ≡ true → misses appliances goal (unless_stopped o x) ≡ true
unless_stopped-misses appliances goal None x e = e
unless_stopped-misses appliances goal (Some s) x e = refl

deliver_by-misses : (d : Description) (appliances : Appliances) (goal : End) (i : EniNo) (h : Header) (n : Option NatNo) → is_elsewhere appliances goal i ≡ true
    → misses appliances goal (deliver_by d i h n) ≡ true
deliver_by-misses d appliances goal i h (Some n) e = refl
deliver_by-misses d appliances goal i h None e =
    let row = interface_at d i in
    cond_both (is_gateway row.kind) (stop (stops.NotAHost i)) (go (places.Into i) h) (λ (x : Next). misses appliances goal x ≡ true) (λ _. refl) (λ _. e)

pub enter_host-misses : (d : Description) (appliances : Appliances) (goal : End) (v : VpcNo) (h : Header) (o : Option EniNo) → is_away appliances goal o ≡ true
    → misses appliances goal (enter_host d v h o) ≡ true
enter_host-misses d appliances goal v h None e = refl
enter_host-misses d appliances goal v h (Some i) e =
    unless_stopped-misses appliances goal (entering d (subnet_of d i) h) (deliver d i h) (deliver_by-misses d appliances goal i h (nat_of d i) e)

to_host-misses : (d : Description) (appliances : Appliances) (goal : End) (s : SubnetNo) (h : Header) (o : Option EniNo) → is_away appliances goal o ≡ true
    → misses appliances goal (to_host d s h o) ≡ true
to_host-misses d appliances goal s h None e = refl
to_host-misses d appliances goal s h (Some i) e =
    unless_stopped-misses appliances goal (crossing d s (subnet_of d i) h) (deliver d i h) (deliver_by-misses d appliances goal i h (nat_of d i) e)

-- ---- all headers of a body

-- a test that follows from another one
pub holds_over-same : (enough : CutLists → Type 0) (f g : Header → Bool) (part : Box5) (x : Option Box5) → ((h : Header) → f h ≡ true → g h ≡ true)
    → HoldsOver enough f part x → HoldsOver enough g part x
holds_over-same enough f g part None leads k = tt
holds_over-same enough f g part (Some body) leads k = answers_told enough f g part (record { body = body; told = true }) true leads k

-- what was told leaves another test, which was asked of the image within the body
holds_over-then : {S : Type 0} (enough : CutLists → Type 0) (asked : Header → S) (whole rest : Header → Bool) (i j : Image) (x : Part S) (y : Option Box5)
    → IsValid i.part → j ≡ record i { part = x.body }
    → ((h : Header) → asked (header_at i h) ≡ x.told → whole (header_at i h) ≡ rest (header_at i h))
    → Answers enough (λ h. asked (header_at i h)) i.part x → HoldsOver enough (λ h. rest (header_at j h)) j.part y
    → HoldsOver enough (λ h. whole (header_at i h)) i.part y
holds_over-then enough asked whole rest i j x None valid is leads k l = tt
holds_over-then enough asked whole rest i j x (Some body) valid is leads k l =
    answers_then enough asked whole rest i j x (record { body = body; told = true }) valid is leads k l

pub standing_over : (d : Description) (p : Place) (test : Header → Bool) (part : Box5) (x : Option Box5) → HoldsOver (Standing d) test part x → HoldsOver (AtPlace d p) test part x
standing_over d p test part None k = tt
standing_over d p test part (Some body) k = standing_answers d p test part (record { body = body; told = true }) k

-- ---- targets of routes

pub local_away : (d : Description) (appliances : Appliances) (goal : End) (s : SubnetNo) (t : TableNo) (k : ℕ) (target : Target) (v : VpcNo) (i : Image) (x : Option Box5)
    → target ≡ targets.Local → v ≡ vpc_of_subnet d s
    → HoldsOver (Standing d) (λ h. is_away appliances goal (host_of d v (header_at i h).dst)) i.part x
    → HoldsOver (Standing d) (λ h. misses appliances goal (to_target d s (header_at i h) t k target)) i.part x
local_away d appliances goal s t k target v i x is own l =
    holds_over-same (Standing d) (λ h. is_away appliances goal (host_of d v (header_at i h).dst)) (λ h. misses appliances goal (to_target d s (header_at i h) t k target)) i.part x
    (λ h e.
    ap (λ (g : Target). misses appliances goal (to_target d s (header_at i h) t k g)) is
    ∙ to_host-misses d appliances goal s (header_at i h) (host_of d (vpc_of_subnet d s) (header_at i h).dst)
    (ap (λ (w : VpcNo). is_away appliances goal (host_of d w (header_at i h).dst)) (sym own) ∙ e)) l

-- ---- routers

-- what a table's choice leads to, where it was told
pub choice_away : (d : Description) (appliances : Appliances) (goal : End) (p : Place) (after : Header → Option ℕ → Next) (choice : Header → Option ℕ) (k : ℕ) (i j : Image) (x : Part (Option ℕ)) (y : Option Box5)
    → IsValid i.part → x.told ≡ Some k → j ≡ record i { part = x.body }
    → Answers (AtPlace d p) (λ h. choice (header_at i h)) i.part x
    → HoldsOver (Standing d) (λ h. misses appliances goal (after (header_at j h) (Some k))) j.part y
    → HoldsOver (AtPlace d p) (λ h. misses appliances goal (after (header_at i h) (choice (header_at i h)))) i.part y
choice_away d appliances goal p after choice k i j x y valid is within chosen l =
    holds_over-then (AtPlace d p) choice (λ h. misses appliances goal (after h (choice h))) (λ h. misses appliances goal (after h (Some k))) i j x y valid within
    (λ h e. ap (λ (o : Option ℕ). misses appliances goal (after (header_at i h) o)) (e ∙ is)) chosen
    (standing_over d p (λ h. misses appliances goal (after (header_at j h) (Some k))) j.part y l)

-- ---- steps

-- at a place whose step follows from the header alone
pub misses_by : (d : Description) (few appliances : Appliances) (goal : End) (p : Place) (next : Header → Next) (m : BoxMoment) (x : Option Box5)
    → few ≡ appliances → m.place ≡ p → ((k : Moment) → (let s = step_at d appliances labels.Opening p k in s.next) ≡ next k.header)
    → HoldsOver (AtPlace d p) (λ h. misses few goal (next (header_at m.header h))) m.header.part x
    → HoldsOver (AtPlace d m.place) (λ h. misses_at d appliances goal (moment_at h m)) m.header.part x
misses_by d few appliances goal p next m x same is leads k =
    holds_over-same (AtPlace d m.place) (λ h. misses appliances goal (next (header_at m.header h))) (λ h. misses_at d appliances goal (moment_at h m)) m.header.part x
    (λ h e.
    ap (λ (q : Place). let s = step_at d appliances labels.Opening q (moment_at h m) in misses appliances goal s.next) is
    ∙ (ap (misses appliances goal) (leads (moment_at h m)) ∙ e))
    (subst (λ (q : Place). HoldsOver (AtPlace d q) (λ h. misses appliances goal (next (header_at m.header h))) m.header.part x) (sym is)
    (subst (λ (a : Appliances). HoldsOver (AtPlace d p) (λ h. misses a goal (next (header_at m.header h))) m.header.part x) same k))

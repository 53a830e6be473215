-- What comes next for all headers of a body, by the route that a table chooses.
use Rattle.std.proofs.Common.{◌≡◌, ◌∙◌, None, Option, Some, ap, sym, ℕ}
use Rattle.vpc_base.specs.Cuts.{CutLists}
use Rattle.box_images.specs.Answers.{Answers}
use Rattle.box_images.specs.Images.{header_at}
use Rattle.box_images.specs.declared.images.Image.{Image}
use Rattle.box_images.specs.declared.images.Part.{Part}
use Rattle.header_boxes.specs.Boxes.{IsValid}
use Rattle.image_tests.proofs.Answering.{answers_same}
use Rattle.vpc_base.specs.declared.headers.Header.{Header}
use Rattle.vpc_laws.specs.Types.{Description, EniNo, Place, TableNo, VpcNo}
use Rattle.vpc_model.specs.Lookup.{host_of, table_at}
use Rattle.vpc_model.specs.Routes.{chosen_route}
use Rattle.vpc_model.specs.Step.Words.{Next, stop}
use Rattle.vpc_model.specs.declared.stops.Stop.TheVariants as stops
use Rattle.box_steps.proofs.Telling.{answers_then, answers_told}
use Rattle.box_steps.proofs.Turning.{standing_answers}
use Rattle.box_steps.specs.Cuts.{AtPlace, Standing}
use Rattle.box_steps.specs.Onward.{onward_of}
use Rattle.box_steps.specs.declared.onward.Onward.{Onward}
use Rattle.box_steps.specs.declared.onward.Onward.TheVariants as onwards

-- what is asked by the host of the destination, where that was told
pub answers_by_host : (d : Description) (v : VpcNo) (after : Header → Option EniNo → Next) (i j : Image) (x : Part (Option EniNo)) (y : Part Onward) → IsValid i.part → j ≡ record i { part = x.body }
    → Answers (Standing d) (λ h. host_of d v (header_at i h).dst) i.part x → Answers (Standing d) (λ h. onward_of (after (header_at j h) x.told)) j.part y
    → Answers (Standing d) (λ h. onward_of (after (header_at i h) (host_of d v (header_at i h).dst))) i.part y
answers_by_host d v after i j x y valid within k l =
    answers_then (Standing d) (λ h. host_of d v h.dst) (λ h. onward_of (after h (host_of d v h.dst))) (λ h. onward_of (after h x.told)) i j x y valid within
    (λ h e. ap (λ (o : Option EniNo). onward_of (after (header_at i h) o)) e) k l

-- by something that is one for all headers, such as the target of a route
pub answers_by_one : {X : Type 0} (enough : CutLists → Type 0) (by : Header → X → Next) (x goal : X) (after : Header → Next) (i : Image) (y : Part Onward) → x ≡ goal
    → ((h : Header) → after h ≡ by h goal) → Answers enough (λ h. onward_of (after (header_at i h))) i.part y
    → Answers enough (λ h. onward_of (by (header_at i h) x)) i.part y
answers_by_one {X} enough by x goal after i y is same l =
    answers_same enough (λ h. onward_of (after (header_at i h))) (λ h. onward_of (by (header_at i h) x)) i.part y
    (λ h. ap onward_of (same (header_at i h) ∙ sym (ap (by (header_at i h)) is))) l

-- ---- by the chosen route

pub answers_of_route : (d : Description) (p : Place) (t : TableNo) (after : Header → Option ℕ → Next) (k : ℕ) (i j : Image) (x : Part (Option ℕ)) (y : Part Onward) → IsValid i.part → x.told ≡ Some k
    → j ≡ record i { part = x.body } → Answers (AtPlace d p) (λ h. chosen_route d (table_at d t).routes (header_at i h).dst) i.part x
    → Answers (Standing d) (λ h. onward_of (after (header_at j h) (Some k))) j.part y
    → Answers (AtPlace d p) (λ h. onward_of (after (header_at i h) (chosen_route d (table_at d t).routes (header_at i h).dst))) i.part y
answers_of_route d p t after k i j x y valid is within chosen l =
    answers_then (AtPlace d p) (λ h. chosen_route d (table_at d t).routes h.dst) (λ h. onward_of (after h (chosen_route d (table_at d t).routes h.dst))) (λ h. onward_of (after h (Some k))) i j x y valid within
    (λ h e. ap (λ (o : Option ℕ). onward_of (after (header_at i h) o)) (e ∙ is)) chosen
    (standing_answers d p (λ h. onward_of (after (header_at j h) (Some k))) j.part y l)

pub answers_without_route : (d : Description) (p : Place) (t : TableNo) (after : Header → Option ℕ → Next) (i : Image) (x : Part (Option ℕ)) → x.told ≡ None
    → ((h : Header) → after h None ≡ stop (stops.NoRoute t)) → Answers (AtPlace d p) (λ h. chosen_route d (table_at d t).routes (header_at i h).dst) i.part x
    → Answers (AtPlace d p) (λ h. onward_of (after (header_at i h) (chosen_route d (table_at d t).routes (header_at i h).dst))) i.part (record { body = x.body; told = onwards.Stop (stops.NoRoute t) })
answers_without_route d p t after i x is stopped chosen =
    answers_told (AtPlace d p) (λ h. chosen_route d (table_at d t).routes (header_at i h).dst) (λ h. onward_of (after (header_at i h) (chosen_route d (table_at d t).routes (header_at i h).dst))) i.part x (onwards.Stop (stops.NoRoute t))
    (λ h e. ap (λ (o : Option ℕ). onward_of (after (header_at i h) o)) (e ∙ is) ∙ ap onward_of (stopped (header_at i h))) chosen

-- What comes next for all headers of a body.
use Rattle.std.proofs.Common.{◌≡◌, ◌∙◌, Bool, None, Option, Some, ap, cond, false, refl, subst, sym, true}
use Rattle.vpc_base.specs.Cuts.{CutLists}
use Rattle.vpc_base.specs.declared.headers.Header.{Header}
use Rattle.header_boxes.specs.Boxes.{IsValid}
use Rattle.header_boxes.specs.declared.boxes.Box5.{Box5}
use Rattle.box_images.specs.Answers.{Answers}
use Rattle.box_images.specs.declared.images.Part.{Part}
use Rattle.image_tests.proofs.Answering.{answers_all}
use Rattle.vpc_laws.specs.Types.{Stop}
use Rattle.vpc_model.specs.Step.Words.{Next, stop, unless_stopped}
use Rattle.box_steps.proofs.Telling.{answers_told}
use Rattle.box_steps.specs.Onward.{onward_if, onward_of, onward_unless}
use Rattle.box_steps.specs.declared.onward.Onward.{Onward}
use Rattle.box_steps.specs.declared.onward.Onward.TheVariants as onwards

-- one thing comes next for all headers
pub all_onward : (enough : CutLists → Type 0) (after : Header → Next) (part : Box5) (next : Onward) (x : Part Onward) → IsValid part
    → x ≡ record { body = part; told = next } → ((h : Header) → onward_of (after h) ≡ next) → Answers enough (λ h. onward_of (after h)) part x
all_onward enough after part next x valid is all =
    subst (λ (y : Part Onward). Answers enough (λ h. onward_of (after h)) part y) (sym is)
    (answers_all enough (λ h. onward_of (after h)) part next valid (λ h. sym (all h)))

-- one stop for all headers
pub all_stopped : (enough : CutLists → Type 0) (after : Header → Next) (part : Box5) (s : Stop) (x : Part Onward) → IsValid part
    → x ≡ record { body = part; told = onwards.Stop s } → ((h : Header) → stop s ≡ after h) → Answers enough (λ h. onward_of (after h)) part x
all_stopped enough after part s x valid is all = all_onward enough after part (onwards.Stop s) x valid is (λ h. sym (ap onward_of (all h)))

unless : (o : Option Stop) (next : Next) → onward_of (unless_stopped o next) ≡ onward_unless o (onward_of next)
unless None next = refl
unless (Some s) next = refl

-- what comes next of all headers, unless a stop is told
pub goes_on : (enough : CutLists → Type 0) (stops : Header → Option Stop) (after : Header → Next) (part : Box5) (told : Part (Option Stop)) (next : Onward) (x : Part Onward)
    → x ≡ record { body = told.body; told = onward_unless told.told next } → ((h : Header) → onward_of (after h) ≡ next)
    → Answers enough stops part told → Answers enough (λ h. onward_of (unless_stopped (stops h) (after h))) part x
goes_on enough stops after part told next x is same k =
    subst (λ (y : Part Onward). Answers enough (λ h. onward_of (unless_stopped (stops h) (after h))) part y) (sym is)
    (answers_told enough stops (λ h. onward_of (unless_stopped (stops h) (after h))) part told (onward_unless told.told next)
    (λ h e. unless (stops h) (after h) ∙ ap (λ (o : Option Stop). onward_unless o (onward_of (after h))) e ∙ ap (onward_unless told.told) (same h)) k)

holds-or : (b : Bool) (after : Next) (next : Onward) (s : Stop) → onward_of after ≡ next → onward_of (cond b after (stop s)) ≡ cond b next (onwards.Stop s)
holds-or true after next s same = same
holds-or false after next s same = refl

-- what comes next of all headers where a test holds, else a stop
pub goes_if : (enough : CutLists → Type 0) (test : Header → Bool) (after : Header → Next) (part : Box5) (told : Part Bool) (next : Onward) (s : Stop) (x : Part Onward)
    → x ≡ onward_if told next s → ((h : Header) → onward_of (after h) ≡ next)
    → Answers enough test part told → Answers enough (λ h. onward_of (cond (test h) (after h) (stop s))) part x
goes_if enough test after part told next s x is same k =
    subst (λ (y : Part Onward). Answers enough (λ h. onward_of (cond (test h) (after h) (stop s))) part y) (sym is)
    (answers_told enough test (λ h. onward_of (cond (test h) (after h) (stop s))) part told (cond told.told next (onwards.Stop s))
    (λ h e. holds-or (test h) (after h) next s (same h) ∙ ap (λ (b : Bool). cond b next (onwards.Stop s)) e) k)

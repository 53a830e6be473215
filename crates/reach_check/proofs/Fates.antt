-- What becomes of one request.
use Rattle.std.proofs.Common.{◌≡◌, ◌∙◌, Err, IfSome, List, None, Ok, Option, Some, ap, subst, sym, true}
use Rattle.box_images.specs.Bodies.{IsBody}
use Rattle.box_images.specs.declared.images.Part.{Part}
use Rattle.box_images.proofs.BodyLemmas.{low_in_body}
use Rattle.header_boxes.specs.Boxes.{holds, low_of}
use Rattle.journey_changes.proofs.Telling.{IsFateTold, fate_told}
use Rattle.journey_changes.specs.Fates.{Fate}
use Rattle.journey_changes.specs.Sent.{AreSentWell, IsToward, Sent, fate, sent}
use Rattle.vpc_laws.specs.Types.{Box5, Description, End, FarNo, Header}
use Rattle.vpc_model.specs.Accepted.{IsAccepted}
use Rattle.vpc_model.specs.Sound.{is_end}
use Rattle.reach_check.specs.Questions.{CanBeShown}
use Rattle.reach_check.specs.Reaches.{toward_of}

toward_well : (d : Description) (goal : Option End) → IfSome goal (λ e. is_end d e ≡ true) → IsToward d (toward_of goal)
toward_well d None there = tt
toward_well d (Some goal) there = there

pub sent_well : (d : Description) (start : End) (links : List FarNo) (goal : Option End) → is_end d start ≡ true → IfSome goal (λ e. is_end d e ≡ true)
    → AreSentWell (sent d (Some start) links (toward_of goal))
sent_well d start links goal there known = record { start = there; toward = toward_well d goal known }

-- what is told of a part is told of its least header
pub fate_at-low : (s t : Sent) (h : Header) (part : Box5) (x : Part Fate) → s ≡ t → low_of part ≡ h → IsBody x.body part → ((k : Header) → holds k x.body ≡ true → x.told ≡ fate s k)
    → x.told ≡ fate t h
fate_at-low s t h part x same low inside told =
    told h (subst (λ (g : Header). holds g x.body ≡ true) low (low_in_body x.body part inside)) ∙ ap (λ (r : Sent). fate r h) same

shown : (d : Description) (f : Fate) → IsFateTold d f → CanBeShown d f
shown d (Ok end) told = tt
shown d (Err barrier) told = told

-- it has a text
pub fate_is_shown : (d : Description) (start : End) (links : List FarNo) (goal : Option End) (h : Header) (f : Fate) → IsAccepted d → is_end d start ≡ true → IfSome goal (λ e. is_end d e ≡ true)
    → f ≡ fate (sent d (Some start) links (toward_of goal)) h → CanBeShown d f
fate_is_shown d start links goal h f accepted there known is =
    subst (CanBeShown d) (sym is)
    (shown d (fate (sent d (Some start) links (toward_of goal)) h) (fate_told d (Some start) links (toward_of goal) h accepted there (toward_well d goal known)))

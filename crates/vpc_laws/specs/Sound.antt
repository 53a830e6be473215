-- Where packets lead in accepted descriptions, and that all can be told of them.
use Rattle.std.specs.Prelude.{◌≡◌, true}
use Rattle.std.specs.List.{AllByRecursion}
use Rattle.vpc_laws.specs.Types.{Description, End, Header, Hop, Label, Outcome, Verdict}
use Rattle.vpc_model.specs.declared.outcomes.Outcome.TheVariants as outcomes
use Rattle.vpc_model.specs.declared.outcomes.Verdict.TheVariants as verdicts
use Rattle.vpc_model.specs.Accepted.{IsAccepted}
use Rattle.vpc_model.specs.Appliances.{Appliances}
use Rattle.vpc_model.specs.Sound.{has_rule, has_text, is_end, is_sound}
use Rattle.vpc_model.specs.Step.{step_of}
use Rattle.vpc_model.specs.Step.Words.{Moment, Next, arrive, go, stop}
use Rattle.vpc_model.specs.Verdict.{verdict_of}
use Rattle.vpc_model.specs.Walk.{walk_of}

-- a sound place comes next, or a described end is reached, or a stop that has a text
abbrev pub LeadsWell : Description → Next → Type 0
LeadsWell d (go p k) = is_sound d p ≡ true
LeadsWell d (arrive end) = is_end d end ≡ true
LeadsWell d (stop s) = has_text d s ≡ true

-- from a sound place a step leads well, by a rule that is there if by one
abbrev pub StepsAreSound : Type 0
StepsAreSound =
    (d : Description) (appliances : Appliances) (label : Label) (m : Moment) → IsAccepted d
    → is_sound d m.place ≡ true
    → let s = step_of d appliances label m in LeadsWell d s.next × (has_rule d s.by ≡ true)

-- a described end, or a stop that has a text
abbrev pub EndsWell : Description → Outcome → Type 0
EndsWell d (outcomes.Arrived end h) = is_end d end ≡ true
EndsWell d (outcomes.Stopped s) = has_text d s ≡ true

-- a sound place, and a rule that is there if any
abbrev pub IsSoundHop : Description → Hop → Type 0
IsSoundHop d h = (is_sound d h.place ≡ true) × (has_rule d h.by ≡ true)

-- from a sound place a walk goes by sound places and rules that are there, and ends well
abbrev pub WalksAreSound : Type 0
WalksAreSound =
    (d : Description) (appliances : Appliances) (label : Label) (m : Moment) → IsAccepted d
    → is_sound d m.place ≡ true
    → let w = walk_of d appliances label m in AllByRecursion (IsSoundHop d) w.hops × EndsWell d w.outcome

-- a request gets through, or its stop has a text
abbrev pub IsTold : Description → Verdict → Type 0
IsTold d verdicts.Through = Unit {0}
IsTold d (verdicts.Stopped phase s) = has_text d s ≡ true

-- between described ends
abbrev pub VerdictsAreTold : Type 0
VerdictsAreTold =
    (d : Description) (appliances : Appliances) (start goal : End) (h : Header) → IsAccepted d
    → is_end d start ≡ true → is_end d goal ≡ true
    → IsTold d (verdict_of d appliances start goal h)

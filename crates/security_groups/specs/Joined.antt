-- Rules that say the same as others.
use Rattle.std.specs.Prelude.{◌≡◌, List}
use Rattle.address_sets.specs.declared.sets.Run.{Run}
use Rattle.vpc_base.specs.Cuts.{CutLists}
use Rattle.vpc_base.specs.declared.headers.Dir.{Dir}
use Rattle.vpc_base.specs.declared.headers.Header.{Header}
use Rattle.security_groups.specs.Rules.{DivideRule, DivideRules, allows, any_allows}
use Rattle.security_groups.specs.declared.rules.Rule.{Rule}
use Rattle.security_groups.specs.Members.{MemberSets}

-- they are for one protocol and the same ports
pub record AreAlike (r s : Rule) : Type 0 where
  pub proto : r.proto ≡ s.proto
  pub from : r.q_from ≡ s.q_from
  pub to : r.q_to ≡ s.q_to

-- the one rule allows what one of the others allows, and asks for no more cuts than they do
pub record IsJoint (rules : List Rule) (r : Rule) : Type 0 where
  pub same : (lists : List (List Run)) (members : MemberSets) (dir : Dir) (h : Header)
      → allows lists members dir h r ≡ any_allows lists members dir rules h
  pub divide : (lists : List (List Run)) (members : MemberSets) (cuts : CutLists) → DivideRules lists members rules cuts
      → DivideRule lists members r cuts

-- some rules allow what others allow, and ask for no more cuts
pub record SayTheSame (rules others : List Rule) : Type 0 where
  pub same : (lists : List (List Run)) (members : MemberSets) (dir : Dir) (h : Header)
      → any_allows lists members dir others h ≡ any_allows lists members dir rules h
  pub divide : (lists : List (List Run)) (members : MemberSets) (cuts : CutLists) → DivideRules lists members rules cuts
      → DivideRules lists members others cuts

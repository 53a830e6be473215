-- When what stops two requests, or their replies, is one.
use Rattle.std.specs.Prelude.{◌==◌, ◌&&◌, if◌then◌else◌, Bool, None, Option, Some, bytes_eq, false, true}
use Rattle.vpc_laws.specs.Types.{Component, Foreign, Phase, Stop, StopRule}
use Rattle.vpc_model.specs.Names.{name_text}
use Rattle.vpc_model.specs.Told.{component_of, name_of, rule_of}
use Rattle.vpc_model.specs.Verdict.{same_end}
use Rattle.vpc_model.specs.Walk.{same_place}
use Rattle.vpc_model.specs.declared.outcomes.Phase.TheVariants as phases
use Rattle.vpc_model.specs.declared.stops.Foreign.TheVariants as foreign
use Rattle.vpc_model.specs.declared.stops.Component.TheVariants as at
use Rattle.vpc_model.specs.declared.stops.StopRule.TheVariants as rules

abbrev pub same_foreign : Foreign → Foreign → Bool
same_foreign (foreign.Target x j) (foreign.Target y k) = (x.0 == y.0) && (j == k)
same_foreign (foreign.Nat x) (foreign.Nat y) = x.0 == y.0
same_foreign (foreign.Peering x) (foreign.Peering y) = x.0 == y.0
same_foreign (foreign.Attachment x) (foreign.Attachment y) = x.0 == y.0
same_foreign (foreign.Table x) (foreign.Table y) = x.0 == y.0
same_foreign (foreign.FarAttachment x j) (foreign.FarAttachment y k) = (x.0 == y.0) && (j == k)
same_foreign _ _ = false

abbrev pub same_component : Component → Component → Bool
same_component (at.Interface x) (at.Interface y) = x.0 == y.0
same_component (at.Table x) (at.Table y) = x.0 == y.0
same_component (at.Target x j) (at.Target y k) = (x.0 == y.0) && (j == k)
same_component (at.Acl x) (at.Acl y) = x.0 == y.0
same_component (at.Vpc x) (at.Vpc y) = x.0 == y.0
same_component (at.Subnet x) (at.Subnet y) = x.0 == y.0
same_component (at.InternetGateway x) (at.InternetGateway y) = x.0 == y.0
same_component (at.NatGateway x) (at.NatGateway y) = x.0 == y.0
same_component (at.Peering x) (at.Peering y) = x.0 == y.0
same_component (at.Attachment x) (at.Attachment y) = x.0 == y.0
same_component (at.TransitTable x) (at.TransitTable y) = x.0 == y.0
same_component (at.Foreign x) (at.Foreign y) = same_foreign x y
same_component (at.Place x) (at.Place y) = same_place x y
same_component (at.End x) (at.End y) = same_end x y
same_component _ _ = false

abbrev pub same_rule : StopRule → StopRule → Bool
same_rule rules.None rules.None = true
same_rule (rules.AclRow j) (rules.AclRow k) = j == k
same_rule (rules.Route x j) (rules.Route y k) = (x.0 == y.0) && (j == k)
same_rule (rules.TransitRoute x j) (rules.TransitRoute y k) = (x.0 == y.0) && (j == k)
same_rule (rules.Access x) (rules.Access y) = x.0 == y.0
same_rule _ _ = false

-- of one name, by one component and one rule of it
abbrev pub same_stop : Stop → Stop → Bool
same_stop a b =
    bytes_eq (name_text (name_of a)) (name_text (name_of b))
    && (same_component (component_of a) (component_of b) && same_rule (rule_of a) (rule_of b))

abbrev pub same_phase : Phase → Phase → Bool
same_phase phases.Request phases.Request = true
same_phase phases.Reply phases.Reply = true
same_phase _ _ = false

-- both get through, or one stop stops both in one phase
abbrev pub same_told : Option (Phase × Stop) → Option (Phase × Stop) → Bool
same_told None None = true
same_told (Some a) (Some b) = same_phase a.0 b.0 && same_stop a.1 b.1
same_told _ _ = false

-- a word where they are one; none where they aren't, which a search therefore finds
abbrev pub unless_apart : Option (Phase × Stop) → Option (Phase × Stop) → Option (Unit {0})
unless_apart a b = if same_told a b then Some tt else None

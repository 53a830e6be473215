-- Which rule allows a packet, where what rules name was resolved (VPC User Guide, "Security group rules").
use Rattle.std.specs.Prelude.{◌∷◌, [], if◌then◌else◌, Bool, List, None, Option, Some, nat_lt, option_map, slice_index_or, ℕ}
use Rattle.address_sets.specs.declared.sets.Run.{Run}
use Rattle.vpc_base.specs.declared.headers.Dir.{Dir}
use Rattle.vpc_base.specs.declared.headers.Dir.TheVariants as dirs
use Rattle.vpc_base.specs.declared.headers.Header.{Header}
use Rattle.vpc_model.specs.declared.outcomes.RuleRef.{RuleRef}
use Rattle.vpc_model.specs.Choice.{or_else}
use Rattle.security_groups.specs.declared.groups.GroupRules.{GroupRules}
use Rattle.security_groups.specs.declared.rules.Rule.{Rule}
use Rattle.security_groups.specs.Rules.{allows}
use Rattle.security_groups.specs.Members.{MemberSets}

-- the rules of a direction
abbrev pub rules_of : Dir → GroupRules → List Rule
rules_of dirs.Inward g = g.inward
rules_of dirs.Outward g = g.outward

abbrev pub no_rules : GroupRules
no_rules = record { group = record { 0 = 0 }; inward = []; outward = [] }

-- the lesser of two numbers, where there are
abbrev pub lesser : Option ℕ → Option ℕ → Option ℕ
lesser None o = o
lesser (Some m) None = Some m
lesser (Some m) (Some n) = if nat_lt n m then Some n else Some m

-- the least number of a rule that passes the test
abbrev pub least : (Rule → Bool) → List Rule → Option ℕ
least p [] = None
least p (r ∷ rs) = lesser (if p r then Some r.number else None) (least p rs)

-- the rule of a set with the least number that allows the packet, as a rule of its group
abbrev pub first_in_group : List (List Run) → MemberSets → List GroupRules → Dir → Header → ℕ → Option RuleRef
first_in_group lists members groups dir h n =
    let set = slice_index_or groups n no_rules in
    option_map (λ k. record { group = set.group; dir = dir; number = k }) (least (allows lists members dir h) (rules_of dir set))

-- the first rule of some groups that does, in their order
abbrev pub first_of : List (List Run) → MemberSets → List GroupRules → Dir → Header → List ℕ → Option RuleRef
first_of lists members groups dir h [] = None
first_of lists members groups dir h (n ∷ ns) = or_else (first_in_group lists members groups dir h n) (first_of lists members groups dir h ns)

-- Tracked connections, and how they let answers pass security groups (EC2 User Guide, "Security group
-- connection tracking"). That only packets labelled as answers consult them, and only opens make them,
-- is a choice of this project's profile.
use Rattle.std.specs.List.{list_any}
use Rattle.std.specs.Prelude.{◌==◌, ◌&&◌, ◌++◌, ◌∷◌, [], if◌then◌else◌, Bool, List, None, Option, Some, false, ℕ}
use Rattle.vpc_model.specs.Types.{By, Description, Dir, EniNo, Header, Label, RuleRef}
use Rattle.vpc_model.specs.declared.outcomes.By.TheVariants as bys
use Rattle.vpc_base.specs.declared.headers.Label.TheVariants as labels
use Rattle.vpc_base.specs.Dir.{opposite, same_dir}
use Rattle.vpc_base.specs.Header.{reply_of}
use Rattle.vpc_model.specs.Groups.{first_rule}
use Rattle.vpc_model.specs.Lookup.{interface_at}

-- an open that passed an interface's groups (profile)
pub record Connection : Type 0 where
  pub eni : EniNo
  pub dir : Dir
  pub header : Header

-- all fields are the same, as tracking compares them (profile)
abbrev pub same_header : Header → Header → Bool
same_header a b = (a.proto == b.proto) && ((a.src == b.src) && ((a.dst == b.dst) && ((a.p == b.p) && (a.q == b.q))))

-- interface, direction and header are the same (profile)
abbrev pub same_connection : Connection → Connection → Bool
same_connection a b = (a.eni.0 == b.eni.0) && (same_dir a.dir b.dir && same_header a.header b.header)

-- there is a header, and it is this one
abbrev pub is_header : Header → Option Header → Bool
is_header h None = false
is_header h (Some k) = same_header k h

-- the header answers a connection that passed the interface the other way (EC2 User Guide, "Security group connection tracking")
abbrev pub is_tracked : List Connection → EniNo → Dir → Header → Bool
is_tracked conns i dir h = list_any (λ c. (c.eni.0 == i.0) && (same_dir c.dir (opposite dir) && is_header h (reply_of c.header))) conns

-- the connections with one more, unless it is there (profile)
abbrev pub added : List Connection → Connection → List Connection
added conns c = if list_any (same_connection c) conns then conns else conns ++ c ∷ []

-- by what a packet passes groups, none where they refuse it; and the connections after it
pub record Passing : Type 0 where
  pub by : Option By
  pub conns : List Connection

-- an open passes by a rule, and makes a connection (profile)
abbrev pub open_passing : List Connection → Connection → Option RuleRef → Passing
open_passing conns c None = record { by = None; conns = conns }
open_passing conns c (Some r) = record { by = Some (bys.Rule r); conns = added conns c }

-- an answer that isn't tracked passes by a rule (profile)
abbrev pub answer_passing : List Connection → Option RuleRef → Passing
answer_passing conns None = record { by = None; conns = conns }
answer_passing conns (Some r) = record { by = Some (bys.Rule r); conns = conns }

-- by rules alone for an open, by tracking or else by rules for an answer (profile)
abbrev pub label_passing : Description → Label → EniNo → Dir → Header → List Connection → Passing
label_passing d labels.Opening i dir h conns = open_passing conns (record { eni = i; dir = dir; header = h }) (first_rule d (interface_at d i) dir h)
label_passing d labels.Answer i dir h conns = if is_tracked conns i dir h then record { by = Some bys.Tracked; conns = conns } else answer_passing conns (first_rule d (interface_at d i) dir h)

-- an interface without groups lets everything pass (profile)
abbrev pub passing_groups : Description → Label → EniNo → Dir → Header → List Connection → List (List ℕ) → Passing
passing_groups d label i dir h conns [] = record { by = Some bys.NoGroups; conns = conns }
passing_groups d label i dir h conns (_ ∷ _) = label_passing d label i dir h conns

-- how a packet passes the groups of an interface (VPC User Guide, "Security groups")
abbrev pub passing_of : Description → Label → EniNo → Dir → Header → List Connection → Passing
passing_of d label i dir h conns = let e = interface_at d i in passing_groups d label i dir h conns e.groups

-- What the rules say of the packets of a flow at an interface: the ACL of its subnet, and its security groups.
use Rattle.std.specs.List.{list_any}
use Rattle.std.specs.Prelude.{◌&&◌, ◌∷◌, ◌||◌, [], if◌then◌else◌, Bool, List, None, Option, Some, bytes_eq, false, is_some, option_map, true, ℕ}
use Rattle.vpc_base.specs.Dir.{opposite}
use Rattle.vpc_base.specs.Header.{reply_of}
use Rattle.vpc_base.specs.declared.headers.Dir.TheVariants as dirs
use Rattle.vpc_laws.specs.Types.{By, Description, Dir, EniNo, Header, Interface, RuleRef, Stop}
use Rattle.vpc_model.specs.Choice.{or_else}
use Rattle.vpc_model.specs.Groups.{first_rule}
use Rattle.vpc_model.specs.Lookup.{has_address, interface_at, subnet_of}
use Rattle.vpc_model.specs.Step.Crossing.{entering, leaving}
use Rattle.vpc_model.specs.declared.outcomes.By.TheVariants as bys
use Rattle.vpc_model.specs.declared.stops.Stop.TheVariants as stops

-- ---- the flow

-- which of the two is the interface's own
abbrev pub one_of : Bool → Bool → Option Dir
one_of false false = None
one_of true true = None
one_of true false = Some dirs.Outward
one_of false true = Some dirs.Inward

-- inward where the destination is a private address of the interface, outward where the source is one; none where both are or neither is
abbrev pub direction_of : Interface → ℕ → ℕ → Option Dir
direction_of e src dst = one_of (has_address e src) (has_address e dst)

-- an interface of the same subnet has the address
abbrev pub is_neighbour : Description → Interface → ℕ → Bool
is_neighbour d e a = list_any (λ o. bytes_eq o.subnet e.subnet && has_address o a) d.interfaces

-- ---- the rules

-- the stop of the ACL of the interface's subnet, if it refuses the packet
abbrev pub acl_stop : Description → EniNo → Dir → Header → Option Stop
acl_stop d i dirs.Inward h = entering d (subnet_of d i) h
acl_stop d i dirs.Outward h = leaving d (subnet_of d i) h

-- the ACL judges what crosses the border of the subnet, and nothing between neighbours (VPC User Guide, "Network ACLs")
abbrev pub border_stop : Description → EniNo → Dir → Header → Bool → Option Stop
border_stop d i dir h inside = if inside then None else acl_stop d i dir h

-- by what these groups let a packet pass, by this first rule
abbrev pub by_groups : List (List ℕ) → Option RuleRef → Option By
by_groups [] rule = Some bys.NoGroups
by_groups (_ ∷ _) rule = option_map (λ r. bys.Rule r) rule

-- by what the groups of the interface let a packet pass that belongs to no connection
abbrev pub groups_pass : Description → EniNo → Dir → Header → Option By
groups_pass d i dir h = let e = interface_at d i in by_groups e.groups (first_rule d e dir h)

-- they let a packet pass, if there is one
abbrev pub pass_reply : Description → EniNo → Dir → Option Header → Bool
pass_reply d i dir None = false
pass_reply d i dir (Some reply) = is_some (groups_pass d i dir reply)

-- they let the reply pass, so the packet may be the answer of a connection that came the other way
abbrev pub other_way_passes : Description → EniNo → Dir → Header → Bool
other_way_passes d i dir h = pass_reply d i (opposite dir) (reply_of h)

-- the stop of the groups
abbrev pub groups_stop : EniNo → Dir → Stop
groups_stop i dirs.Inward = stops.GroupsIn i
groups_stop i dirs.Outward = stops.GroupsOut i

-- the stop of the groups of a connection's packet, whichever side opened it
abbrev pub connection_stop : Description → EniNo → Dir → Header → Option Stop
connection_stop d i dir h = if is_some (groups_pass d i dir h) || other_way_passes d i dir h then None else Some (groups_stop i dir)

-- the stop that is met first: the ACL stands before the groups on the way in, and behind them on the way out
abbrev pub met_first : Dir → Option Stop → Option Stop → Option Stop
met_first dirs.Inward border groups = or_else border groups
met_first dirs.Outward border groups = or_else groups border

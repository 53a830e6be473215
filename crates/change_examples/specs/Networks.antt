-- A small network, and others that it becomes.
use Rattle.std.specs.Prelude.{◌∷◌, [], List, None, Option, Some, codes, ℕ}
use Rattle.journey_changes.specs.declared.changes.Change.{Change}
use Rattle.journey_changes.specs.Fates.{Fate}
use Rattle.journey_changes.specs.Sent.{fate}
use Rattle.query_words.specs.declared.changes.ChangeQuery.{ChangeQuery}
use Rattle.query_words.specs.declared.changes.ChangedEnd.{ChangedEnd}
use Rattle.vpc_examples.specs.Examples.{eni}
use Rattle.vpc_examples.specs.Networks.{acl_1, allow_all, anywhere, bare, group, host, https_from_group, route, site_acl, site_group, site_host, site_subnet, site_table, site_vpc, two_subnets, v4}
use Rattle.vpc_laws.specs.Types.{Description, Group, Header, Interface, Permission, Route}
use Rattle.vpc_model.specs.declared.places.End.TheVariants as ends
use Rattle.vpc_model.specs.declared.rows.Target.TheVariants as targets
use Rattle.changed_ends.specs.Asked.{Comparison, comparison}
use Rattle.change_report.specs.Told.{change_in, sent_after, sent_before}

-- ---- networks

-- two hosts in two subnets, of which the first opens HTTPS of the second
abbrev pub plain : Description
plain = two_subnets (acl_1 ∷ [])

-- TCP to ports of a range, from the members of the first host's group
abbrev pub ports_from_a : ℕ → ℕ → Permission
ports_from_a from to = record (https_from_group (codes "sg-a")) { q_from = from; q_to = to }

-- the groups of the two hosts, with these rules of the second
abbrev pub groups_with : List Permission → List Group
groups_with rules = group (codes "sg-a") (codes "vpc-1") [] (allow_all ∷ []) ∷ group (codes "sg-b") (codes "vpc-1") rules [] ∷ []

-- the second host also takes port 80 of the first
abbrev pub with_port_80 : Description
with_port_80 = record plain { groups = groups_with (ports_from_a 443 443 ∷ ports_from_a 80 80 ∷ []) }

-- the second host takes ports 80 to 443, by one rule or by two
abbrev pub with_a_range : Description
with_a_range = record plain { groups = groups_with (ports_from_a 80 443 ∷ []) }

abbrev pub with_a_range_in_two : Description
with_a_range_in_two = record plain { groups = groups_with (ports_from_a 200 443 ∷ ports_from_a 80 199 ∷ []) }

abbrev pub first_host : Interface
first_host = host (codes "eni-a") (codes "subnet-a") (v4 10 0 1 10) (codes "sg-a")

abbrev pub second_host : Interface
second_host = host (codes "eni-b") (codes "subnet-b") (v4 10 0 2 20) (codes "sg-b")

-- a third host, in the group of the first
abbrev pub with_a_third_host : Description
with_a_third_host = record plain { interfaces = first_host ∷ second_host ∷ host (codes "eni-c") (codes "subnet-a") (v4 10 0 1 30) (codes "sg-a") ∷ [] }

-- the second host made anew under another id, with the same address
abbrev pub second_made_anew : Description
second_made_anew = record plain { interfaces = first_host ∷ host (codes "eni-b2") (codes "subnet-b") (v4 10 0 2 20) (codes "sg-b") ∷ [] }

-- the same two hosts, described in the other order
abbrev pub in_other_order : Description
in_other_order = record plain { interfaces = second_host ∷ first_host ∷ [] }

-- two VPCs with a peering between them and a host each, 10.1.1.10 and 10.2.1.10; each has these routes beside its own
abbrev pub peers_with : List Route → List Route → Description
peers_with of_a of_b = record (bare (site_vpc (codes "a") 1 ∷ site_vpc (codes "b") 2 ∷ []) (site_subnet (codes "a") ∷ site_subnet (codes "b") ∷ [])) {
  interfaces = site_host (codes "a") 1 ∷ site_host (codes "b") 2 ∷ [];
  tables = site_table (codes "a") 1 of_a ∷ site_table (codes "b") 2 of_b ∷ [];
  acls = site_acl (codes "a") (codes "subnet-a" ∷ []) ∷ site_acl (codes "b") (codes "subnet-b" ∷ []) ∷ [];
  groups = site_group (codes "a") ∷ site_group (codes "b") ∷ [];
  peerings = record { id = codes "pcx-ab"; pair = Some (codes "vpc-a", codes "vpc-b") } ∷ [];
}

-- a route over the peering
abbrev pub over_peering : List Route
over_peering = route anywhere (targets.Peer (codes "pcx-ab")) ∷ []

-- the two VPCs without a route over the peering, with one of the first alone, and with one of each
abbrev pub unrouted : Description
unrouted = peers_with [] []

abbrev pub routed_one_way : Description
routed_one_way = peers_with over_peering []

abbrev pub routed_both_ways : Description
routed_both_ways = peers_with over_peering over_peering

-- ---- requests

-- ends by their numbers in the two networks
abbrev pub numbered_in : ℕ → ℕ → ChangedEnd
numbered_in i j = record { before = Some (ends.Interface (eni i)); after = Some (ends.Interface (eni j)) }

-- an end that the network after has alone, and one that the network before had alone
abbrev pub new_at : ℕ → ChangedEnd
new_at j = record { before = None; after = Some (ends.Interface (eni j)) }

abbrev pub gone_from : ℕ → ChangedEnd
gone_from i = record { before = Some (ends.Interface (eni i)); after = None }

-- all requests, toward a goal if there is one
abbrev pub all_toward : Option ChangedEnd → ChangeQuery
all_toward goal = record { start = None; goal = goal; pairs = record { proto = (0, 255); src = None; dst = None; p = (0, 65535); q = (0, 65535); max = 20000 } }

-- what changes for a request, toward any end or toward a goal
abbrev pub change_for : Description → Description → ChangedEnd → Header → Option Change
change_for before after start h = change_in (comparison before after (all_toward None)) start h

abbrev pub change_toward : Description → Description → ChangedEnd → ChangedEnd → Header → Option Change
change_toward before after goal start h = change_in (comparison before after (all_toward (Some goal))) start h

-- what becomes of a request in each network
abbrev pub fates_for : Description → Description → ChangedEnd → Header → Fate × Fate
fates_for before after start h =
    let c : Comparison = comparison before after (all_toward None) in
    (fate (sent_before c start) h, fate (sent_after c start) h)

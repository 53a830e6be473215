-- The reply of a request, where it is walked, and the cuts on which the verdict depends: those of the places of the two walks.
use Rattle.std.specs.Prelude.{◌++◌, ◌∷◌, ◌≡◌, [], List, Some, codes, false, map, true, ℕ}
use Rattle.vpc_laws.specs.Types.{Description, End, Header, Hop, Place, RouteTable}
use Rattle.vpc_model.specs.declared.places.Came.TheVariants as from
use Rattle.vpc_model.specs.declared.places.End.TheVariants as ends
use Rattle.vpc_model.specs.declared.places.Place.TheVariants as places
use Rattle.vpc_model.specs.declared.rows.Target.TheVariants as targets
use Rattle.vpc_base.specs.Cuts.{CutLists, joined_cuts}
use Rattle.vpc_examples.specs.CutRows.{are_exactly, unroutable_cuts}
use Rattle.vpc_examples.specs.Examples.{eni, subnet, tcp}
use Rattle.vpc_examples.specs.Networks.{acl, allow_all, anywhere, bare, block, group, host, https_from, local_1, open_rows, route, subnet_row, subnet_table, tcp_row, tgw_blackhole, v4, vpc_1}
use Rattle.vpc_examples.specs.Stops.{neighbours}
use Rattle.vpc_model.specs.Appliances.{appliances_of}
use Rattle.vpc_model.specs.Cuts.{cuts_of}
use Rattle.vpc_model.specs.Near.{near_cuts}
use Rattle.vpc_model.specs.Verdict.{reply_hops}

-- ---- where a reply is walked

abbrev pub reply_places : Description → End → Header → List Place
reply_places d goal h = map (λ (x : Hop). x.place) (reply_hops d (appliances_of d) (ends.Interface (eni 0)) goal h)

-- the reply is walked from the target where the request arrived there and has a reply, and nowhere else: not where it arrived at
-- another end, was stopped, or is a message without a reply
abbrev pub RepliesAreWalkedFromTheTarget : Type 0
RepliesAreWalkedFromTheTarget =
    let h : Header = tcp (v4 10 0 1 10) (v4 10 0 2 20) 5000 443 in
    (reply_places neighbours (ends.Interface (eni 1)) h ≡ places.OutOf (eni 1) ∷ places.Router (subnet 1) (from.Host (eni 1)) ∷ places.Into (eni 0) ∷ [])
    × ((reply_places neighbours (ends.Interface (eni 2)) h ≡ [])
    × ((reply_places neighbours ends.Internet h ≡ [])
    × ((reply_places neighbours (ends.Interface (eni 1)) (record h { q = 80 }) ≡ [])
    × (reply_places neighbours (ends.Interface (eni 2)) (record h { proto = 1; dst = v4 10 0 1 11; q = 0 }) ≡ []))))

-- ---- near cuts

-- a subnet's table: the local route, and one to a block of its own
abbrev pub own_table : List ℕ → ℕ → RouteTable
own_table c n = subnet_table (codes "rtb-" ++ c) (codes "vpc-1") (codes "subnet-" ++ c) (local_1 ∷ route (block (v4 10 n 0 0) 16) (targets.Other (codes "vgw-1")) ∷ [])

-- three hosts in subnets of their own, each with a table and a group that cut at numbers of their own; a transit table and a
-- prefix list that nothing asks; only the third subnet's ACL cuts at such numbers
abbrev pub three_apart : Description
three_apart = record (bare (vpc_1 ∷ []) (subnet_row (codes "subnet-a") (codes "vpc-1") (codes "z") ∷ subnet_row (codes "subnet-b") (codes "vpc-1") (codes "z") ∷ subnet_row (codes "subnet-c") (codes "vpc-1") (codes "z") ∷ [])) {
  interfaces = host (codes "eni-a") (codes "subnet-a") (v4 10 0 1 10) (codes "sg-a") ∷ host (codes "eni-b") (codes "subnet-b") (v4 10 0 2 20) (codes "sg-b") ∷ host (codes "eni-c") (codes "subnet-c") (v4 10 0 3 30) (codes "sg-c") ∷ [];
  tables = own_table (codes "a") 110 ∷ own_table (codes "b") 120 ∷ own_table (codes "c") 130 ∷ [];
  lists = record { id = codes "pl-1"; entries = block (v4 54 0 0 0) 8 ∷ [] } ∷ [];
  acls = acl (codes "acl-1") (codes "subnet-a" ∷ codes "subnet-b" ∷ []) open_rows ∷ acl (codes "acl-c") (codes "subnet-c" ∷ []) (tcp_row 100 false true 2001 2009 (block (v4 10 150 0 0) 16) ∷ []) ∷ [];
  groups = group (codes "sg-a") (codes "vpc-1") [] (record allow_all { proto = Some 6; q_from = 80; q_to = 6000 } ∷ [])
      ∷ group (codes "sg-b") (codes "vpc-1") (https_from anywhere ∷ record (https_from (block (v4 10 160 0 0) 16)) { proto = Some 50 } ∷ []) []
      ∷ group (codes "sg-c") (codes "vpc-1") (record (https_from (block (v4 10 170 0 0) 16)) { proto = Some 51; q_from = 7000; q_to = 7009 } ∷ []) [] ∷ [];
  tgw_tables = record { id = codes "tgw-rtb-1"; routes = tgw_blackhole (block (v4 10 140 0 0) 16) ∷ [] } ∷ [];
}

-- what every place may ask: the VPC, the three hosts' addresses and the ACLs' rows
abbrev pub standing_apart : CutLists
standing_apart = record {
  proto = 1 ∷ 2 ∷ 6 ∷ 7 ∷ 17 ∷ 18 ∷ [];
  addr = unroutable_cuts ++ (v4 10 1 0 0 ∷ v4 10 0 1 10 ∷ v4 10 0 1 11 ∷ v4 10 0 2 20 ∷ v4 10 0 2 21 ∷ v4 10 0 3 30 ∷ v4 10 0 3 31 ∷ v4 10 150 0 0 ∷ v4 10 151 0 0 ∷ []);
  p = 0 ∷ 1024 ∷ 977 ∷ 986 ∷ 2001 ∷ 2010 ∷ 64512 ∷ [];
  q = 0 ∷ 2048 ∷ 2049 ∷ 2001 ∷ 2010 ∷ [];
}

-- the group of the first host, its subnet's table, the group of the second host and its subnet's table
abbrev pub group_a_cuts : CutLists
group_a_cuts = record { proto = 6 ∷ 7 ∷ []; addr = 0 ∷ []; p = 80 ∷ 6001 ∷ 4977 ∷ []; q = 80 ∷ 6001 ∷ [] }

abbrev pub table_a_cuts : CutLists
table_a_cuts = record { proto = []; addr = v4 10 110 0 0 ∷ v4 10 111 0 0 ∷ []; p = []; q = [] }

abbrev pub group_b_cuts : CutLists
group_b_cuts = record { proto = 50 ∷ 51 ∷ []; addr = v4 10 160 0 0 ∷ v4 10 161 0 0 ∷ []; p = 443 ∷ 444 ∷ []; q = 443 ∷ 444 ∷ [] }

abbrev pub table_b_cuts : CutLists
table_b_cuts = record { proto = []; addr = v4 10 120 0 0 ∷ v4 10 121 0 0 ∷ []; p = []; q = [] }

abbrev pub near_of : End → Header → CutLists
near_of goal h = near_cuts three_apart (appliances_of three_apart) (ends.Interface (eni 0)) goal h

-- near cuts are those of the places of the two walks, and no others: of both groups and both tables where the reply is walked; but
-- for the table that the reply alone asks, where the second host's groups stop the request, or it arrives at another end; and of the
-- first host's groups alone, where the request gets no further
abbrev pub NearCutsAreOfTheTwoWalks : Type 0
NearCutsAreOfTheTwoWalks =
    let h : Header = tcp (v4 10 0 1 10) (v4 10 0 2 20) 5000 443 in
    let way_there : CutLists = joined_cuts standing_apart (joined_cuts group_a_cuts (joined_cuts table_a_cuts group_b_cuts)) in
    (are_exactly (near_of (ends.Interface (eni 1)) h) (joined_cuts way_there table_b_cuts) ≡ true)
    × ((are_exactly (near_of (ends.Interface (eni 1)) (record h { q = 81 })) way_there ≡ true)
    × ((are_exactly (near_of (ends.Interface (eni 2)) h) way_there ≡ true)
    × ((are_exactly (near_of (ends.Interface (eni 1)) (record h { q = 79 })) (joined_cuts standing_apart group_a_cuts) ≡ true)
    × (are_exactly (cuts_of three_apart) (joined_cuts way_there table_b_cuts) ≡ false))))

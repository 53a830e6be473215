-- Choices among rows, and what a rule's far address is.
use Rattle.std.specs.Prelude.{◌∷◌, ◌≡◌, [], List, None, Option, Some, codes, false, true}
use Rattle.vpc_laws.specs.Types.{Block, Description, Header, Permission, RuleRef}
use Rattle.vpc_base.specs.declared.headers.Dir.TheVariants as dirs
use Rattle.vpc_base.specs.declared.headers.Label.TheVariants as labels
use Rattle.vpc_model.specs.declared.places.Place.TheVariants as places
use Rattle.vpc_model.specs.declared.rows.Target.TheVariants as targets
use Rattle.vpc_examples.specs.Examples.{a_to_server, connection, eni, first_walk, subnet, tcp}
use Rattle.vpc_examples.specs.Networks.{allow_all, allow_row, anywhere, block, group, https_from, learnt_route, list_route, main_table, one_list, subnet_table, v4}
use Rattle.vpc_examples.specs.Stops.{plain_vpc}
use Rattle.vpc_model.specs.Acls.{acl_verdict}
use Rattle.vpc_model.specs.Connections.{Connection}
use Rattle.vpc_model.specs.Groups.{first_rule}
use Rattle.vpc_model.specs.Lookup.{interface_at, table_of}
use Rattle.vpc_model.specs.Routes.{chosen_route}
use Rattle.vpc_model.specs.Walk.{Walk}

abbrev pub out_rule : Description → Header → Option RuleRef
out_rule d h = first_rule d (interface_at d (eni 0)) dirs.Outward h

-- the first host's group lets out HTTPS to this block
abbrev pub lets_out : Block → Description
lets_out b = record plain_vpc { groups = group (codes "sg-a") (codes "vpc-1") [] (https_from b ∷ []) ∷ [] }

-- outbound rules and rows look at the destination, inbound ones at the source
abbrev pub FarAddressIsOutside : Type 0
FarAddressIsOutside =
    (out_rule (lets_out (block (v4 198 51 100 0) 24)) (a_to_server 0) ≡ Some (record { group = record { 0 = 0 }; dir = dirs.Outward; number = 1 }))
    × ((out_rule (lets_out (block (v4 10 0 1 0) 24)) (a_to_server 0) ≡ None)
    × ((acl_verdict (allow_row 100 true (block (v4 198 51 100 0) 24) ∷ []) dirs.Outward (a_to_server 0) ≡ (true, 100))
    × ((acl_verdict (allow_row 100 true (block (v4 10 0 1 0) 24) ∷ []) dirs.Outward (a_to_server 0) ≡ (false, 32767))
    × (acl_verdict (allow_row 100 false (block (v4 10 0 1 0) 24) ∷ []) dirs.Inward (a_to_server 0) ≡ (true, 100)))))

-- of two rules that match the first counts, and a rule may name two prefix lists
abbrev pub FirstRuleCounts : Type 0
FirstRuleCounts =
    let rules : List Permission = https_from (block (v4 198 51 100 0) 24) ∷ allow_all ∷ [] in
    let by_lists : Permission = record (https_from anywhere) { blocks = []; lists = codes "pl-1" ∷ codes "pl-2" ∷ [] } in
    let d : Description = record plain_vpc {
      groups = group (codes "sg-a") (codes "vpc-1") [] rules ∷ [];
    } in
    let e : Description = record plain_vpc {
      lists = record { id = codes "pl-1"; entries = block (v4 192 0 2 0) 24 ∷ [] } ∷ record { id = codes "pl-2"; entries = block (v4 198 51 100 0) 24 ∷ [] } ∷ [];
      groups = group (codes "sg-a") (codes "vpc-1") [] (by_lists ∷ []) ∷ [];
    } in
    (out_rule d (a_to_server 0) ≡ Some (record { group = record { 0 = 0 }; dir = dirs.Outward; number = 1 }))
    × ((out_rule d (tcp (v4 10 0 1 10) (v4 192 0 2 1) 0 443) ≡ Some (record { group = record { 0 = 0 }; dir = dirs.Outward; number = 2 }))
    × ((out_rule e (a_to_server 0) ≡ Some (record { group = record { 0 = 0 }; dir = dirs.Outward; number = 1 }))
    × (out_rule e (tcp (v4 10 0 1 10) (v4 203 0 113 1) 0 443) ≡ None)))

-- a subnet has the table that is associated with it, else the main table of its own VPC
abbrev pub MainTableServesTheRest : Type 0
MainTableServesTheRest =
    let d : Description = record plain_vpc {
      tables = subnet_table (codes "rtb-b") (codes "vpc-1") (codes "subnet-b") [] ∷ main_table (codes "rtb-2") (codes "vpc-2") [] ∷ main_table (codes "rtb-1") (codes "vpc-1") [] ∷ [];
    } in
    (table_of d (subnet 0) ≡ record { 0 = 2 }) × (table_of d (subnet 1) ≡ record { 0 = 0 })

-- a propagated route counts where no local one matches, and comes after one to a prefix list of the same length
abbrev pub PropagatedRouteCounts : Type 0
PropagatedRouteCounts =
    (chosen_route one_list (learnt_route anywhere (targets.Other (codes "vgw-1")) ∷ []) (v4 10 1 2 20) ≡ Some 0)
    × (chosen_route one_list (learnt_route (block (v4 10 0 0 0) 8) (targets.Other (codes "vgw-1")) ∷ list_route (codes "pl-1") (targets.Other (codes "vgw-2")) ∷ []) (v4 10 1 2 20) ≡ Some 1)

abbrev pub conns_after : Walk → List Connection
conns_after w = w.conns

-- an open that the sender's groups refuse leaves nothing behind, and one that the receiver's refuse only what it left at the sender
abbrev pub RefusedOpenIsForgotten : Type 0
RefusedOpenIsForgotten =
    let b_to_a : Header = tcp (v4 10 0 2 20) (v4 10 0 1 10) 0 443 in
    let a_to_b : Header = tcp (v4 10 0 1 10) (v4 10 0 2 20) 0 80 in
    (conns_after (first_walk plain_vpc labels.Opening (places.OutOf (eni 1)) b_to_a) ≡ [])
    × (conns_after (first_walk plain_vpc labels.Opening (places.OutOf (eni 0)) a_to_b) ≡ connection 0 dirs.Outward a_to_b ∷ [])

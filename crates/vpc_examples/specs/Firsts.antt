-- Which of several is told, or gets the packet: groups that allow it, ACLs that refuse it, NAT gateways that it comes to.
use Rattle.std.specs.Prelude.{◌∷◌, ◌≡◌, [], List, Some, codes, false, map, true, ℕ}
use Rattle.vpc_laws.specs.Types.{AclRow, By, Description, NatGateway, Outcome, Permission}
use Rattle.vpc_model.specs.declared.outcomes.By.TheVariants as bys
use Rattle.vpc_base.specs.declared.headers.Dir.TheVariants as dirs
use Rattle.vpc_model.specs.declared.places.End.TheVariants as ends
use Rattle.vpc_base.specs.declared.headers.Label.TheVariants as labels
use Rattle.vpc_model.specs.declared.rows.NatLife.TheVariants as lives
use Rattle.vpc_model.specs.declared.outcomes.Outcome.TheVariants as outcomes
use Rattle.vpc_model.specs.declared.outcomes.Phase.TheVariants as phases
use Rattle.vpc_model.specs.declared.places.Place.TheVariants as places
use Rattle.vpc_model.specs.declared.stops.Stop.TheVariants as stops
use Rattle.vpc_model.specs.declared.rows.Target.TheVariants as targets
use Rattle.vpc_model.specs.declared.outcomes.Verdict.TheVariants as verdicts
use Rattle.vpc_examples.specs.Choices.{out_rule}
use Rattle.vpc_examples.specs.Examples.{a_to_c, a_to_server, eni, first_walk, from_server, hops_of, nat, outcome_of, rule, tcp, verdict_in}
use Rattle.vpc_examples.specs.Networks.{acl, allow_all, anywhere, behind_nat, block, group, host_at_attachment, https_from, local_1, main_table, open_rows, route, subnet_table, tcp_row, transit, v4}
use Rattle.vpc_examples.specs.Stops.{a_over_transit, eni_a, eni_b, inward_rule, open_from_a, open_from_internet, plain_vpc, with_hosts, with_route}

-- ---- groups

-- a rule for TCP to port 22
abbrev pub ssh : Permission
ssh = record (https_from anywhere) { q_from = 22; q_to = 22 }

-- groups of the hosts: sg-1 and sg-2 both let HTTPS in and everything out, sg-1 by its second rules and sg-2, which is described
-- first, by its first ones; sg-0 does neither
abbrev pub with_groups : List (List ℕ) → List (List ℕ) → Description
with_groups of_a of_b = record (with_hosts (record eni_a { groups = of_a }) (record eni_b { groups = of_b })) {
  groups = group (codes "sg-2") (codes "vpc-1") (https_from anywhere ∷ []) (allow_all ∷ [])
      ∷ group (codes "sg-1") (codes "vpc-1") (ssh ∷ https_from anywhere ∷ []) (ssh ∷ allow_all ∷ [])
      ∷ group (codes "sg-0") (codes "vpc-1") (ssh ∷ []) (ssh ∷ []) ∷ [];
}

-- of several groups that allow a packet the first in the interface's list is told, wherever they are described and whatever the
-- numbers of their rules
abbrev pub FirstGroupIsTold : Type 0
FirstGroupIsTold =
    let one_first : List (List ℕ) = codes "sg-0" ∷ codes "sg-1" ∷ codes "sg-2" ∷ [] in
    let two_first : List (List ℕ) = codes "sg-0" ∷ codes "sg-2" ∷ codes "sg-1" ∷ [] in
    let passed_by : Description → List By = (λ d. map (λ h. h.by) (hops_of (first_walk d labels.Opening (places.OutOf (eni 0)) (a_to_c 0)))) in
    (inward_rule (with_groups [] one_first) 1 (a_to_c 0) ≡ Some (record { group = record { 0 = 1 }; dir = dirs.Inward; number = 2 }))
    × ((inward_rule (with_groups [] two_first) 1 (a_to_c 0) ≡ Some (record { group = record { 0 = 0 }; dir = dirs.Inward; number = 1 }))
    × ((out_rule (with_groups one_first []) (a_to_c 0) ≡ Some (record { group = record { 0 = 1 }; dir = dirs.Outward; number = 2 }))
    × ((out_rule (with_groups two_first []) (a_to_c 0) ≡ Some (record { group = record { 0 = 0 }; dir = dirs.Outward; number = 1 }))
    × (passed_by (with_groups two_first one_first) ≡ rule 0 dirs.Outward 1 ∷ bys.Nothing ∷ rule 1 dirs.Inward 2 ∷ []))))

-- ---- ACLs

-- rows that deny TCP on the way out, and on the way in by a lower number
abbrev pub shut_rows : List AclRow
shut_rows = tcp_row 90 true false 0 65535 anywhere ∷ tcp_row 80 false false 0 65535 anywhere ∷ []

-- the first subnet's ACL lets no TCP out, and that of the other subnet, which is described before it, no TCP in
abbrev pub shut_both : List ℕ → Description → Description
shut_both other d = record d { acls = acl (codes "acl-in") (other ∷ []) shut_rows ∷ acl (codes "acl-out") (codes "subnet-a" ∷ []) shut_rows ∷ d.acls }

-- where the ACLs of both subnets refuse a packet, that of the subnet which it leaves is told: by a local route, one to an
-- interface, one to a NAT gateway, and into a transit gateway, also from its attachment's own subnet
abbrev pub ExitIsToldFirst : Type 0
ExitIsToldFirst =
    let left : Outcome = outcomes.Stopped (stops.AclOut (record { 0 = 1 }) 90) in
    let to_b : Description = with_route (route (block (v4 10 9 0 0) 16) (targets.Interface (codes "eni-b"))) in
    let within : Description = host_at_attachment (shut_both (codes "subnet-ta") transit) in
    (open_from_a (shut_both (codes "subnet-b") plain_vpc) (a_to_c 0) ≡ left)
    × ((open_from_a (shut_both (codes "subnet-b") to_b) (tcp (v4 10 0 1 10) (v4 10 9 0 1) 0 443) ≡ left)
    × ((open_from_a (shut_both (codes "subnet-n") (behind_nat open_rows)) (a_to_server 0) ≡ left)
    × ((open_from_a (shut_both (codes "subnet-ta") transit) a_over_transit ≡ left)
    × (outcome_of (first_walk within labels.Opening (places.OutOf (eni 3)) (tcp (v4 10 1 3 10) (v4 10 2 1 10) 0 443)) ≡ outcomes.Stopped (stops.AclOut (record { 0 = 0 }) 90)))))

-- ---- NAT gateways

abbrev pub at_eni_n : List ℕ → NatGateway
at_eni_n id = record { id = id; life = lives.Live (codes "subnet-n") (codes "eni-n") (v4 10 0 3 5) }

-- two NAT gateways share an interface, after one that is gone; the hosts send by this one
abbrev pub shared_by_two : List ℕ → Description
shared_by_two id = record (behind_nat open_rows) {
  tables = main_table (codes "rtb-1") (codes "vpc-1") (local_1 ∷ route anywhere (targets.Nat id) ∷ [])
      ∷ subnet_table (codes "rtb-n") (codes "vpc-1") (codes "subnet-n") (local_1 ∷ route anywhere (targets.Internet (codes "igw-1")) ∷ []) ∷ [];
  nats = record { id = codes "nat-0"; life = lives.Gone } ∷ at_eni_n (codes "nat-1") ∷ at_eni_n (codes "nat-2") ∷ [];
}

-- what comes to an interface that two NAT gateways share is the first one's: a reply to what the first sent out returns, and one
-- to what the second sent out is the first's to refuse
abbrev pub FirstGatewayIsReached : Type 0
FirstGatewayIsReached =
    let refused : Outcome = outcomes.Stopped (stops.NatUnsolicited (nat 1)) in
    (open_from_internet (shared_by_two (codes "nat-1")) (from_server 5000) ≡ refused)
    × ((open_from_a (shared_by_two (codes "nat-1")) (tcp (v4 10 0 1 10) (v4 10 0 3 5) 0 443) ≡ refused)
    × ((verdict_in (shared_by_two (codes "nat-1")) (ends.Interface (eni 0)) ends.Internet (a_to_server 5000) ≡ verdicts.Through)
    × (verdict_in (shared_by_two (codes "nat-2")) (ends.Interface (eni 0)) ends.Internet (a_to_server 5000) ≡ verdicts.Stopped phases.Reply (stops.NatUnsolicited (nat 1)))))

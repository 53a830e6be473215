-- What the rows of a generated network name is there.
use Rattle.std.proofs.Common.{◌++◌, ◌≡◌, ◌≤◌, ◌∙◌, ◌∷◌, [], Bool, List, arith, bytes_eq, codes, refl, subst, sym, true, ℕ}
use Rattle.std.specs.List.{flat_map}
use Rattle.std.proofs.lemmas.Bool.{and_from, cond-true}
use Rattle.std.proofs.lemmas.Grind.{flat_map-append}
use Rattle.vpc_base.proofs.Members.{nothing-append}
use Rattle.vpc_model.specs.Accepted.{is_subnet_of, missing_of_acl, missing_of_appliance, missing_of_attachment, missing_of_firewall, missing_of_group, missing_of_igw, missing_of_interface, missing_of_life, missing_of_subnet, missing_of_table, missing_references, wanted}
use Rattle.vpc_model.specs.Lookup.{has_group, has_list, has_subnet, has_vpc, no_subnet, subnet_at, subnet_no}
use Rattle.vpc_model.specs.declared.rows.NatGateway.{NatGateway}
use Rattle.made_network.specs.Types.{Group, Permission, Subnet, Vpc}
use Rattle.made_network.specs.Made.{group_id, made, made_acl, made_attachment, made_group, made_interface, made_subnet, made_table, made_vpc, port_rule, subnet_id, vpc_id}
use Rattle.made_network.proofs.Numbers.{numbered-same, numbered-self}
use Rattle.made_network.proofs.Ranges.{IsOneOf, flat_map-each, flat_map-none, found-each, list_any-each}

wanted-there : (is_there : Bool) (from to : List ℕ) → is_there ≡ true → wanted is_there from to ≡ []
wanted-there is_there from to e = rw e

-- ---- VPCs, subnets and groups

vpc-there : (n k : ℕ) → IsOneOf 1 n k → has_vpc (made n) (vpc_id k) ≡ true
vpc-there n k one = list_any-each (λ (v : Vpc). bytes_eq v.id (vpc_id k)) made_vpc 1 n k one (numbered-self (codes "vpc") k)

subnet-there : (n k : ℕ) → IsOneOf 1 n k → has_subnet (made n) (subnet_id k) ≡ true
subnet-there n k one = list_any-each (λ (s : Subnet). bytes_eq s.id (subnet_id k)) made_subnet 1 n k one (numbered-self (codes "subnet") k)

group-there : (n k : ℕ) → IsOneOf 1 n k → has_group (made n) (group_id k) ≡ true
group-there n k one = list_any-each (λ (g : Group). bytes_eq g.id (group_id k)) made_group 1 n k one (numbered-self (codes "sg") k)

subnet-found : (n k : ℕ) → n ≤ 50 → IsOneOf 1 n k → subnet_at (made n) (subnet_no (made n) (subnet_id k)) ≡ made_subnet k
subnet-found n k most one =
    found-each (λ (s : Subnet). bytes_eq s.id (subnet_id k)) made_subnet 1 n k no_subnet one (numbered-self (codes "subnet") k)
    (λ j other same. numbered-same (codes "subnet") j k (omega (arith, other.1, most)) (omega (arith, one.1, most)) same)

subnet-in_vpc : (n k : ℕ) → n ≤ 50 → IsOneOf 1 n k → is_subnet_of (made n) (vpc_id k) (subnet_id k) ≡ true
subnet-in_vpc n k most one =
    let found = subnet-found n k most one in
    let inside = subst (λ (s : Subnet). bytes_eq s.vpc (vpc_id k) ≡ true) (sym found) (numbered-self (codes "vpc") k) in
    and_from (has_subnet (made n) (subnet_id k)) _ (subnet-there n k one) inside

-- ---- one kind of row at a time

of_subnet : (n k : ℕ) → IsOneOf 1 n k → missing_of_subnet (made n) (made_subnet k) ≡ []
of_subnet n k one = wanted-there (has_vpc (made n) (vpc_id k)) _ _ (vpc-there n k one)

of_interface : (n k : ℕ) → IsOneOf 1 n k → missing_of_interface (made n) (made_interface k) ≡ []
of_interface n k one =
    let e = made_interface k in
    let subnet = wanted-there (has_subnet (made n) (subnet_id k)) e.id (subnet_id k) (subnet-there n k one) in
    let group = wanted-there (has_group (made n) (group_id k)) e.id (group_id k) (group-there n k one) in
    nothing-append (wanted (has_subnet (made n) (subnet_id k)) e.id (subnet_id k)) (flat_map (λ g. wanted (has_group (made n) g) e.id g) (group_id k ∷ [])) subnet
    (flat_map-none (λ g. wanted (has_group (made n) g) e.id g) (group_id k ∷ []) (group, tt))

of_table : (n k : ℕ) → IsOneOf 1 n k → missing_of_table (made n) (made_table k) ≡ []
of_table n k one =
    let t = made_table k in
    let vpc = wanted-there (has_vpc (made n) (vpc_id k)) t.id (vpc_id k) (vpc-there n k one) in
    nothing-append (wanted (has_vpc (made n) (vpc_id k)) t.id (vpc_id k) ++ []) [] (nothing-append (wanted (has_vpc (made n) (vpc_id k)) t.id (vpc_id k)) [] vpc refl) refl

of_acl : (n k : ℕ) → IsOneOf 1 n k → missing_of_acl (made n) (made_acl k) ≡ []
of_acl n k one =
    let a = made_acl k in
    let subnet = wanted-there (has_subnet (made n) (subnet_id k)) a.id (subnet_id k) (subnet-there n k one) in
    flat_map-none (λ s. wanted (has_subnet (made n) s) a.id s) (subnet_id k ∷ []) (subnet, tt)

of_group : (n k : ℕ) → IsOneOf 1 n k → missing_of_group (made n) (made_group k) ≡ []
of_group n k one =
    let g = made_group k in
    let vpc = wanted-there (has_vpc (made n) (vpc_id k)) g.id (vpc_id k) (vpc-there n k one) in
    let of_rule : Permission → List _ = λ p. flat_map (λ l. wanted (has_list (made n) l) g.id l) p.lists in
    let inward = flat_map-each of_rule (port_rule k) 0 100 (λ j within. refl) in
    nothing-append (wanted (has_vpc (made n) (vpc_id k)) g.id (vpc_id k)) (flat_map of_rule (g.inward ++ g.outward)) vpc
    (flat_map-append of_rule g.inward g.outward ∙ nothing-append (flat_map of_rule g.inward) (flat_map of_rule g.outward) inward refl)

of_attachment : (n k : ℕ) → n ≤ 50 → IsOneOf 1 n k → missing_of_attachment (made n) (made_attachment k) ≡ []
of_attachment n k most one =
    let a = made_attachment k in
    let subnet = wanted-there (is_subnet_of (made n) (vpc_id k) (subnet_id k)) a.id (subnet_id k) (subnet-in_vpc n k most one) in
    let of_subnets = flat_map (λ s. wanted (is_subnet_of (made n) a.vpc s) a.id s) a.subnets in
    cond-true (has_vpc (made n) (vpc_id k)) of_subnets [] (vpc-there n k one)
    ∙ flat_map-none (λ s. wanted (is_subnet_of (made n) a.vpc s) a.id s) (subnet_id k ∷ []) (subnet, tt)

-- ---- all of them

pub nothing-missing : (n : ℕ) → n ≤ 50 → missing_references (made n) ≡ []
nothing-missing n most =
    let d = made n in
    let m1 = flat_map (missing_of_subnet d) d.subnets in
    let m2 = m1 ++ flat_map (missing_of_interface d) d.interfaces in
    let m3 = m2 ++ flat_map (missing_of_table d) d.tables in
    let m4 = m3 ++ flat_map (missing_of_acl d) d.acls in
    let m5 = m4 ++ flat_map (missing_of_group d) d.groups in
    let m6 = m5 ++ flat_map (missing_of_igw d) d.igws in
    let m7 = m6 ++ flat_map (λ (g : NatGateway). missing_of_life d g.id g.life) d.nats in
    let m8 = m7 ++ flat_map (missing_of_attachment d) d.attachments in
    let n1 = flat_map-each (missing_of_subnet d) made_subnet 1 n (of_subnet n) in
    let n2 = nothing-append m1 (flat_map (missing_of_interface d) d.interfaces) n1 (flat_map-each (missing_of_interface d) made_interface 1 n (of_interface n)) in
    let n3 = nothing-append m2 (flat_map (missing_of_table d) d.tables) n2 (flat_map-each (missing_of_table d) made_table 1 n (of_table n)) in
    let n4 = nothing-append m3 (flat_map (missing_of_acl d) d.acls) n3 (flat_map-each (missing_of_acl d) made_acl 1 n (of_acl n)) in
    let n5 = nothing-append m4 (flat_map (missing_of_group d) d.groups) n4 (flat_map-each (missing_of_group d) made_group 1 n (of_group n)) in
    let n6 = nothing-append m5 (flat_map (missing_of_igw d) d.igws) n5 refl in
    let n7 = nothing-append m6 (flat_map (λ (g : NatGateway). missing_of_life d g.id g.life) d.nats) n6 refl in
    let n8 = nothing-append m7 (flat_map (missing_of_attachment d) d.attachments) n7 (flat_map-each (missing_of_attachment d) made_attachment 1 n (λ k one. of_attachment n k most one)) in
    let m9 = m8 ++ flat_map (missing_of_appliance d) d.appliances in
    let n9 = nothing-append m8 (flat_map (missing_of_appliance d) d.appliances) n8 refl in
    nothing-append m9 (flat_map (missing_of_firewall d) d.firewalls) n9 refl

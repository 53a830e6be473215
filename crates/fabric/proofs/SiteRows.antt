-- Where interfaces, subnets and NAT gateways lie and which VPCs peerings join, by their numbers.
use Rattle.std.proofs.Common.{◌≡◌, ◌∙◌, ◌<◌, [], List, None, Option, ap, get_or, length, subst, sym, true, ℕ}
use Rattle.std.proofs.lemmas.Bool.{ltb-true}
use Rattle.std.proofs.lemmas.List.{get_or-map, length-map}
use Rattle.vpc_laws.proofs.Numbering.{accepted_numbers_are_in_range}
use Rattle.vpc_laws.specs.Types.{Access, Description, EniNo, Interface, NatGateway, NatNo, PeerNo, Peering, Subnet, SubnetNo, VpcNo}
use Rattle.vpc_model.specs.Accepted.{IsAccepted}
use Rattle.vpc_model.specs.Access.{access_in, access_of}
use Rattle.vpc_model.specs.Lookup.{nat_at, no_interface, no_nat, no_peering, no_subnet, peering_at, subnet_no, subnet_of, vpc_no, vpc_of_subnet}
use Rattle.vpc_model.specs.Sound.{is_eni, is_nat, is_peering, is_subnet, is_vpc}
use Rattle.vpc_model.specs.Step.Nat.{own_subnet}
use Rattle.vpc_model.specs.declared.rows.NatLife.TheVariants as lives
use Rattle.fabric.specs.Sites.{accesses_in, ends_by, ends_in, nat_subnets_in, subnets_in, vpcs_in}

-- the VPCs of a peering
abbrev pub Ends : Type 0
Ends = Option VpcNo × Option VpcNo

pub subnet-within : (d : Description) (i : EniNo) (subnets : List SubnetNo) → subnets ≡ subnets_in d → is_eni d i ≡ true → i.0 < length subnets
subnet-within d i subnets are lies =
    subst (λ (n : ℕ). i.0 < n) (sym (ap length are ∙ length-map d.interfaces (λ (e : Interface). subnet_no d e.subnet))) (ltb-true i.0 (length d.interfaces) lies)

pub subnet-at : (d : Description) (i : EniNo) (subnets : List SubnetNo) (s : SubnetNo) → subnets ≡ subnets_in d → is_eni d i ≡ true → ((none : SubnetNo) → s ≡ get_or subnets i.0 none)
    → s ≡ subnet_of d i
subnet-at d i subnets s are lies is =
    is (subnet_no d no_interface.subnet)
    ∙ (ap (λ (xs : List SubnetNo). get_or xs i.0 (subnet_no d no_interface.subnet)) are ∙ get_or-map (λ (e : Interface). subnet_no d e.subnet) d.interfaces i.0 no_interface (subnet_no d no_interface.subnet) (ltb-true i.0 (length d.interfaces) lies))

pub vpc-within : (d : Description) (s : SubnetNo) (vpcs : List VpcNo) → vpcs ≡ vpcs_in d → is_subnet d s ≡ true → s.0 < length vpcs
vpc-within d s vpcs are lies =
    subst (λ (n : ℕ). s.0 < n) (sym (ap length are ∙ length-map d.subnets (λ (row : Subnet). vpc_no d row.vpc))) (ltb-true s.0 (length d.subnets) lies)

pub vpc-at : (d : Description) (s : SubnetNo) (vpcs : List VpcNo) (v : VpcNo) → vpcs ≡ vpcs_in d → is_subnet d s ≡ true → ((none : VpcNo) → v ≡ get_or vpcs s.0 none) → v ≡ vpc_of_subnet d s
vpc-at d s vpcs v are lies is =
    is (vpc_no d no_subnet.vpc)
    ∙ (ap (λ (xs : List VpcNo). get_or xs s.0 (vpc_no d no_subnet.vpc)) are ∙ get_or-map (λ (row : Subnet). vpc_no d row.vpc) d.subnets s.0 no_subnet (vpc_no d no_subnet.vpc) (ltb-true s.0 (length d.subnets) lies))

pub access-within : (d : Description) (s : SubnetNo) (accesses : List Access) → accesses ≡ accesses_in d → is_subnet d s ≡ true → s.0 < length accesses
access-within d s accesses are lies = subst (λ (n : ℕ). s.0 < n) (sym (ap length are ∙ length-map d.subnets (access_in d))) (ltb-true s.0 (length d.subnets) lies)

pub access-at : (d : Description) (s : SubnetNo) (accesses : List Access) (a : Access) → accesses ≡ accesses_in d → is_subnet d s ≡ true → ((none : Access) → a ≡ get_or accesses s.0 none) → a ≡ access_of d s
access-at d s accesses a are lies is =
    let none = access_in d no_subnet in
    is none ∙ (ap (λ (xs : List Access). get_or xs s.0 none) are ∙ get_or-map (access_in d) d.subnets s.0 no_subnet none (ltb-true s.0 (length d.subnets) lies))

pub nat-within : (d : Description) (n : NatNo) (subnets : List SubnetNo) → subnets ≡ nat_subnets_in d → is_nat d n ≡ true → n.0 < length subnets
nat-within d n subnets are lies =
    subst (λ (k : ℕ). n.0 < k) (sym (ap length are ∙ length-map d.nats (λ (row : NatGateway). subnet_no d (own_subnet row.life)))) (ltb-true n.0 (length d.nats) lies)

pub nat-lies_in : (d : Description) (n : NatNo) (subnets : List SubnetNo) (s : SubnetNo) → subnets ≡ nat_subnets_in d → is_nat d n ≡ true → ((none : SubnetNo) → s ≡ get_or subnets n.0 none)
    → let row = nat_at d n in s ≡ subnet_no d (own_subnet row.life)
nat-lies_in d n subnets s are lies is =
    let f : NatGateway → SubnetNo = λ row. subnet_no d (own_subnet row.life) in
    let none : SubnetNo = subnet_no d [] in
    is none ∙ (ap (λ (xs : List SubnetNo). get_or xs n.0 none) are ∙ get_or-map f d.nats n.0 no_nat none (ltb-true n.0 (length d.nats) lies))

pub peering-within : (d : Description) (x : PeerNo) (ends : List Ends) → ends ≡ ends_in d → is_peering d x ≡ true → x.0 < length ends
peering-within d x ends are lies =
    subst (λ (k : ℕ). x.0 < k) (sym (ap length are ∙ length-map d.peerings (λ (row : Peering). ends_by d row.pair))) (ltb-true x.0 (length d.peerings) lies)

pub ends-at : (d : Description) (x : PeerNo) (ends : List Ends) (e : Ends) → ends ≡ ends_in d → is_peering d x ≡ true → ((none : Ends) → e ≡ get_or ends x.0 none)
    → let row = peering_at d x in e ≡ ends_by d row.pair
ends-at d x ends e are lies is =
    let f : Peering → Ends = λ row. ends_by d row.pair in
    is (None, None) ∙ (ap (λ (xs : List Ends). get_or xs x.0 (None, None)) are ∙ get_or-map f d.peerings x.0 no_peering (None, None) (ltb-true x.0 (length d.peerings) lies))

-- the numbers are those of rows
pub subnet-lies : (d n : Description) (i : EniNo) (s : SubnetNo) → n ≡ d → IsAccepted n → is_eni d i ≡ true → s ≡ subnet_of d i → is_subnet d s ≡ true
subnet-lies d n i s same accepted lies is =
    subst (λ (x : SubnetNo). is_subnet d x ≡ true) (sym is) ((accepted_numbers_are_in_range d (subst IsAccepted same accepted)).subnet_of_interface i lies)

pub vpc-lies : (d n : Description) (s : SubnetNo) (v : VpcNo) → n ≡ d → IsAccepted n → is_subnet d s ≡ true → v ≡ vpc_of_subnet d s → is_vpc d v ≡ true
vpc-lies d n s v same accepted lies is =
    subst (λ (x : VpcNo). is_vpc d x ≡ true) (sym is) ((accepted_numbers_are_in_range d (subst IsAccepted same accepted)).vpc_of_subnet s lies)

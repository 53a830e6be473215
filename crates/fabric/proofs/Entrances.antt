-- The tables of gateways, and firewall endpoints, by their numbers.
use Rattle.std.proofs.Common.{◌≡◌, ◌∙◌, ◌&&◌, List, None, Option, Some, ap, bytes_eq, get_or, length, option_and_then, option_map, sym, true, ℕ}
use Rattle.std.proofs.lemmas.Bool.{and_from, and_parts, ltb-true}
use Rattle.std.proofs.lemmas.List.{get_or-map}
use Rattle.std.proofs.lemmas.Option.{same_Some}
use Rattle.vpc_base.proofs.Bytes.{bytes_self, same_bytes}
use Rattle.vpc_base.proofs.Members.{member-list_any, row-member}
use Rattle.vpc_base.proofs.Positions.{position-at}
use Rattle.vpc_laws.proofs.Accepting.{accepted_has_all_named}
use Rattle.vpc_laws.proofs.Numbering.{ids_are_found}
use Rattle.vpc_laws.specs.Types.{Description, FarNo, FirewallNo, IgwNo, InternetGateway, SubnetNo, TableNo, Vpc, VpcNo}
use Rattle.vpc_model.specs.Accepted.{IsAccepted}
use Rattle.vpc_model.specs.Firewalls.{edge_table, entrance_table, is_firewall_in, is_followed}
use Rattle.vpc_model.specs.Lookup.{far_at, firewall_at, gateway_of, has_subnet, has_vpc, igw_at, is_listed, no_far, no_firewall, no_igw, no_vpc, subnet_at, subnet_no, vpc_at}
use Rattle.vpc_model.specs.Sound.{is_far, is_firewall, is_igw, is_sound, is_subnet, is_vpc}
use Rattle.vpc_model.specs.Step.Inspect.{firewall_subnet}
use Rattle.vpc_model.specs.declared.places.EnterBy.TheVariants as through
use Rattle.vpc_model.specs.declared.places.Place.TheVariants as places
use Rattle.fabric.specs.Outside.{network_table, tables_of_gateways, tables_of_networks}

-- ---- tables of gateways

-- the gateway of a VPC is described
pub gateway-lies : (d : Description) (v : VpcNo) (g : IgwNo) → gateway_of d v ≡ Some g → is_igw d g ≡ true
gateway-lies d v g e =
    let row = vpc_at d v in
    (position-at (λ (x : InternetGateway). is_listed row.id x.vpcs) d.igws g.0 no_igw (number _ e)).0
  where
    number : (o : Option ℕ) → option_map (λ k. record { 0 = k }) o ≡ Some g → o ≡ Some g.0
    number None e = absurd cc
    number (Some k) e = ap (λ (x : IgwNo). Some x.0) (same_Some (record { 0 = k }) g e)

pub table-of_gateway : (d : Description) (v : VpcNo) (g : IgwNo) (tables : List (Option TableNo)) (t : Option TableNo) → tables ≡ tables_of_gateways d → gateway_of d v ≡ Some g
    → ((none : Option TableNo) → t ≡ get_or tables g.0 none) → t ≡ entrance_table d v through.Gateway
table-of_gateway d v g tables t are own is =
    is None
    ∙ ap (λ (l : List (Option TableNo)). get_or l g.0 None) are
    ∙ get_or-map (λ (x : InternetGateway). edge_table d x.id) d.igws g.0 no_igw None (ltb-true g.0 (length d.igws) (gateway-lies d v g own))
    ∙ sym (ap (λ (o : Option IgwNo). option_and_then (edge_table d) (option_map (λ (n : IgwNo). (igw_at d n).id) o)) own)

pub table-of_network : (d : Description) (k : FarNo) (tables : List (Option TableNo)) (t : Option TableNo) → tables ≡ tables_of_networks d → is_far d k ≡ true
    → ((none : Option TableNo) → t ≡ get_or tables k.0 none) → t ≡ network_table d (far_at d k)
table-of_network d k tables t are lies is =
    is None ∙ ap (λ (l : List (Option TableNo)). get_or l k.0 None) are ∙ get_or-map (network_table d) d.fars k.0 no_far None (ltb-true k.0 (length d.fars) lies)

-- ---- firewall endpoints

-- a packet can be at an endpoint of a VPC that is followed
pub firewall-sound : (d : Description) (v : VpcNo) (e : FirewallNo) → is_vpc d v ≡ true → is_firewall d e ≡ true → is_firewall_in d v e ≡ true → is_sound d (places.Inspect e) ≡ true
firewall-sound d v e lies there own =
    let row = firewall_at d e in
    let vpc = vpc_at d v in
    let parts = and_parts (bytes_eq row.vpc vpc.id) (is_followed d row) own in
    let listed = member-list_any (λ (x : Vpc). bytes_eq x.id vpc.id) d.vpcs vpc (row-member d.vpcs v.0 no_vpc lies) (bytes_self vpc.id) in
    let has : has_vpc d row.vpc ≡ true = ap (has_vpc d) (same_bytes row.vpc vpc.id parts.0) ∙ listed in
    and_from (is_firewall d e) (is_followed d row && has_vpc d row.vpc) there (and_from (is_followed d row) (has_vpc d row.vpc) parts.1 has)

-- its subnet is described
pub firewall-subnet-there : (d : Description) (e : FirewallNo) → IsAccepted d → is_sound d (places.Inspect e) ≡ true → (let row = firewall_at d e in has_subnet d row.subnet ≡ true)
firewall-subnet-there d e accepted sound =
    let row = firewall_at d e in
    let outer = and_parts (is_firewall d e) _ sound in
    let inner = and_parts (is_followed d row) (has_vpc d row.vpc) outer.1 in
    let listed = row-member d.firewalls e.0 no_firewall outer.0 in
    (and_parts (has_subnet d row.subnet) _ ((accepted_has_all_named d accepted).subnet_of_firewall row listed inner.0 inner.1)).0

pub firewall-subnet-lies : (d : Description) (e : FirewallNo) → IsAccepted d → is_sound d (places.Inspect e) ≡ true → is_subnet d (firewall_subnet d e) ≡ true
firewall-subnet-lies d e accepted sound = let row = firewall_at d e in ((ids_are_found d).subnet row.subnet (firewall-subnet-there d e accepted sound)).0

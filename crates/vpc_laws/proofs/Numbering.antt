-- Rows and their numbers.
use Rattle.std.proofs.Common.{◌≡◌, ℕ, ◌&&◌, ◌||◌, ◌⊎◌, Bool, List, Option, Some, None, ap, arith, inl, inr, length, ltb, map, not, refl, subst, sym, true, unwrap_or, ◌∙◌, IfSome, is_some}
use Rattle.std.specs.List.{filter, IsDistinct, list_any, position, position_or_len, slice_index_or}
use Rattle.std.specs.Str.{bytes_eq}
use Rattle.std.proofs.lemmas.Bool.{and_parts, both_ways, false_from_ne_true, ltb-true, not-false, or_cases}
use Rattle.std.proofs.lemmas.List.{get_or-map, length-map}
use Rattle.std.proofs.lemmas.List.Sums.{position_or_len_is}
use Rattle.std.proofs.lemmas.Map.Made.{AllPairs-from_IsDistinct}
use Rattle.std.proofs.lemmas.Slice.Eq.{bytes_eq-Decides}
use Rattle.vpc_base.proofs.Bytes.{bytes_self, same_bytes}
use Rattle.vpc_base.proofs.Members.{filter-nothing, list_any-member, map-nothing, row-member}
use Rattle.vpc_base.proofs.Positions.{found-at, position-at, position-none_member}
use Rattle.vpc_laws.specs.Types.{Acl, Description, EniNo, IgwNo, Interface, InternetGateway, NatGateway, NatNo, PeerNo, Peering, RouteTable, Subnet, SubnetNo, TableNo, Vpc, VpcNo}
use Rattle.vpc_model.specs.declared.rows.NatLife.TheVariants as lives
use Rattle.vpc_model.specs.declared.refusals.Refusal.TheVariants as refusals
use Rattle.vpc_model.specs.Accepted.{IsAccepted, is_main_of, is_subnet_of, is_table_of}
use Rattle.vpc_model.specs.Choice.{or_else}
use Rattle.vpc_model.specs.Lookup.{acl_of, eni_no, has_interface, has_subnet, interface_at, is_assigned, is_listed, nat_at, no_acl, no_igw, no_interface, no_nat, no_peering, no_subnet, no_table, no_vpc, subnet_at, subnet_no, table_at, table_of}
use Rattle.vpc_model.specs.Sound.{is_acl, is_eni, is_nat, is_subnet, is_table}
use Rattle.vpc_laws.specs.Accepted.{IdsHaveNumbers, NumbersAreInRange, NumbersAreOwn}
use Rattle.vpc_laws.proofs.Accepting.{accepted_has_all_named, accepted_has_nothing_twice, accepted_is_faultless}

-- ---- ids

id-found : {X : Type 0} (id_of : X → List ℕ) (xs : List X) (d : X) (id : List ℕ) → list_any (λ x. bytes_eq (id_of x) id) xs ≡ true
    → (ltb (position_or_len (λ x. bytes_eq (id_of x) id) xs) (length xs) ≡ true) × (id_of (slice_index_or xs (position_or_len (λ x. bytes_eq (id_of x) id) xs) d) ≡ id)
id-found id_of xs d id some =
    let found = found-at (λ x. bytes_eq (id_of x) id) xs d some in
    (found.0, same_bytes (id_of (slice_index_or xs (position_or_len (λ x. bytes_eq (id_of x) id) xs) d)) id found.1)

pub ids_are_found : (d : Description) → IdsHaveNumbers d
ids_are_found d = record {
  vpc = λ id has. id-found (λ (v : Vpc). v.id) d.vpcs no_vpc id has;
  subnet = λ id has. id-found (λ (s : Subnet). s.id) d.subnets no_subnet id has;
  interface = λ id has. id-found (λ (e : Interface). e.id) d.interfaces no_interface id has;
  gateway = λ id has. id-found (λ (g : InternetGateway). g.id) d.igws no_igw id has;
  nat = λ id has. id-found (λ (n : NatGateway). n.id) d.nats no_nat id has;
  peering = λ id has. id-found (λ (x : Peering). x.id) d.peerings no_peering id has;
}

-- an interface that an id finds has a number in range
pub named-lies : (d : Description) (id : List ℕ) (found : Option EniNo) → is_some found ≡ has_interface d id → IfSome found (λ i. i ≡ eni_no d id) → IfSome found (λ i. is_eni d i ≡ true)
named-lies d id None some own = tt
named-lies d id (Some i) some own = subst (λ (k : EniNo). is_eni d k ≡ true) (sym own) ((ids_are_found d).interface id (sym some)).0

-- ---- numbers

own-number : {X : Type 0} (id_of : X → List ℕ) (xs : List X) → IsDistinct bytes_eq (map id_of xs) → (k : ℕ) (d : X) → ltb k (length xs) ≡ true
    → position_or_len (λ x. bytes_eq (id_of x) (id_of (slice_index_or xs k d))) xs ≡ k
own-number id_of xs apart k d inside =
    let below = ltb-true k (length xs) inside in
    let pairs = AllPairs-from_IsDistinct bytes_eq-Decides (map id_of xs) apart in
    let long = length-map xs id_of in
    position_or_len_is (λ x. bytes_eq (id_of x) (id_of (slice_index_or xs k d))) xs k d (omega arith)
    (λ j less.
    false_from_ne_true (bytes_eq (id_of (slice_index_or xs j d)) (id_of (slice_index_or xs k d))) (λ same.
    pairs j k (id_of d) less (omega arith) (get_or-map id_of xs j d (id_of d) (omega arith) ∙ same_bytes (id_of (slice_index_or xs j d)) (id_of (slice_index_or xs k d)) same ∙ sym (get_or-map id_of xs k d (id_of d) below))))
    (λ _. bytes_self (id_of (slice_index_or xs k d)))

pub accepted_numbers_are_own : (d : Description) → IsAccepted d → NumbersAreOwn d
accepted_numbers_are_own d accepted =
    let twice = accepted_has_nothing_twice d accepted in
    let ids = twice.ids in
    record {
      vpc = λ v inside. let make : ℕ → VpcNo = λ k. record { 0 = k } in ap make (own-number (λ (x : Vpc). x.id) d.vpcs ids.0 v.0 no_vpc inside);
      subnet = λ s inside. let make : ℕ → SubnetNo = λ k. record { 0 = k } in ap make (own-number (λ (x : Subnet). x.id) d.subnets (ids.1).0 s.0 no_subnet inside);
      interface = λ i inside. let make : ℕ → EniNo = λ k. record { 0 = k } in ap make (own-number (λ (x : Interface). x.id) d.interfaces ((ids.1).1).0 i.0 no_interface inside);
      gateway = λ g inside. let make : ℕ → IgwNo = λ k. record { 0 = k } in ap make (own-number (λ (x : InternetGateway). x.id) d.igws (((((((ids.1).1).1).1).1).1).1).0 g.0 no_igw inside);
      nat = λ n inside. let make : ℕ → NatNo = λ k. record { 0 = k } in ap make (own-number (λ (x : NatGateway). x.id) d.nats ((((((((ids.1).1).1).1).1).1).1).1).0 n.0 no_nat inside);
      peering = λ x inside. let make : ℕ → PeerNo = λ k. record { 0 = k } in ap make (own-number (λ (y : Peering). y.id) d.peerings (((((((((ids.1).1).1).1).1).1).1).1).1).0 x.0 no_peering inside);
    }

-- ---- tables and ACLs of subnets

-- the table that is found is associated with the subnet, or is the main table of its VPC
record IsTableFor (d : Description) (s : SubnetNo) (t : TableNo) : Type 0 where
  pub inside : is_table d t ≡ true
  pub serves : let row = subnet_at d s in let table = table_at d t in (is_table_of row.id table ≡ true) ⊎ (is_main_of row.vpc table ≡ true)

table-by : (d : Description) (s : SubnetNo) (associated main : Option ℕ) → (let row = subnet_at d s in position (is_table_of row.id) d.tables ≡ associated) → (let row = subnet_at d s in position (is_main_of row.vpc) d.tables ≡ main)
    → (let row = subnet_at d s in list_any (λ t. is_table_of row.id t || is_main_of row.vpc t) d.tables ≡ true) → IsTableFor d s (record { 0 = unwrap_or (or_else associated main) (length d.tables) })
table-by d s (Some k) main a b some =
    let row = subnet_at d s in
    let at = position-at (is_table_of row.id) d.tables k no_table a in
    record { inside = at.0; serves = inl at.1 }
table-by d s None (Some k) a b some =
    let row = subnet_at d s in
    let at = position-at (is_main_of row.vpc) d.tables k no_table b in
    record { inside = at.0; serves = inr at.1 }
table-by d s None None a b some =
    let row = subnet_at d s in
    let found = list_any-member (λ (t : RouteTable). is_table_of row.id t || is_main_of row.vpc t) d.tables some in
    let t = found.0 in
    elim (or_cases (is_table_of row.id t) (is_main_of row.vpc t) found.2) [
      | inl one ↦ absurd (both_ways (is_table_of row.id t) (position-none_member (is_table_of row.id) d.tables t a found.1) one)
      | inr one ↦ absurd (both_ways (is_main_of row.vpc t) (position-none_member (is_main_of row.vpc) d.tables t b found.1) one)
    ]

table-of : (d : Description) → IsAccepted d → (s : SubnetNo) → is_subnet d s ≡ true → IsTableFor d s (table_of d s)
table-of d accepted s inside =
    let row = subnet_at d s in
    let faultless = accepted_is_faultless d accepted in
    let without : Subnet → Bool = λ (x : Subnet). not (list_any (λ (t : RouteTable). is_table_of x.id t || is_main_of x.vpc t) d.tables) in
    let none = filter-nothing without d.subnets (map-nothing (λ (x : Subnet). refusals.NoRouteTable x.id) (filter without d.subnets) faultless.tables) row (row-member d.subnets s.0 no_subnet inside) in
    table-by d s (position (is_table_of row.id) d.tables) (position (is_main_of row.vpc) d.tables) refl refl
    (not-false (list_any (λ (t : RouteTable). is_table_of row.id t || is_main_of row.vpc t) d.tables) none)

table-vpc : (d : Description) → IsAccepted d → (s : SubnetNo) → is_subnet d s ≡ true → (t : TableNo) → IsTableFor d s t → let table = table_at d t in let row = subnet_at d s in table.vpc ≡ row.vpc
table-vpc d accepted s inside t is =
    let row = subnet_at d s in
    let table = table_at d t in
    elim is.serves [
      | inl associated ↦
          let found = list_any-member (λ i. bytes_eq i row.id) table.subnets associated in
          let named = accepted_has_all_named d accepted in
          let there = named.subnet_of_table table found.0 (row-member d.tables t.0 no_table is.inside) found.1 in
          let known = subst (λ i. is_subnet_of d table.vpc i ≡ true) (same_bytes found.0 row.id found.2) there in
          let at = subnet_at d (subnet_no d row.id) in
          let parts = and_parts (has_subnet d row.id) (bytes_eq at.vpc table.vpc) known in
          let own = accepted_numbers_are_own d accepted in
          sym (subst (λ k. let x = subnet_at d k in x.vpc ≡ table.vpc) (own.subnet s inside) (same_bytes at.vpc table.vpc parts.1))
      | inr main ↦ same_bytes table.vpc row.vpc (and_parts table.main (bytes_eq table.vpc row.vpc) main).1
    ]

acl-of : (d : Description) → IsAccepted d → (s : SubnetNo) → is_subnet d s ≡ true → is_acl d (acl_of d s) ≡ true
acl-of d accepted s inside =
    let row = subnet_at d s in
    let faultless = accepted_is_faultless d accepted in
    let without : Subnet → Bool = λ (x : Subnet). not (list_any (λ (a : Acl). is_listed x.id a.subnets) d.acls) in
    let none = filter-nothing without d.subnets (map-nothing (λ (x : Subnet). refusals.NoAcl x.id) (filter without d.subnets) faultless.acls) row (row-member d.subnets s.0 no_subnet inside) in
    (found-at (λ (a : Acl). is_listed row.id a.subnets) d.acls no_acl (not-false (list_any (λ (a : Acl). is_listed row.id a.subnets) d.acls) none)).0

pub accepted_numbers_are_in_range : (d : Description) → IsAccepted d → NumbersAreInRange d
accepted_numbers_are_in_range d accepted =
    let named = accepted_has_all_named d accepted in
    let ids = ids_are_found d in
    record {
      vpc_of_subnet = λ s inside. let row = subnet_at d s in (ids.vpc row.vpc (named.vpc_of_subnet row (row-member d.subnets s.0 no_subnet inside))).0;
      table_of_subnet = λ s inside. (table-of d accepted s inside).inside;
      vpc_of_table = λ s inside. table-vpc d accepted s inside (table_of d s) (table-of d accepted s inside);
      acl_of_subnet = λ s inside. acl-of d accepted s inside;
      subnet_of_interface = λ i inside. let e = interface_at d i in (ids.subnet e.subnet (named.subnet_of_interface e (row-member d.interfaces i.0 no_interface inside))).0;
    }

-- ---- NAT gateways

pub nat_addresses_are_interfaces : (d : Description) (n : NatNo) (subnet eni : List ℕ) (address : ℕ) → IsAccepted d → is_nat d n ≡ true
    → let row = nat_at d n in row.life ≡ lives.Live subnet eni address
    → let i = eni_no d eni in let e = interface_at d i in
    (is_eni d i ≡ true) × (e.id ≡ eni) × (e.subnet ≡ subnet) × (is_assigned e address ≡ true) × (is_subnet d (subnet_no d subnet) ≡ true)
nat_addresses_are_interfaces d n subnet eni address accepted inside is =
    let named = accepted_has_all_named d accepted in
    let ids = ids_are_found d in
    let row = nat_at d n in
    let e = interface_at d (eni_no d eni) in
    let there = named.place_of_nat row subnet eni address (row-member d.nats n.0 no_nat inside) is in
    let outer = and_parts (has_interface d eni) (bytes_eq e.subnet subnet && is_assigned e address) there.1 in
    let inner = and_parts (bytes_eq e.subnet subnet) (is_assigned e address) outer.1 in
    let found = ids.interface eni outer.0 in
    (found.0, found.1, same_bytes e.subnet subnet inner.0, inner.1, (ids.subnet subnet there.0).0)

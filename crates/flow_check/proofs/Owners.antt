-- What the interface that has an address tells of it.
use Rattle.std.proofs.Common.{◌&&◌, ◌<◌, ◌==◌, ◌≡◌, ◌∙◌, Bool, IfSome, List, None, Option, Some, ap, arith, bytes_eq, cond, false, get_or, inl, inr, length, nat_lt, option_map, position, refl, subst, sym, true, ℕ}
use Rattle.std.specs.List.{position_or_len}
use Rattle.std.proofs.lemmas.Bool.{and_from, and_parts, both_ways, cases_Bool, cond-true, eq-eqb, false_from_ne_true, lt-ltb, ltb-true}
use Rattle.std.proofs.lemmas.List.{get_or_default}
use Rattle.std.proofs.lemmas.List.Sums.{position_or_len_is}
use Rattle.std.proofs.lemmas.Option.{none-some, same_Some}
use Rattle.std.proofs.lemmas.Map.Keys.{apart_from_distinct}
use Rattle.vpc_base.proofs.Bytes.{bytes_self, same_bytes}
use Rattle.vpc_base.proofs.Members.{list_any-member, member-list_any, row-member}
use Rattle.vpc_base.proofs.Positions.{position-at}
use Rattle.vpc_laws.proofs.Accepting.{accepted_has_all_named, accepted_has_nothing_twice}
use Rattle.vpc_laws.proofs.Numbering.{accepted_numbers_are_in_range, ids_are_found}
use Rattle.vpc_laws.proofs.Same.{EniNo-same}
use Rattle.vpc_laws.specs.Accepted.{both_have}
use Rattle.vpc_laws.specs.Types.{Description, EniNo, Interface, VpcNo}
use Rattle.vpc_model.specs.Accepted.{IsAccepted}
use Rattle.vpc_model.specs.Lookup.{has_address, host_of, interface_at, is_in_vpc, no_interface, no_subnet, subnet_at, subnet_no, subnet_of, vpc_at, vpc_of_interface, vpc_of_subnet}
use Rattle.vpc_model.specs.Sound.{is_eni}
use Rattle.flow_check.specs.Owners.{is_near, is_own}
use Rattle.flow_check.specs.Rules.{is_neighbour}

-- ---- private addresses

-- an interface of the VPC that has the address
abbrev is_host : Description → VpcNo → ℕ → Interface → Bool
is_host d v a e = has_address e a && is_in_vpc d v e

-- no two interfaces of a VPC have one address
not-before : (d : Description) (v : VpcNo) (a j k : ℕ) → IsAccepted d → j < k → k < length d.interfaces → is_host d v a (get_or d.interfaces k no_interface) ≡ true
    → is_host d v a (get_or d.interfaces j no_interface) ≡ false
not-before d v a j k accepted less below late =
    let e = get_or d.interfaces j no_interface in
    let o = get_or d.interfaces k no_interface in
    let twice = accepted_has_nothing_twice d accepted in
    let there = and_parts (has_address o a) (is_in_vpc d v o) late in
    false_from_ne_true (is_host d v a e)
    (λ early.
    let here = and_parts (has_address e a) (is_in_vpc d v e) early in
    let same : vpc_of_interface d e ≡ vpc_of_interface d o = same_bytes (vpc_of_interface d e) (vpc_at d v).id here.1 ∙ sym (same_bytes (vpc_of_interface d o) (vpc_at d v).id there.1) in
    both_ways (both_have d a e o) (apart_from_distinct (both_have d a) d.interfaces j k no_interface (twice.hosts a) less below)
    (and_from (bytes_eq (vpc_of_interface d e) (vpc_of_interface d o)) (has_address e a && has_address o a)
    (subst (λ (id : List ℕ). bytes_eq (vpc_of_interface d e) id ≡ true) same (bytes_self (vpc_of_interface d e))) (and_from (has_address e a) (has_address o a) here.0 there.0)))

abbrev numbered : ℕ → EniNo
numbered k = record { 0 = k }

-- the interface of the VPC that has the address is the one that is found
host-is : (d : Description) (v : VpcNo) (a k : ℕ) → IsAccepted d → k < length d.interfaces → is_host d v a (get_or d.interfaces k no_interface) ≡ true → host_of d v a ≡ Some (numbered k)
host-is d v a k accepted below has =
    let first : position_or_len (is_host d v a) d.interfaces ≡ k =
    position_or_len_is (is_host d v a) d.interfaces k no_interface (omega arith) (λ j less. not-before d v a j k accepted less below has) (λ _. has) in
    ap (λ (n : ℕ). option_map numbered (cond (nat_lt n (length d.interfaces)) (Some n) None)) first
    ∙ ap (option_map numbered) (cond-true (nat_lt k (length d.interfaces)) (Some k) None (lt-ltb k (length d.interfaces) below))

-- what is found is described, and has the address
record IsHost (d : Description) (v : VpcNo) (a : ℕ) (j : EniNo) : Type 0 where
  pub lies : is_eni d j ≡ true
  pub has : is_host d v a (interface_at d j) ≡ true

host-found : (d : Description) (v : VpcNo) (a : ℕ) (j : EniNo) → host_of d v a ≡ Some j → IsHost d v a j
host-found d v a j found = by (position (is_host d v a) d.interfaces) refl found
  where
    by : (o : Option ℕ) → position (is_host d v a) d.interfaces ≡ o → option_map numbered o ≡ Some j → IsHost d v a j
    by None e none = absurd (cc)
    by (Some k) e some =
        let at = position-at (is_host d v a) d.interfaces k no_interface e in
        let same : numbered k ≡ j = cc in
        subst (IsHost d v a) same (record { lies = at.0; has = at.1 })

-- ---- an interface's own addresses, and its neighbours'

-- the VPC of an interface's subnet is the interface's
pub own-vpc : (d : Description) (i : EniNo) → IsAccepted d → is_eni d i ≡ true → is_in_vpc d (vpc_of_subnet d (subnet_of d i)) (interface_at d i) ≡ true
own-vpc d i accepted lies =
    let e = interface_at d i in
    let s = subnet_at d (subnet_of d i) in
    let named = accepted_has_all_named d accepted in
    let range = accepted_numbers_are_in_range d accepted in
    let ids = ids_are_found d in
    let found = (ids.vpc s.vpc (named.vpc_of_subnet s (row-member d.subnets (subnet_of d i).0 no_subnet (range.subnet_of_interface i lies)))).1 in
    subst (λ (id : List ℕ). bytes_eq s.vpc id ≡ true) (sym found) (bytes_self s.vpc)

own-by : (d : Description) (v : VpcNo) (i : EniNo) (a : ℕ) (o : Option EniNo) → IsAccepted d → is_eni d i ≡ true → is_in_vpc d v (interface_at d i) ≡ true → host_of d v a ≡ o
    → has_address (interface_at d i) a ≡ is_own i o
own-by d v i a o accepted lies inside is =
    let e = interface_at d i in
    let here : has_address e a ≡ true → host_of d v a ≡ Some i =
    λ has. host-is d v a i.0 accepted (ltb-true i.0 (length d.interfaces) lies) (and_from (has_address e a) (is_in_vpc d v e) has inside) in
    by o is here
  where
    by : (o : Option EniNo) → host_of d v a ≡ o → (has_address (interface_at d i) a ≡ true → host_of d v a ≡ Some i) → has_address (interface_at d i) a ≡ is_own i o
    by None is here = false_from_ne_true (has_address (interface_at d i) a) (λ has. none-some i (sym is ∙ here has))
    by (Some j) is here =
        elim (cases_Bool (j.0 == i.0)) [
          | inl same ↦
              let found = host-found d v a j is in
              let has = (and_parts (has_address (interface_at d j) a) (is_in_vpc d v (interface_at d j)) found.has).0 in
              subst (λ (k : EniNo). has_address (interface_at d k) a ≡ true) (EniNo-same j i same) has ∙ sym same
          | inr other ↦
              false_from_ne_true (has_address (interface_at d i) a)
              (λ has. both_ways (j.0 == i.0) other (let one : Some j ≡ Some i = sym is ∙ here has in eq-eqb j.0 i.0 (ap (λ (k : EniNo). k.0) (same_Some j i one))))
              ∙ sym other
        ]

pub own-is : (d : Description) (v : VpcNo) (i : EniNo) (a : ℕ) → IsAccepted d → is_eni d i ≡ true → v ≡ vpc_of_subnet d (subnet_of d i)
    → has_address (interface_at d i) a ≡ is_own i (host_of d v a)
own-is d v i a accepted lies is =
    own-by d v i a (host_of d v a) accepted lies (subst (λ (w : VpcNo). is_in_vpc d w (interface_at d i) ≡ true) (sym is) (own-vpc d i accepted lies)) refl

-- a neighbour that has the address is the interface that is found
record IsNeighbour (d : Description) (v : VpcNo) (i : EniNo) (a : ℕ) : Type 0 where
  pub at : EniNo
  pub found : host_of d v a ≡ Some at
  pub near : let e = interface_at d i in let o = interface_at d at in bytes_eq o.subnet e.subnet ≡ true

neighbour-found : (d : Description) (v : VpcNo) (i : EniNo) (a : ℕ) → IsAccepted d → is_in_vpc d v (interface_at d i) ≡ true → is_neighbour d (interface_at d i) a ≡ true → IsNeighbour d v i a
neighbour-found d v i a accepted inside is =
    let e = interface_at d i in
    let found = list_any-member (λ (o : Interface). bytes_eq o.subnet e.subnet && has_address o a) d.interfaces is in
    let o = found.0 in
    let k = (found.1).0 in
    let row : get_or d.interfaces k no_interface ≡ o = get_or_default d.interfaces k no_interface o (found.1).1 ∙ (found.1).2 in
    let parts = and_parts (bytes_eq o.subnet e.subnet) (has_address o a) found.2 in
    let same : e.subnet ≡ o.subnet = sym (same_bytes o.subnet e.subnet parts.0) in
    let there : is_in_vpc d v o ≡ true = subst (λ (id : List ℕ). let s = subnet_at d (subnet_no d id) in bytes_eq s.vpc (vpc_at d v).id ≡ true) same inside in
    let has : is_host d v a o ≡ true = and_from (has_address o a) (is_in_vpc d v o) parts.1 there in
    record {
      at = numbered k;
      found = host-is d v a k accepted (found.1).1 (subst (λ (x : Interface). is_host d v a x ≡ true) (sym row) has);
      near = subst (λ (x : Interface). bytes_eq x.subnet e.subnet ≡ true) (sym row) parts.0;
    }

near-by : (d : Description) (v : VpcNo) (i : EniNo) (a : ℕ) (o : Option EniNo) → IsAccepted d → is_in_vpc d v (interface_at d i) ≡ true → host_of d v a ≡ o
    → is_neighbour d (interface_at d i) a ≡ is_near d i o
near-by d v i a None accepted inside is =
    let e = interface_at d i in
    false_from_ne_true (is_neighbour d e a) (λ some. let n = neighbour-found d v i a accepted inside some in none-some n.at (sym is ∙ n.found))
near-by d v i a (Some j) accepted inside is =
    let e = interface_at d i in
    let o = interface_at d j in
    elim (cases_Bool (bytes_eq o.subnet e.subnet)) [
      | inl near ↦
          let found = host-found d v a j is in
          let has = (and_parts (has_address o a) (is_in_vpc d v o) found.has).0 in
          member-list_any (λ (x : Interface). bytes_eq x.subnet e.subnet && has_address x a) d.interfaces o (row-member d.interfaces j.0 no_interface found.lies)
          (and_from (bytes_eq o.subnet e.subnet) (has_address o a) near has)
          ∙ sym near
      | inr far ↦
          false_from_ne_true (is_neighbour d e a)
          (λ some.
          let n = neighbour-found d v i a accepted inside some in
          let one : n.at ≡ j = same_Some n.at j (sym n.found ∙ is) in
          both_ways (bytes_eq o.subnet e.subnet) far (subst (λ (k : EniNo). let x = interface_at d k in bytes_eq x.subnet e.subnet ≡ true) one n.near))
          ∙ sym far
    ]

pub near-is : (d : Description) (v : VpcNo) (i : EniNo) (a : ℕ) → IsAccepted d → is_eni d i ≡ true → v ≡ vpc_of_subnet d (subnet_of d i)
    → is_neighbour d (interface_at d i) a ≡ is_near d i (host_of d v a)
near-is d v i a accepted lies is =
    near-by d v i a (host_of d v a) accepted (subst (λ (w : VpcNo). is_in_vpc d w (interface_at d i) ≡ true) (sym is) (own-vpc d i accepted lies)) refl

-- ---- what look-ups find

pub found-lies : (d : Description) (v : VpcNo) (a : ℕ) (o : Option EniNo) → o ≡ host_of d v a → IfSome o (λ j. is_eni d j ≡ true)
found-lies d v a None is = tt
found-lies d v a (Some j) is = (host-found d v a j (sym is)).lies

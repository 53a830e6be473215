-- Whose the public addresses of a VPC are.
use Rattle.std.proofs.Common.{Bool, Contains, List, None, Option, Some, [], ap, ap₂, bytes_eq, find, inl, inr, option_map, position, refl, subst, true, ℕ, ◌&&◌, ◌==◌, ◌∙◌, ◌∷◌, ◌≡◌}
use Rattle.std.specs.List.{flat_map, list_any, position_or_len}
use Rattle.std.specs.Prelude.{filter, map}
use Rattle.vpc_base.proofs.Bytes.{bytes_self}
use Rattle.vpc_base.proofs.Lemmas.{Contains-cases, Contains-filter, Contains-flat_map, Contains-here, Contains-later, Contains-none, and_parts, eq-eqb, eqb-true, filter-member, filter_map-member, find-member, flat_map-member, member-list_any, none-some, or_left, position-at, position-there, row-member, same_Some}
use Rattle.prefix_text.specs.Block.{holds}
use Rattle.vpc_laws.proofs.Accepting.{accepted_has_all_named}
use Rattle.vpc_laws.proofs.Numbering.{ids_are_found}
use Rattle.vpc_laws.specs.Terms.{HasPair}
use Rattle.vpc_laws.specs.Types.{Description, EniNo, Interface, VpcNo}
use Rattle.vpc_model.specs.Accepted.{IsAccepted}
use Rattle.vpc_model.specs.Lookup.{no_interface, no_subnet}
use Rattle.vpc_model.specs.Terms.{has_address, host_of, interface_at, is_assigned, is_in_vpc, owned_by, owner_of, pair_of, pairs_in, pairs_of, subnet_at, subnet_no, vpc_no, vpc_of_interface}

pair_of-some : (x : ℕ × Option ℕ) (p : ℕ × ℕ) → pair_of x ≡ Some p → x ≡ (p.0, Some p.1)
pair_of-some (a, None) p e = absurd (none-some p e)
pair_of-some (a, Some b) (f, g) e =
    let pair : ℕ × ℕ = (a, b) in
    let same : pair ≡ (f, g) = same_Some pair (f, g) e in
    ap (λ (q : ℕ × ℕ). (q.0, Some q.1)) same

-- a pair of a VPC is that of one of its interfaces
pub pairs_in-member : (d : Description) (v : VpcNo) (p : ℕ × ℕ) → Contains (pairs_in d v) p → HasPair d v p.0 p.1
pairs_in-member d v p has =
    let found = flat_map-member pairs_of (filter (is_in_vpc d v) d.interfaces) p has in
    let e = found.0 in
    let row = filter-member (is_in_vpc d v) d.interfaces e found.1 in
    let pair = filter_map-member pair_of e.addresses p found.2 in
    (e, row.1, row.0, subst (λ x. Contains e.addresses x) (pair_of-some pair.0 p pair.2) pair.1)

-- the interface that has an address is found by it
pub record IsHost (d : Description) (v : VpcNo) (own : ℕ) : Type 0 where
  pub host : EniNo
  pub found : host_of d v own ≡ Some host
  pub inside : is_in_vpc d v (interface_at d host) ≡ true

both : (a b : Bool) → a ≡ true → b ≡ true → (a && b) ≡ true
both a b e f = ap₂ (λ (x y : Bool). x && y) e f

abbrev number : ℕ → EniNo
number k = record { 0 = k }

pub host-of_pair : (d : Description) (v : VpcNo) (own public : ℕ) → HasPair d v own public → IsHost d v own
host-of_pair d v own public pair =
    let e = pair.0 in
    let test : Interface → Bool = λ r. has_address r own && is_in_vpc d v r in
    let assigned : is_assigned e own ≡ true = member-list_any (λ (x : ℕ × Option ℕ). x.0 == own) e.addresses (own, Some public) pair.3 (eqb-own own) in
    let has : has_address e own ≡ true = or_left (is_assigned e own) (list_any (holds own) e.prefixes) assigned in
    let there : list_any test d.interfaces ≡ true = member-list_any test d.interfaces e pair.1 (both (has_address e own) (is_in_vpc d v e) has pair.2) in
    let k = position_or_len test d.interfaces in
    let found : position test d.interfaces ≡ Some k = position-there test d.interfaces there in
    let at = position-at test d.interfaces k no_interface found in
    let row = interface_at d (number k) in
    record {
      host = number k;
      found = ap (option_map number) found;
      inside = (and_parts (has_address row own) (is_in_vpc d v row) at.1).1;
    }
  where
    eqb-own : (n : ℕ) → (n == n) ≡ true
    eqb-own n = eq-eqb n n refl

-- ---- the owners of public addresses

map-member : {X Y : Type 0} (f : X → Y) (xs : List X) (y : Y) → Contains (map f xs) y → (x : X) × Contains xs x × (f x ≡ y)
map-member f [] y has = absurd (Contains-none y has)
map-member f (x ∷ xs) y has =
    elim (Contains-cases (f x) y (map f xs) has) [
      | inl same ↦ (x, Contains-here x xs, same)
      | inr later ↦ let found = map-member f xs y later in (found.0, Contains-later x xs found.0 found.1, found.2)
    ]

-- the VPC of a subnet that is described is the one with its number
in-numbered : (d : Description) (e : Interface) → IsAccepted d → Contains d.interfaces e → is_in_vpc d (vpc_no d (vpc_of_interface d e)) e ≡ true
in-numbered d e accepted listed =
    let named = accepted_has_all_named d accepted in
    let ids = ids_are_found d in
    let s = subnet_at d (subnet_no d e.subnet) in
    let subnet = ids.subnet e.subnet (named.subnet_of_interface e listed) in
    let there = named.vpc_of_subnet s (row-member d.subnets (let n = subnet_no d e.subnet in n.0) no_subnet subnet.0) in
    ap (bytes_eq s.vpc) (ids.vpc s.vpc there).1 ∙ bytes_self s.vpc

-- the owner of a public address has it in a pair
pub owner-pair : (d : Description) (v : VpcNo) (public : ℕ) → IsAccepted d → owner_of d public ≡ Some v → (own : ℕ) × Contains (pairs_in d v) (own, public)
owner-pair d v public accepted owned = by (find (λ (o : VpcNo × ℕ). o.1 == public) (flat_map (owned_by d) d.interfaces)) refl owned
  where
    by : (o : Option (VpcNo × ℕ)) → find (λ (o : VpcNo × ℕ). o.1 == public) (flat_map (owned_by d) d.interfaces) ≡ o → option_map (λ (o : VpcNo × ℕ). o.0) o ≡ Some v
        → (own : ℕ) × Contains (pairs_in d v) (own, public)
    by None e is = absurd (none-some v is)
    by (Some o) e is =
        let found = find-member (λ (o : VpcNo × ℕ). o.1 == public) (flat_map (owned_by d) d.interfaces) o e in
        let row = flat_map-member (owned_by d) d.interfaces o found.1 in
        let r = row.0 in
        let w = vpc_no d (vpc_of_interface d r) in
        let f : ℕ × ℕ → VpcNo × ℕ = λ p. (w, p.1) in
        let pair = map-member f (pairs_of r) o row.2 in
        let p = pair.0 in
        let same : w ≡ v = ap (λ (x : VpcNo × ℕ). x.0) pair.2 ∙ same_Some o.0 v is in
        let address : p.1 ≡ public = ap (λ (x : VpcNo × ℕ). x.1) pair.2 ∙ eqb-true o.1 public found.0 in
        let inside : is_in_vpc d v r ≡ true = subst (λ (x : VpcNo). is_in_vpc d x r ≡ true) same (in-numbered d r accepted row.1) in
        let kept = Contains-filter (is_in_vpc d v) d.interfaces r row.1 inside in
        let has : Contains (pairs_in d v) p = Contains-flat_map pairs_of (filter (is_in_vpc d v) d.interfaces) r p kept pair.1 in
        (p.0, subst (λ (x : ℕ). Contains (pairs_in d v) (p.0, x)) address has)

-- The standing cuts of a description, and its edges.
use Rattle.std.proofs.Common.{Bool, Contains, List, None, Option, Some, [], ap, arith, cond, false, filter, find, flat_map, is_some, not, option_map, refl, subst, suc, sym, true, zero, ℕ, ◌+◌, ◌==◌, ◌∙◌, ◌∷◌, ◌≡◌}
use Rattle.vpc_base.proofs.Lemmas.{Contains-append_left, Contains-append_right, eqb-true, filter-member, filter_map-member, find-member, flat_map-member, map-member, row-member}
use Rattle.vpc_base.specs.Cuts.{CutLists}
use Rattle.cut_laws.proofs.Lemmas.{among_through, blocks-divide, interfaces_are_standing, on_sides_among, vpcs_are_standing}
use Rattle.cut_laws.specs.Dividing.{Divide, DivideTurns}
use Rattle.vpc_laws.proofs.Numbering.{ids_are_found}
use Rattle.vpc_model.specs.Terms.{address_cuts, block_cuts, cuts_of_blocks, cuts_of_interface, cuts_of_vpc, has_block, is_in_vpc, is_vpc, on_sides, owned_by, owner_of, pair_cuts, pair_of, pairs_in, pairs_of, public_of, standing_cuts, vpc_at, vpc_no, vpc_of_interface}
use Rattle.vpc_laws.specs.Types.{Description, Interface, VpcNo}
use Rattle.edge_gateways.specs.Terms.{AreEdgesOf, EdgeLists, OwnersAreCutOut, PublicsAreCutOut, Sides, SidesAreDivided, has_address, other_of, owner_at}
use Rattle.edge_gateways.proofs.Carrying.{has_address-is, numbers_of, sides-at}
use Rattle.vpc_model.specs.Lookup.{no_vpc}

-- ---- the addresses of interfaces

value-of : {X Y : Type 0} (f : X → Y) (o : Option X) → is_some (option_map f o) ≡ true → (x : X) × (o ≡ Some x)
value-of f None e = absurd (cc)
value-of f (Some x) e = (x, refl)

abbrev value-or : {X : Type 0} → X → Option X → X
value-or d None = d
value-or d (Some x) = x

-- a pair of an interface stands in its addresses
pair-member : (e : Interface) (own public : ℕ) → Contains (pairs_of e) (own, public) → Contains e.addresses (own, Some public)
pair-member e own public has =
    let found = filter_map-member pair_of e.addresses (own, public) has in
    subst (Contains e.addresses) (pair-is found.0 own public found.2) found.1
  where
    pair-is : (x : ℕ × Option ℕ) (own public : ℕ) → pair_of x ≡ Some (own, public) → x ≡ (own, Some public)
    pair-is (a, None) own public e = absurd (cc)
    pair-is (a, Some b) own public e = ap (λ (q : ℕ × ℕ). (q.0, Some q.1)) (ap (value-or (a, b)) e)

-- what cuts an address of an interface is among its cuts
flat_map-has : (f : ℕ × Option ℕ → List ℕ) (xs : List (ℕ × Option ℕ)) (x : ℕ × Option ℕ) (c : ℕ) → Contains xs x → Contains (f x) c → Contains (flat_map f xs) c
flat_map-has f [] x c (k, below, e) has = absurd (omega arith)
flat_map-has f (y ∷ ys) x c (zero, below, e) has = Contains-append_left (f y) (flat_map f ys) c (subst (λ z. Contains (f z) c) (sym e) has)
flat_map-has f (y ∷ ys) x c (suc k, below, e) has = Contains-append_right (f y) (flat_map f ys) c (flat_map-has f ys x c (k, omega arith, e) has)

-- an address whose cuts are among those of an interface's addresses is cut out by standing cuts
cut-out : (d : Description) (e : Interface) (a : ℕ) → Contains d.interfaces e
    → ((c : ℕ) → Contains (address_cuts a) c → Contains (flat_map pair_cuts e.addresses) c) → Divide (cuts_of_blocks (address_cuts a)) (standing_cuts d)
cut-out d e a has within =
    let few : CutLists = cuts_of_blocks (address_cuts a) in
    among_through (on_sides few) (on_sides (cuts_of_interface e)) (standing_cuts d)
    (on_sides_among few (cuts_of_interface e)
    (record { proto = λ c k. k; addr = λ c k. Contains-append_left (flat_map pair_cuts e.addresses) (flat_map block_cuts e.prefixes) c (within c k); p = λ c k. k; q = λ c k. k }))
    (interfaces_are_standing d e has)

own-cut-out : (d : Description) (e : Interface) (own public : ℕ) → Contains d.interfaces e → Contains (pairs_of e) (own, public)
    → Divide (cuts_of_blocks (address_cuts own)) (standing_cuts d)
own-cut-out d e own public has pair =
    cut-out d e own has
    (λ c k. flat_map-has pair_cuts e.addresses (own, Some public) c (pair-member e own public pair)
    (Contains-append_left (address_cuts own) (address_cuts public) c k))

public-cut-out : (d : Description) (e : Interface) (own public : ℕ) → Contains d.interfaces e → Contains (pairs_of e) (own, public)
    → Divide (cuts_of_blocks (address_cuts public)) (standing_cuts d)
public-cut-out d e own public has pair =
    cut-out d e public has
    (λ c k. flat_map-has pair_cuts e.addresses (own, Some public) c (pair-member e own public pair)
    (Contains-append_right (address_cuts own) (address_cuts public) c k))

-- ---- public addresses

pub publics_are_cut_out : PublicsAreCutOut
publics_are_cut_out d m v edges lies a fits some =
    let told : is_some (public_of d v a) ≡ true = subst (λ (o : Option ℕ). is_some o ≡ true) (edges.pairs.public v a lies (omega arith)) some in
    let found = value-of (λ p. p.1) (find (λ p. p.0 == a) (pairs_in d v)) told in
    let member = find-member (λ p. p.0 == a) (pairs_in d v) found.0 found.1 in
    let row = flat_map-member pairs_of (filter (is_in_vpc d v) d.interfaces) found.0 member.1 in
    let kept = filter-member (is_in_vpc d v) d.interfaces row.0 row.1 in
    subst (λ (n : ℕ). Divide (cuts_of_blocks (address_cuts n)) (standing_cuts d)) (eqb-true found.0.0 a member.0)
    (own-cut-out d row.0 found.0.0 found.0.1 kept.1 row.2)

pub owners_are_cut_out : OwnersAreCutOut
owners_are_cut_out d m edges a fits some =
    let same : is_some (owner_of d a) ≡ true = owner-some (owner_at m.owners a) (owner_of d a) (edges.pairs.owner a) some in
    let found = value-of (λ o. o.0) (find (λ o. o.1 == a) (flat_map (owned_by d) d.interfaces)) same in
    let member = find-member (λ o. o.1 == a) (flat_map (owned_by d) d.interfaces) found.0 found.1 in
    let row = flat_map-member (owned_by d) d.interfaces found.0 member.1 in
    let pair = map-member (λ p. (vpc_no d (vpc_of_interface d row.0), p.1)) (pairs_of row.0) found.0 row.2 in
    subst (λ (n : ℕ). Divide (cuts_of_blocks (address_cuts n)) (standing_cuts d)) (ap (λ (o : VpcNo × ℕ). o.1) pair.2 ∙ eqb-true found.0.1 a member.0)
    (public-cut-out d row.0 pair.0.0 pair.0.1 row.1 pair.1)
  where
    owner-some : {X Y : Type 0} (o : Option (X × Y)) (w : Option X) → option_map (λ x. x.0) o ≡ w → is_some o ≡ true → is_some w ≡ true
    owner-some None w e some = absurd (cc)
    owner-some (Some x) w e some = subst (λ z. is_some z ≡ true) e refl

-- ---- peerings

-- the addresses of a described VPC
pub vpc-divides : (d : Description) (m : EdgeLists) (v : VpcNo) → AreEdgesOf d m → is_vpc d v ≡ true → DivideTurns (has_address m.blocks v) (standing_cuts d)
vpc-divides d m v edges lies a fits turn =
    let row = vpc_at d v in
    let same : (b : ℕ) → has_address m.blocks v b ≡ has_block d v b = λ b. has_address-is d m.blocks v b edges.peerings.blocks lies in
    let member = row-member d.vpcs v.0 no_vpc lies in
    blocks-divide row.blocks (cuts_of_vpc row) (standing_cuts d) refl (vpcs_are_standing d row member) a fits (sym (same (a + 1)) ∙ turn ∙ ap not (same a))

pub sides_are_divided : SidesAreDivided
sides_are_divided d m x v edges can = record {
  sender = vpc-divides d m v edges can.sends;
  receiver = subst (λ (o : Option Sides). DivideTurns (has_address m.blocks (other_of v o)) (standing_cuts d)) (sym (sides-at d m.sides x v edges.peerings.sides can))
      (either ((numbers_of d can.pair).one.0 == v.0));
}
  where
    either : (b : Bool) → DivideTurns (has_address m.blocks (cond b (numbers_of d can.pair).other (numbers_of d can.pair).one)) (standing_cuts d)
    either true = vpc-divides d m (vpc_no d can.pair.1) edges ((ids_are_found d).vpc can.pair.1 can.other).0
    either false = vpc-divides d m (vpc_no d can.pair.0) edges ((ids_are_found d).vpc can.pair.0 can.one).0

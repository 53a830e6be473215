-- Peerings at sound places.
use Rattle.std.proofs.Common.{◌≡◌, ◌∙◌, ◌&&◌, ◌||◌, Bool, List, None, Option, Some, ap, bytes_eq, cond, false, is_some, refl, subst, true, ℕ}
use Rattle.std.proofs.lemmas.Bool.{and_parts}
use Rattle.edge_gateways.specs.Edges.{CanCarry}
use Rattle.vpc_laws.specs.Types.{Description, PeerNo, VpcNo}
use Rattle.vpc_model.specs.Lookup.{has_vpc, peering_at, vpc_at, vpc_no}
use Rattle.vpc_model.specs.Peerings.{other_side}
use Rattle.vpc_model.specs.Sound.{is_peering, is_sound, is_vpc, joins}
use Rattle.vpc_model.specs.declared.places.Place.TheVariants as places
use Rattle.fabric.specs.Sites.{far_vpc, vpc_by}

-- ---- the peering of a sound place

joined : (d : Description) (x : PeerNo) (v : VpcNo) (pair : List ℕ × List ℕ) → is_sound d (places.Peer x v) ≡ true → (peering_at d x).pair ≡ Some pair → CanCarry d x v
joined d x v pair sound active =
    let row = peering_at d x in
    let vpc = vpc_at d v in
    let first = and_parts (is_peering d x) (is_vpc d v && joins d vpc.id row.pair) sound in
    let second = and_parts (is_vpc d v) (joins d vpc.id row.pair) first.1 in
    let both_sides : joins d vpc.id (Some pair) ≡ true = subst (λ (o : Option (List ℕ × List ℕ)). joins d vpc.id o ≡ true) active second.1 in
    let both = and_parts (bytes_eq pair.0 vpc.id || bytes_eq pair.1 vpc.id) (has_vpc d pair.0 && has_vpc d pair.1) both_sides in
    let described = and_parts (has_vpc d pair.0) (has_vpc d pair.1) both.1 in
    record { pair = pair; active = active; one = described.0; other = described.1; sends = second.0; side = both.0 }

-- it is active, and both its VPCs are described, of which the sender is one
pub can_carry : (d : Description) (x : PeerNo) (v : VpcNo) → is_sound d (places.Peer x v) ≡ true → CanCarry d x v
can_carry d x v sound = by (peering_at d x).pair refl
  where
    by : (o : Option (List ℕ × List ℕ)) → (peering_at d x).pair ≡ o → CanCarry d x v
    by None e =
        let row = peering_at d x in
        let vpc = vpc_at d v in
        let first = and_parts (is_peering d x) (is_vpc d v && joins d vpc.id row.pair) sound in
        let second = and_parts (is_vpc d v) (joins d vpc.id row.pair) first.1 in
        let none : joins d vpc.id None ≡ true = subst (λ (o : Option (List ℕ × List ℕ)). joins d vpc.id o ≡ true) e second.1 in
        absurd cc
    by (Some pair) e = joined d x v pair sound e

-- ---- the VPC at its other side

far-some : (d : Description) (v : VpcNo) (pair : List ℕ × List ℕ) → has_vpc d pair.0 ≡ true → has_vpc d pair.1 ≡ true → far_vpc d v (Some pair) ≡ Some (vpc_no d (other_side (vpc_at d v).id pair))
far-some d v pair one other = by (bytes_eq pair.0 (vpc_at d v).id)
  where
    by : (b : Bool) → vpc_by d (cond b pair.1 pair.0) ≡ Some (vpc_no d (cond b pair.1 pair.0))
    by true = ap (λ (has : Bool). cond has (Some (vpc_no d pair.1)) None) other
    by false = ap (λ (has : Bool). cond has (Some (vpc_no d pair.0)) None) one

-- it is described
pub far-described : (d : Description) (x : PeerNo) (v : VpcNo) → (can : CanCarry d x v) → (let row = peering_at d x in far_vpc d v row.pair) ≡ Some (vpc_no d (other_side (vpc_at d v).id can.pair))
far-described d x v can = ap (far_vpc d v) can.active ∙ far-some d v can.pair can.one can.other

-- whether it is, where the peering is active
pub far-is_some : (d : Description) (v : VpcNo) (pair : List ℕ × List ℕ) → is_some (far_vpc d v (Some pair)) ≡ has_vpc d (other_side (vpc_at d v).id pair)
far-is_some d v pair = by (has_vpc d (other_side (vpc_at d v).id pair)) (vpc_no d (other_side (vpc_at d v).id pair))
  where
    by : (has : Bool) (w : VpcNo) → is_some (cond has (Some w) None) ≡ has
    by true w = refl
    by false w = refl

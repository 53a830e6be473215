-- What peerings carry, by the lists of the maps.
use Rattle.std.proofs.Common.{◌≡◌, ◌∙◌, ◌&&◌, ◌<◌, ◌==◌, [], ℕ, Bool, List, None, Option, Some, ap, bytes_eq, cond, false, get_or, inl, inr, length, map, refl, true}
use Rattle.std.specs.List.{AllZip}
use Rattle.vpc_base.proofs.Lemmas.{cases_Bool, cases_lt, eq-eqb, get_or-map, get_or_past, ltb-true, or_cases, or_left, or_right, same_bytes, zip_at}
use Rattle.image_tests.specs.Types.{Entry, Run}
use Rattle.vpc_laws.specs.Types.{Description, PeerNo, Peering, VpcNo}
use Rattle.vpc_model.specs.Terms.{IsAccepted, has_block, has_vpc, is_vpc, other_side, peering_at, vpc_at, vpc_no}
use Rattle.vpc_laws.proofs.Numbering.{accepted_numbers_are_own, ids_are_found}
use Rattle.edge_gateways.specs.FarBlocks.{HasBlocksBeyond}
use Rattle.edge_gateways.specs.Terms.{AreEdgesOf, CanCarry, HasBlocksOf, HasPairsOf, HasPeeringsOf, Owner, Sides, carry_if, has_address, is_one_of, other_of, sides_if, sides_of}
use Rattle.reference_check.proofs.VpcIds.{ids_agree}
use Rattle.vpc_model.specs.Lookup.{no_peering, no_vpc}

-- the blocks of a described VPC
pub has_address-is : (d : Description) (sets : List (List Run)) (v : VpcNo) (a : ℕ) → AllZip HasBlocksOf d.vpcs sets → is_vpc d v ≡ true → has_address sets v a ≡ has_block d v a
has_address-is d sets v a zip lies = zip_at HasBlocksOf d.vpcs sets v.0 no_vpc [] zip (ltb-true v.0 (length d.vpcs) lies) a

-- the two numbers of a peering
abbrev pub numbers_of : Description → List ℕ × List ℕ → Sides
numbers_of d pair = record { one = vpc_no d pair.0; other = vpc_no d pair.1 }

described : (d : Description) (x : PeerNo) (pair : List ℕ × List ℕ) → (peering_at d x).pair ≡ Some pair → x.0 < length d.peerings
described d x pair active =
    elim (cases_lt x.0 (length d.peerings)) [
      | inl within ↦ within
      | inr past ↦
          let none : Peering = no_peering in
          let absent : (peering_at d x).pair ≡ None = ap (λ (p : Peering). p.pair) (get_or_past d.peerings x.0 none past) in
          absurd cc
    ]

pub sides-at : (d : Description) (pairs : List (Option Sides)) (x : PeerNo) (v : VpcNo) → pairs ≡ map (sides_of d) d.peerings → (can : CanCarry d x v) → get_or pairs x.0 None ≡ Some (numbers_of d can.pair)
sides-at d pairs x v is can =
    let within = described d x can.pair can.active in
    ap (λ (ps : List (Option Sides)). get_or ps x.0 None) is
    ∙ get_or-map (sides_of d) d.peerings x.0 no_peering None within
    ∙ ap (sides_if d) can.active
    ∙ both (has_vpc d can.pair.0) (has_vpc d can.pair.1) can.one can.other
  where
    both : (a b : Bool) → a ≡ true → b ≡ true → cond (a && b) (Some (numbers_of d can.pair)) None ≡ Some (numbers_of d can.pair)
    both a b e f = rw (e, f) refl

-- the sender's number is one of them
sends : (d : Description) (x : PeerNo) (v : VpcNo) → IsAccepted d → (can : CanCarry d x v) → is_one_of v (Some (numbers_of d can.pair)) ≡ true
sends d x v accepted can =
    let own : vpc_no d (vpc_at d v).id ≡ v = (accepted_numbers_are_own d accepted).vpc v can.sends in
    elim (or_cases (bytes_eq can.pair.0 (vpc_at d v).id) (bytes_eq can.pair.1 (vpc_at d v).id) can.side) [
      | inl one ↦
          let is = same_bytes can.pair.0 (vpc_at d v).id one in
          or_left ((vpc_no d can.pair.0).0 == v.0) ((vpc_no d can.pair.1).0 == v.0) (eq-eqb _ v.0 (ap (λ (i : List ℕ). (vpc_no d i).0) is ∙ ap (λ (n : VpcNo). n.0) own))
      | inr other ↦
          let is = same_bytes can.pair.1 (vpc_at d v).id other in
          or_right ((vpc_no d can.pair.0).0 == v.0) ((vpc_no d can.pair.1).0 == v.0) (eq-eqb _ v.0 (ap (λ (i : List ℕ). (vpc_no d i).0) is ∙ ap (λ (n : VpcNo). n.0) own))
    ]

-- and the receiver's that of the other side
receives : (d : Description) (x : PeerNo) (v : VpcNo) → IsAccepted d → (can : CanCarry d x v) → other_of v (Some (numbers_of d can.pair)) ≡ vpc_no d (other_side (vpc_at d v).id can.pair)
receives d x v accepted can = by (bytes_eq can.pair.0 (vpc_at d v).id) ((vpc_no d can.pair.0).0 == v.0) refl refl
  where
    by : (a b : Bool) → bytes_eq can.pair.0 (vpc_at d v).id ≡ a → ((vpc_no d can.pair.0).0 == v.0) ≡ b → cond ((vpc_no d can.pair.0).0 == v.0) (vpc_no d can.pair.1) (vpc_no d can.pair.0) ≡ vpc_no d (cond (bytes_eq can.pair.0 (vpc_at d v).id) can.pair.1 can.pair.0)
    by true true e f = rw (e, f) refl
    by true false e f = let agree = ids_agree d v can.pair.0 accepted can.sends can.one in absurd cc
    by false true e f = let agree = ids_agree d v can.pair.0 accepted can.sends can.one in absurd cc
    by false false e f = rw (e, f) refl

receiver-lies : (d : Description) (x : PeerNo) (v : VpcNo) → (can : CanCarry d x v) → is_vpc d (vpc_no d (other_side (vpc_at d v).id can.pair)) ≡ true
receiver-lies d x v can =
    elim (cases_Bool (bytes_eq can.pair.0 (vpc_at d v).id)) [
      | inl one ↦ rw one ((ids_are_found d).vpc can.pair.1 can.other).0
      | inr other ↦ rw other ((ids_are_found d).vpc can.pair.0 can.one).0
    ]

pub are_edges : (d : Description) (publics : List (Entry ℕ)) (owners : List (Entry Owner)) (sets : List (List Run)) (pairs : List (Option Sides)) (beyond : List (List Run))
    → IsAccepted d → HasPairsOf d publics owners → HasPeeringsOf d sets pairs → AllZip (HasBlocksBeyond d) d.fars beyond
    → AreEdgesOf d (record { publics = publics; owners = owners; blocks = sets; sides = pairs; beyond = beyond })
are_edges d publics owners sets pairs beyond accepted has_pairs has_peerings has_beyond = record {
  pairs = has_pairs;
  peerings = has_peerings;
  beyond = has_beyond;
  carriers = λ x v can. ap (is_one_of v) (sides-at d pairs x v has_peerings.sides can) ∙ sends d x v accepted can;
  carries = λ x v h can.
      let receiver = ap (other_of v) (sides-at d pairs x v has_peerings.sides can) ∙ receives d x v accepted can in
      ap (λ (b : Bool). carry_if b (has_address sets (other_of v (get_or pairs x.0 None)) h.dst)) (has_address-is d sets v h.src has_peerings.blocks can.sends)
      ∙ ap (λ (w : VpcNo). carry_if (has_block d v h.src) (has_address sets w h.dst)) receiver
      ∙ ap (λ (b : Bool). carry_if (has_block d v h.src) b) (has_address-is d sets (vpc_no d (other_side (vpc_at d v).id can.pair)) h.dst has_peerings.blocks (receiver-lies d x v can));
}

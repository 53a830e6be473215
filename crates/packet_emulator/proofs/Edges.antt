-- What the maps of a network's edges say of addresses and peerings.
use Rattle.std.proofs.Common.{◌≡◌, ◌∙◌, Bool, List, None, Some, ap, cond, false, not, refl, sym, true, ℕ}
use Rattle.edge_gateways.specs.Carry.{carry_if}
use Rattle.edge_gateways.specs.Edges.{AreEdgesOf, CanCarry, EdgeLists, carry}
use Rattle.fabric.proofs.Peered.{far-described}
use Rattle.fabric.specs.Sites.{far_vpc}
use Rattle.edge_gateways.specs.declared.peerings.Carry.{Carry}
use Rattle.edge_gateways.specs.declared.peerings.Carry.TheVariants as carries
use Rattle.vpc_laws.specs.Types.{Description, Header, PeerNo, VpcNo}
use Rattle.vpc_model.specs.Lookup.{peering_at, vpc_at, vpc_no}
use Rattle.vpc_model.specs.Peerings.{has_block, other_side}
use Rattle.vpc_model.specs.Step.Peering.{by_pair}
use Rattle.vpc_model.specs.Step.Words.{go, stop}
use Rattle.vpc_model.specs.declared.places.EnterBy.TheVariants as through
use Rattle.vpc_model.specs.declared.places.Place.TheVariants as places
use Rattle.vpc_model.specs.declared.stops.Stop.TheVariants as stops

-- ---- peerings

-- ---- what is carried

bad_source : {X : Type 0} (b c : Bool) (s t u : X) → carries.BadSource ≡ carry_if b c → s ≡ cond (not b) s (cond (not c) t u)
bad_source true true s t u e = absurd cc
bad_source true false s t u e = absurd cc
bad_source false c s t u e = refl

bad_destination : {X : Type 0} (b c : Bool) (s t u : X) → carries.BadDestination ≡ carry_if b c → t ≡ cond (not b) s (cond (not c) t u)
bad_destination true true s t u e = absurd cc
bad_destination true false s t u e = refl
bad_destination false c s t u e = absurd cc

carried : {X : Type 0} (b c : Bool) (s t u : X) → carries.Yes ≡ carry_if b c → u ≡ cond (not b) s (cond (not c) t u)
carried true true s t u e = refl
carried true false s t u e = absurd cc
carried false c s t u e = absurd cc

-- the other side of the peering
abbrev far : Description → VpcNo → List ℕ × List ℕ → VpcNo
far d v pair = let row = vpc_at d v in vpc_no d (other_side row.id pair)

told-carry : (d : Description) (m : EdgeLists) (x : PeerNo) (v : VpcNo) (h : Header) (can : CanCarry d x v) (answer : Carry) → AreEdgesOf d m → answer ≡ carry m x v h
    → answer ≡ carry_if (has_block d v h.src) (has_block d (far d v can.pair) h.dst)
told-carry d m x v h can answer are told = told ∙ are.carries x v h can

pub peer-bad_source : (d : Description) (m : EdgeLists) (x : PeerNo) (v : VpcNo) (h : Header) (can : CanCarry d x v) → AreEdgesOf d m → carries.BadSource ≡ carry m x v h
    → let row = peering_at d x in stop (stops.PeerSource x) ≡ by_pair d x v h row.pair
peer-bad_source d m x v h can are told =
    bad_source (has_block d v h.src) (has_block d (far d v can.pair) h.dst) (stop (stops.PeerSource x)) (stop (stops.PeerDestination x)) (go (places.Enter (far d v can.pair) (through.Peering x)) h) (told-carry d m x v h can carries.BadSource are told)
    ∙ sym (ap (by_pair d x v h) can.active)

pub peer-bad_destination : (d : Description) (m : EdgeLists) (x : PeerNo) (v : VpcNo) (h : Header) (can : CanCarry d x v) → AreEdgesOf d m → carries.BadDestination ≡ carry m x v h
    → let row = peering_at d x in stop (stops.PeerDestination x) ≡ by_pair d x v h row.pair
peer-bad_destination d m x v h can are told =
    bad_destination (has_block d v h.src) (has_block d (far d v can.pair) h.dst) (stop (stops.PeerSource x)) (stop (stops.PeerDestination x)) (go (places.Enter (far d v can.pair) (through.Peering x)) h) (told-carry d m x v h can carries.BadDestination are told)
    ∙ sym (ap (by_pair d x v h) can.active)

pub peer-carried : (d : Description) (m : EdgeLists) (x : PeerNo) (v w : VpcNo) (h : Header) (can : CanCarry d x v) → AreEdgesOf d m → carries.Yes ≡ carry m x v h
    → (let row = peering_at d x in Some w ≡ far_vpc d v row.pair) → let row = peering_at d x in go (places.Enter w (through.Peering x)) h ≡ by_pair d x v h row.pair
peer-carried d m x v w h can are told is =
    let same : Some w ≡ Some (far d v can.pair) = is ∙ far-described d x v can in
    let there : w ≡ far d v can.pair = cc in
    ap (λ (y : VpcNo). go (places.Enter y (through.Peering x)) h) there
    ∙ carried (has_block d v h.src) (has_block d (far d v can.pair) h.dst) (stop (stops.PeerSource x)) (stop (stops.PeerDestination x)) (go (places.Enter (far d v can.pair) (through.Peering x)) h) (told-carry d m x v h can carries.Yes are told)
    ∙ sym (ap (by_pair d x v h) can.active)

-- the other VPC is there
pub peer-told : (d : Description) (x : PeerNo) (v : VpcNo) → CanCarry d x v → (let row = peering_at d x in None ≡ far_vpc d v row.pair) → ⊥
peer-told d x v can is = let none : None ≡ Some (far d v can.pair) = is ∙ far-described d x v can in cc

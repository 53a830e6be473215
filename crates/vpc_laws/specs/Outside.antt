-- Networks that aren't described, firewall endpoints and the tables of gateways: where they stand in a walk, and that nothing
-- changes where no row tells of them.
use Rattle.std.specs.Prelude.{◌≡◌, ◌-◌, [], Bool, Contains, List, None, Option, drop, false, length, not, take, true, ℕ}
use Rattle.std.specs.List.{AllByRecursion}
use Rattle.vpc_base.specs.declared.headers.Label.TheVariants as labels
use Rattle.vpc_laws.specs.Types.{Description, EniNo, EnterBy, FarNo, Header, Label, NatNo, PeerNo, Place, RouteTable, SubnetNo, TableNo, TgwTableNo, VpcNo}
use Rattle.vpc_model.specs.declared.places.End.TheVariants as ends
use Rattle.vpc_model.specs.declared.places.EnterBy.TheVariants as through
use Rattle.vpc_model.specs.declared.places.Place.TheVariants as places
use Rattle.vpc_model.specs.declared.rows.Target.TheVariants as targets
use Rattle.vpc_model.specs.declared.stops.Foreign.TheVariants as foreign
use Rattle.vpc_model.specs.declared.stops.Stop.TheVariants as stops
use Rattle.vpc_model.specs.Far.{far_end_of_id}
use Rattle.vpc_model.specs.Firewalls.{entrance_table}
use Rattle.vpc_model.specs.Step.Transit.{to_attached, to_attachment}
use Rattle.vpc_model.specs.Step.Router.{to_half_peering}
use Rattle.vpc_model.specs.Terms.{Appliances, Moment, Next, arrive, attachment_of_id, boxes_at, go, peering_at, step_of, stop, to_target, walk_of}

-- ---- which place comes after which

-- packets come in from a network that isn't described
abbrev pub is_far_in : Place → Bool
is_far_in (places.FarIn k) = true
is_far_in _ = false

-- packets go out to one
abbrev pub is_far_out : Place → Bool
is_far_out (places.FarOut k) = true
is_far_out _ = false

-- a place of such a network, or a firewall endpoint
abbrev pub is_beyond : Place → Bool
is_beyond (places.FarOut k) = true
is_beyond (places.FarIn k) = true
is_beyond (places.Inspect e) = true
is_beyond _ = false

-- a router
abbrev pub is_router : Place → Bool
is_router (places.Router s came) = true
is_router _ = false

-- into a VPC, by what passes the test
abbrev pub is_door : (EnterBy → Bool) → Place → Bool
is_door test (places.Enter v by) = test by
is_door test _ = false

-- by an internet gateway
abbrev pub is_gateway_door : EnterBy → Bool
is_gateway_door through.Gateway = true
is_gateway_door _ = false

-- by a peering
abbrev pub is_peering_door : EnterBy → Bool
is_peering_door (through.Peering x) = true
is_peering_door _ = false

-- where a router sends packets
abbrev pub is_behind_router : Place → Bool
is_behind_router (places.Into i) = true
is_behind_router (places.NatIn n) = true
is_behind_router (places.NatOut n) = true
is_behind_router (places.IgwOut v) = true
is_behind_router (places.Peer x v) = true
is_behind_router (places.Tgw a s) = true
is_behind_router (places.FarOut k) = true
is_behind_router (places.Inspect e) = true
is_behind_router _ = false

-- where packets that entered a VPC go on: to an interface, back by a NAT gateway, or through a firewall endpoint
abbrev pub is_behind_door : Place → Bool
is_behind_door (places.Into i) = true
is_behind_door (places.NatIn n) = true
is_behind_door (places.Inspect e) = true
is_behind_door _ = false

-- where a transit gateway sends packets
abbrev pub is_behind_transit : Place → Bool
is_behind_transit (places.TgwLeave a s) = true
is_behind_transit (places.FarOut k) = true
is_behind_transit _ = false

-- where packets from a network that isn't described come to: into a VPC, though by no internet gateway, or by a transit gateway
abbrev pub is_behind_network : Place → Bool
is_behind_network (places.Enter v by) = not (is_gateway_door by)
is_behind_network (places.TgwLeave a s) = true
is_behind_network (places.FarOut k) = true
is_behind_network _ = false

-- the second place may come after the first
abbrev pub may_follow : Place → Place → Bool
may_follow (places.OutOf i) q = is_router q
may_follow (places.Router s came) q = is_behind_router q
may_follow (places.Enter v by) q = is_behind_door q
may_follow (places.Into i) (places.OutOf j) = true
may_follow (places.IgwOut v) places.Internet = true
may_follow places.Internet (places.IgwIn v) = true
may_follow (places.IgwIn v) q = is_door is_gateway_door q
may_follow (places.NatOut n) q = is_router q
may_follow (places.NatIn n) q = is_router q
may_follow (places.Peer x v) q = is_door is_peering_door q
may_follow (places.Tgw a s) q = is_behind_transit q
may_follow (places.TgwLeave a s) q = is_router q
may_follow (places.FarIn k) q = is_behind_network q
may_follow (places.Inspect e) q = is_router q
may_follow _ _ = false

-- the place that comes next passes the test, if one does
abbrev pub LeadsTo : (Place → Bool) → Next → Type 0
LeadsTo test (go p k) = test p ≡ true
LeadsTo test (arrive end) = Unit {0}
LeadsTo test (stop s) = Unit {0}

-- a step leads to a place that may come next
abbrev pub StepsFollow : Type 0
StepsFollow =
    (d : Description) (appliances : Appliances) (label : Label) (m : Moment)
    → let s = step_of d appliances label m in LeadsTo (may_follow m.place) s.next

-- ---- networks that aren't described

-- no step comes to where packets come in from a network
abbrev pub NoStepComesIn : Type 0
NoStepComesIn =
    (d : Description) (appliances : Appliances) (label : Label) (m : Moment)
    → let s = step_of d appliances label m in LeadsTo (λ p. not (is_far_in p)) s.next

-- arrived in the network, or stopped
abbrev pub EndsAt : FarNo → Next → Type 0
EndsAt k (go p h) = ⊥
EndsAt k (arrive end) = end ≡ ends.Far k
EndsAt k (stop s) = Unit {0}

-- where packets go out to a network no step goes on
abbrev pub NoStepGoesBeyond : Type 0
NoStepGoesBeyond =
    (d : Description) (appliances : Appliances) (label : Label) (m : Moment) (k : FarNo) → m.place ≡ places.FarOut k
    → let s = step_of d appliances label m in EndsAt k s.next

-- so a walk comes in from a network at its first place alone, and goes out to one at its last alone
abbrev pub NetworksStandAtEnds : Type 0
NetworksStandAtEnds =
    (d : Description) (appliances : Appliances) (label : Label) (m : Moment)
    → let w = walk_of d appliances label m in
    AllByRecursion (λ h. is_far_in h.place ≡ false) (drop 1 w.hops)
    × AllByRecursion (λ h. is_far_out h.place ≡ false) (take (length w.hops - 1) w.hops)

-- from a network a packet comes to a place of a VPC by its door, which isn't that of the internet gateway, or by a transit gateway
abbrev pub NetworksEnterByDoors : Type 0
NetworksEnterByDoors =
    (d : Description) (appliances : Appliances) (label : Label) (m : Moment) (k : FarNo) → m.place ≡ places.FarIn k
    → let s = step_of d appliances label m in LeadsTo is_behind_network s.next

-- an open that has entered a VPC, however it did, comes to an interface or a firewall endpoint, else to a NAT gateway, which
-- lets it in nowhere; and from an interface none goes on but through an appliance
pub record OpensStayInside (d : Description) (appliances : Appliances) : Type 0 where
  pub entered : (m : Moment) (v : VpcNo) (by : EnterBy) → m.place ≡ places.Enter v by
      → let s = step_of d appliances labels.Opening m in LeadsTo is_behind_door s.next
  pub refused : (m : Moment) (n : NatNo) → m.place ≡ places.NatIn n
      → let s = step_of d appliances labels.Opening m in s.next ≡ stop (stops.NatUnsolicited n)
  pub delivered : (m : Moment) (i : EniNo) → m.place ≡ places.Into i → boxes_at appliances i ≡ None
      → let s = step_of d appliances labels.Opening m in LeadsTo (λ p. false) s.next

abbrev pub EnteredOpensStayInside : Type 0
EnteredOpensStayInside = (d : Description) (appliances : Appliances) → OpensStayInside d appliances

-- ---- descriptions that tell of none

-- no row tells of a network that isn't described or of a firewall endpoint, and no table is a gateway's
pub record TellsNothingBeyond (d : Description) : Type 0 where
  pub fars : d.fars ≡ []
  pub firewalls : d.firewalls ≡ []
  pub tables : (t : RouteTable) → Contains d.tables t → t.gateways ≡ []

-- what leads out of the VPCs, peerings and transit gateways that are described isn't followed, and packets enter without a table
pub record IsWithoutThem (d : Description) : Type 0 where
  pub routes : (s : SubnetNo) (h : Header) (t : TableNo) (k : ℕ) (id : List ℕ)
      → to_target d s h t k (targets.Other id) ≡ stop (stops.Unmodelled (foreign.Target t k))
  pub peerings : (s : SubnetNo) (h : Header) (x : PeerNo)
      → let row = peering_at d x in to_half_peering d s h x (far_end_of_id d row.id) ≡ stop (stops.Unmodelled (foreign.Peering x))
  pub attachments : (entered : Option SubnetNo) (h : Header) (t : TgwTableNo) (k : ℕ) (id : List ℕ)
      → to_attached d entered h t k id (far_end_of_id d id) ≡ to_attachment d entered h t k (attachment_of_id d id)
  pub entrances : (v : VpcNo) (by : EnterBy) → entrance_table d v by ≡ None

abbrev pub NothingBeyondChangesNothing : Type 0
NothingBeyondChangesNothing = (d : Description) → TellsNothingBeyond d → IsWithoutThem d

-- and no step comes to such a place
abbrev pub NoStepGoesThere : Type 0
NoStepGoesThere =
    (d : Description) (appliances : Appliances) (label : Label) (m : Moment) → TellsNothingBeyond d
    → let s = step_of d appliances label m in LeadsTo (λ p. not (is_beyond p)) s.next

-- so no walk does, from other places
abbrev pub NoWalkGoesThere : Type 0
NoWalkGoesThere =
    (d : Description) (appliances : Appliances) (label : Label) (m : Moment) → TellsNothingBeyond d → is_beyond m.place ≡ false
    → let w = walk_of d appliances label m in AllByRecursion (λ h. is_beyond h.place ≡ false) w.hops

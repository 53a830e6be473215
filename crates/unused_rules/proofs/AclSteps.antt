-- Steps of a packet that the ACLs of two descriptions judge alike.
use Rattle.std.proofs.Common.{◌≡◌, ◌==◌, ◌∙◌, ◌∷◌, [], Bool, List, None, Option, Some, ap, ap₂, cond, refl, slice_index_or, sym, ℕ}
use Rattle.copied_rows.specs.Filters.{with_filters}
use Rattle.vpc_base.specs.declared.headers.Dir.TheVariants as dirs
use Rattle.vpc_laws.specs.Types.{Acl, AclNo, AttNo, Description, Dir, EniNo, FarKind, FarNo, FirewallNo, Header, IgwNo, Interface, Label, NatLife, NatNo, PeerNo, Place, RuleRef, Stop, SubnetNo, TableNo, Target, VpcNo}
use Rattle.vpc_model.specs.Far.{far_end_of_id, far_of_id, vpc_beside}
use Rattle.vpc_model.specs.Firewalls.{entrance_table, firewall_of}
use Rattle.vpc_model.specs.Step.Enter.{enter_by_route, enter_by_table, enter_firewall, enter_interface, enter_target}
use Rattle.vpc_model.specs.Step.Inspect.{firewall_subnet}
use Rattle.vpc_model.specs.Step.Router.{is_beside, to_far, to_firewall, to_half_peering, to_network_by, to_other}
use Rattle.vpc_model.specs.Terms.{Appliances, Moment, Next, acl_at, acl_of, acl_verdict, attachment_for, by_route, chosen_route, crossing, deliver, eni_no, enter_host, entering, first_rule_of, gateway_of, go, group_of_id, has_vpc, host_of, igw_no, interface_at, is_attached, is_gateway, is_listed, leaving, nat_at, nat_no, no_route, or_else, other_side, peer_no, peering_at, rule_of_group, step_at, stop, subnet_at, subnet_no, subnet_of, table_at, table_of, to_host, to_interface, to_internet, to_nat, to_peer, to_target, to_transit, to_zone, unless_stopped, vpc_at, vpc_of_subnet, zone_subnet}
use Rattle.vpc_model.specs.declared.places.Place.TheVariants as places
use Rattle.vpc_model.specs.declared.rows.FarKind.TheVariants as fars
use Rattle.vpc_model.specs.declared.rows.NatLife.TheVariants as lives
use Rattle.vpc_model.specs.declared.rows.Target.TheVariants as targets
use Rattle.vpc_model.specs.declared.stops.Foreign.TheVariants as foreign
use Rattle.vpc_model.specs.declared.stops.Stop.TheVariants as stops
use Rattle.std.specs.Prelude.{option_and_then}
use Rattle.unused_rules.proofs.Alike.{Alike, first-alike, get_or-alike}
use Rattle.unused_rules.proofs.NestedSteps.{IsSameStep}
use Rattle.unused_rules.proofs.SameSteps.{LetPassTheSame, same-into, same-out}
use Rattle.vpc_model.specs.Lookup.{far_at, no_acl}

-- of the same subnets, and with the same verdict on a header
pub record JudgeTheSame (h : Header) (a b : Acl) : Type 0 where
  pub subnets : a.subnets ≡ b.subnets
  pub verdict : (dir : Dir) → acl_verdict b.rows dir h ≡ acl_verdict a.rows dir h

pub judges_the_same : (h : Header) (a : Acl) → JudgeTheSame h a a
judges_the_same h a = record { subnets = refl; verdict = λ dir. refl }

-- the stop of a verdict
abbrev stop_by : (ℕ → Stop) → Bool × ℕ → Option Stop
stop_by make verdict = cond verdict.0 None (Some (make verdict.1))

module _ (d : Description) (acls : List Acl) (h : Header) (alike : Alike (JudgeTheSame h) d.acls acls) where
  abbrev e : Description
  e = with_filters d acls d.groups

  -- ---- ACLs

  acl_of-same : (s : SubnetNo) → acl_of e s ≡ acl_of d s
  acl_of-same s =
      let row = subnet_at d s in
      let make : ℕ → AclNo = λ k. record { 0 = k } in
      ap make (sym (first-alike (JudgeTheSame h) (λ (a : Acl). is_listed row.id a.subnets)
      (λ a b r. ap (λ (l : List (List ℕ)). is_listed row.id l) r.subnets) d.acls acls alike))

  judged : (a : AclNo) → JudgeTheSame h (acl_at d a) (acl_at e a)
  judged a =
      let none : Acl = no_acl in
      get_or-alike (JudgeTheSame h) none (judges_the_same h none) d.acls acls a.0 alike

  leaving-same : (s : SubnetNo) → leaving e s h ≡ leaving d s h
  leaving-same s =
      ap (λ (n : AclNo). let a = acl_at e n in stop_by (stops.AclOut n) (acl_verdict a.rows dirs.Outward h)) (acl_of-same s)
      ∙ ap (stop_by (stops.AclOut (acl_of d s))) ((judged (acl_of d s)).verdict dirs.Outward)

  entering-same : (s : SubnetNo) → entering e s h ≡ entering d s h
  entering-same s =
      ap (λ (n : AclNo). let a = acl_at e n in stop_by (stops.AclIn n) (acl_verdict a.rows dirs.Inward h)) (acl_of-same s)
      ∙ ap (stop_by (stops.AclIn (acl_of d s))) ((judged (acl_of d s)).verdict dirs.Inward)

  crossing-same : (s t : SubnetNo) → crossing e s t h ≡ crossing d s t h
  crossing-same s t = ap₂ (λ (out into : Option Stop). cond (s.0 == t.0) None (or_else out into)) (leaving-same s) (entering-same t)

  -- ---- routers

  to_host-same : (s : SubnetNo) (i : Option EniNo) → to_host e s h i ≡ to_host d s h i
  to_host-same s None = refl
  to_host-same s (Some i) = ap (λ (o : Option Stop). unless_stopped o (deliver d i h)) (crossing-same s (subnet_of d i))

  to_internet-same : (s : SubnetNo) (g : IgwNo) → to_internet e s h g ≡ to_internet d s h g
  to_internet-same s g =
      let v = vpc_of_subnet d s in
      ap (λ (o : Option Stop). cond (is_attached g (gateway_of d v)) (unless_stopped o (go (places.IgwOut v) h)) (stop (stops.GatewayDetached g))) (leaving-same s)

  to_nat-same : (s : SubnetNo) (n : NatNo) (life : NatLife) → to_nat e s h n life ≡ to_nat d s h n life
  to_nat-same s n lives.Gone = refl
  to_nat-same s n lives.Unmodelled = refl
  to_nat-same s n (lives.Live subnet eni address) =
      ap (λ (o : Option Stop). unless_stopped o (go (places.NatOut n) h)) (crossing-same s (subnet_no d subnet))

  to_far-same : (s : SubnetNo) (k : FarNo) → to_far e s h k ≡ to_far d s h k
  to_far-same s k = ap (λ (o : Option Stop). unless_stopped o (go (places.FarOut k) h)) (leaving-same s)

  to_half_peering-same : (s : SubnetNo) (x : PeerNo) (k : Option FarNo) → to_half_peering e s h x k ≡ to_half_peering d s h x k
  to_half_peering-same s x None = refl
  to_half_peering-same s x (Some k) = to_far-same s k

  to_peer-same : (s : SubnetNo) (x : PeerNo) (pair : Option (List ℕ × List ℕ)) → to_peer e s h x pair ≡ to_peer d s h x pair
  to_peer-same s x None = refl
  to_peer-same s x (Some pair) =
      let v = vpc_of_subnet d s in
      let row = vpc_at d v in
      let peering = peering_at d x in
      ap₂ (λ (o : Option Stop) (half : Next). cond (has_vpc d (other_side row.id pair)) (unless_stopped o (go (places.Peer x v) h)) half) (leaving-same s)
      (to_half_peering-same s x (far_end_of_id d peering.id))

  to_zone-same : (s : SubnetNo) (a : AttNo) (t : Option SubnetNo) → to_zone e s h a t ≡ to_zone d s h a t
  to_zone-same s a None = refl
  to_zone-same s a (Some t) =
      ap₂ (λ (out into : Option Stop). unless_stopped (or_else out into) (go (places.Tgw a t) h)) (leaving-same s) (entering-same t)

  to_transit-same : (s : SubnetNo) (t : TableNo) (k : ℕ) (a : Option AttNo) → to_transit e s h t k a ≡ to_transit d s h t k a
  to_transit-same s t k None = refl
  to_transit-same s t k (Some a) = to_zone-same s a (zone_subnet d a s)

  to_interface-same : (s : SubnetNo) (j : EniNo) → to_interface e s h j ≡ to_interface d s h j
  to_interface-same s j =
      let i = interface_at d j in
      ap (λ (o : Option Stop). unless_stopped o (cond (is_gateway i.kind) (stop (stops.NotAHost j)) (go (places.Into j) h))) (crossing-same s (subnet_of d j))

  to_network-same : (s : SubnetNo) (t : TableNo) (k : ℕ) (far : FarNo) (kind : FarKind) → to_network_by e s h t k far kind ≡ to_network_by d s h t k far kind
  to_network-same s t k far (fars.PrivateGateway vpc) =
      ap (λ (x : Next). cond (is_beside (vpc_of_subnet d s) (vpc_beside d (far_at d far))) x (stop (stops.FarDetached far))) (to_far-same s far)
  to_network-same s t k far (fars.Endpoint vpc) =
      ap (λ (x : Next). cond (is_beside (vpc_of_subnet d s) (vpc_beside d (far_at d far))) x (stop (stops.Unmodelled (foreign.Target t k)))) (to_far-same s far)
  to_network-same s t k far (fars.Attachment vpc) = refl
  to_network-same s t k far (fars.Peering requester accepter) = refl

  to_firewall-same : (s : SubnetNo) (t : TableNo) (k : ℕ) (f : Option FirewallNo) → to_firewall e s h t k f ≡ to_firewall d s h t k f
  to_firewall-same s t k None = refl
  to_firewall-same s t k (Some f) =
      ap (λ (o : Option Stop). unless_stopped o (go (places.Inspect f) h)) (crossing-same s (firewall_subnet d f))

  to_other-same : (s : SubnetNo) (t : TableNo) (k : ℕ) (id : List ℕ) (far : Option FarNo) → to_other e s h t k id far ≡ to_other d s h t k id far
  to_other-same s t k id None = to_firewall-same s t k (firewall_of d (vpc_of_subnet d s) id)
  to_other-same s t k id (Some far) = let row = far_at d far in to_network-same s t k far row.kind

  to_target-same : (s : SubnetNo) (t : TableNo) (k : ℕ) (target : Target) → to_target e s h t k target ≡ to_target d s h t k target
  to_target-same s t k targets.Local = to_host-same s (host_of d (vpc_of_subnet d s) h.dst)
  to_target-same s t k (targets.Internet id) = to_internet-same s (igw_no d id)
  to_target-same s t k (targets.Nat id) = let row = nat_at d (nat_no d id) in to_nat-same s (nat_no d id) row.life
  to_target-same s t k (targets.Peer id) = let row = peering_at d (peer_no d id) in to_peer-same s (peer_no d id) row.pair
  to_target-same s t k (targets.Transit id) = to_transit-same s t k (attachment_for d id s)
  to_target-same s t k (targets.Interface id) = to_interface-same s (eni_no d id)
  to_target-same s t k (targets.Other id) = to_other-same s t k id (far_of_id d id)

  by_route-same : (s : SubnetNo) (t : TableNo) (k : Option ℕ) → by_route e s h t k ≡ by_route d s h t k
  by_route-same s t None = refl
  by_route-same s t (Some k) =
      let table = table_at d t in
      let r = slice_index_or table.routes k no_route in
      ap (λ (x : Next). cond r.blackhole (stop (stops.Blackhole t k)) x) (to_target-same s t k r.target)

  -- ---- into a VPC

  enter_host-same : (v : VpcNo) (i : Option EniNo) → enter_host e v h i ≡ enter_host d v h i
  enter_host-same v None = refl
  enter_host-same v (Some i) = ap (λ (o : Option Stop). unless_stopped o (deliver d i h)) (entering-same (subnet_of d i))

  enter_interface-same : (j : EniNo) → enter_interface e h j ≡ enter_interface d h j
  enter_interface-same j =
      let i = interface_at d j in
      ap (λ (o : Option Stop). unless_stopped o (cond (is_gateway i.kind) (stop (stops.NotAHost j)) (go (places.Into j) h))) (entering-same (subnet_of d j))

  enter_firewall-same : (t : TableNo) (k : ℕ) (f : Option FirewallNo) → enter_firewall e h t k f ≡ enter_firewall d h t k f
  enter_firewall-same t k None = refl
  enter_firewall-same t k (Some f) = ap (λ (o : Option Stop). unless_stopped o (go (places.Inspect f) h)) (entering-same (firewall_subnet d f))

  enter_target-same : (v : VpcNo) (t : TableNo) (k : ℕ) (target : Target) → enter_target e v h t k target ≡ enter_target d v h t k target
  enter_target-same v t k targets.Local = enter_host-same v (host_of d v h.dst)
  enter_target-same v t k (targets.Interface id) = enter_interface-same (eni_no d id)
  enter_target-same v t k (targets.Other id) = enter_firewall-same t k (firewall_of d v id)
  enter_target-same v t k (targets.Internet id) = refl
  enter_target-same v t k (targets.Nat id) = refl
  enter_target-same v t k (targets.Transit id) = refl
  enter_target-same v t k (targets.Peer id) = refl

  enter_by_route-same : (v : VpcNo) (t : TableNo) (k : Option ℕ) → enter_by_route e v h t k ≡ enter_by_route d v h t k
  enter_by_route-same v t None = refl
  enter_by_route-same v t (Some k) =
      let table = table_at d t in
      let r = slice_index_or table.routes k no_route in
      ap (λ (x : Next). cond r.blackhole (stop (stops.Blackhole t k)) x) (enter_target-same v t k r.target)

  enter_by_table-same : (v : VpcNo) (t : Option TableNo) → enter_by_table e v h t ≡ enter_by_table d v h t
  enter_by_table-same v None = enter_host-same v (host_of d v h.dst)
  enter_by_table-same v (Some t) = let table = table_at d t in enter_by_route-same v t (chosen_route d table.routes h.dst)

  -- ---- groups

  rules-same : (i : Interface) (dir : Dir) (ids : List (List ℕ)) → first_rule_of e i dir h ids ≡ first_rule_of d i dir h ids
  rules-same i dir [] = refl
  rules-same i dir (id ∷ ids) = ap (λ (o : Option RuleRef). or_else (option_and_then (rule_of_group d i dir h) (group_of_id d id)) o) (rules-same i dir ids)

  pass-same : LetPassTheSame d e h
  pass-same = record { first = λ i dir none. rules-same i dir i.groups ∙ none; second = λ i dir none. sym (rules-same i dir i.groups) ∙ none }

-- ---- steps

pub same_by_acls : (d : Description) (acls : List Acl) (appliances : Appliances) (label : Label) (p : Place) (m : Moment)
    → Alike (JudgeTheSame m.header) d.acls acls
    → IsSameStep (step_at (with_filters d acls d.groups) appliances label p m) (step_at d appliances label p m)
same_by_acls d acls appliances label (places.OutOf i) m alike = same-out d d.acls acls d.groups d.groups label i m (pass-same d acls m.header alike)
same_by_acls d acls appliances label (places.Into i) m alike = same-into d d.acls acls d.groups d.groups appliances label i m (pass-same d acls m.header alike)
same_by_acls d acls appliances label (places.Router s came) m alike =
    let t = table_of d s in
    let table = table_at d t in
    record { next = by_route-same d acls m.header alike s t (chosen_route d table.routes m.header.dst); conns = refl; nats = refl }
same_by_acls d acls appliances label (places.Enter v by) m alike =
    record { next = enter_by_table-same d acls m.header alike v (entrance_table d v by); conns = refl; nats = refl }
same_by_acls d acls appliances label p m alike = record { next = refl; conns = refl; nats = refl }

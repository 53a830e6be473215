-- Which place a step leads to, by the place where it is.
use Rattle.std.proofs.Common.{Bool, List, None, Option, Some, ap, cond, false, inl, inr, is_none, not, refl, slice_index_or, subst, sym, true, ℕ, ◌&&◌, ◌≡◌, ◌⊎◌, ◌||◌}
use Rattle.vpc_base.proofs.Lemmas.{cond_both}
use Rattle.vpc_base.specs.declared.headers.Dir.TheVariants.{Inward, Outward}
use Rattle.vpc_base.specs.declared.headers.Label.TheVariants.{Answer, Opening}
use Rattle.vpc_laws.proofs.Flow.{taken_by}
use Rattle.vpc_laws.specs.Outside.{IsWithoutThem, is_beyond, may_follow}
use Rattle.vpc_laws.specs.Types.{AttNo, Block, Box5, By, Came, Description, EniNo, EnterBy, Far, FarKind, FarNo, FirewallNo, Header, IgwNo, Label, NatLife, NatNo, PeerNo, Place, Stop, SubnetNo, TableNo, Target, TgwTableNo, VpcNo}
use Rattle.vpc_model.specs.Far.{blocks_beyond, far_end_of_id, far_of_id, is_within, peering_to, table_of_attachment_id, vpc_beside}
use Rattle.vpc_model.specs.Firewalls.{boxes_behind, entrance_table, firewall_of}
use Rattle.vpc_model.specs.Lookup.{attachment_at, far_at}
use Rattle.vpc_model.specs.Step.Enter.{enter_by_route, enter_by_table, enter_firewall, enter_interface, enter_target}
use Rattle.vpc_model.specs.Step.Far.{in_by, in_by_attachment, in_by_endpoint, in_by_gateway, in_by_peering, out_by, over_half_peering, to_service}
use Rattle.vpc_model.specs.Step.Inspect.{firewall_subnet, step_inspect}
use Rattle.vpc_model.specs.Step.Router.{is_beside, to_far, to_firewall, to_half_peering, to_network_by, to_other}
use Rattle.vpc_model.specs.Step.Transit.{to_attached, to_first, to_leave}
use Rattle.vpc_model.specs.Terms.{Appliances, Connection, Moment, Next, Step, Translation, arrive, attachment_for, attachment_of_id, blocked_at, boxes_at, by_attachment, by_pair, by_route, by_tgw_route, by_tgw_table, chosen_route, chosen_tgw_route, crossing, deliver, deliver_by, eni_no, enter_host, entering, forwarded, from_inward, gateway_of, go, go_private, go_public, has_address, has_block, has_vpc, host_of, igw_no, in_passing, interface_at, inward, is_attached, is_full, is_gateway, is_translatable, is_unroutable, leave_by, leave_subnet, leaving, nat_at, nat_no, nat_of, no_route, no_tgw_route, or_else, other_side, out_passing, over_peering, owner_of, passes, passing_of, peer_no, peering_at, private_of, public_of, step_at, step_into, step_nat_in, step_nat_out, step_out, stop, subnet_no, subnet_of, table_at, table_of, table_of_attachment, tgw_table_at, to_attachment, to_host, to_interface, to_internet, to_nat, to_owner, to_peer, to_target, to_transit, to_zone, translate, translation_of, unless_stopped, vpc_at, vpc_no, vpc_of_subnet, zone_subnet}
use Rattle.vpc_model.specs.Transit.{first_described}
use Rattle.vpc_model.specs.declared.places.EnterBy.TheVariants as through
use Rattle.vpc_model.specs.declared.places.End.TheVariants as ends
use Rattle.vpc_model.specs.declared.places.Place.TheVariants as places
use Rattle.vpc_model.specs.declared.rows.FarKind.TheVariants as kinds
use Rattle.vpc_model.specs.declared.rows.NatLife.TheVariants as lives
use Rattle.vpc_model.specs.declared.rows.Target.TheVariants as targets
use Rattle.vpc_model.specs.declared.stops.Stop.TheVariants as stops

-- the place may come next: one of a network or a firewall endpoint only where such are followed
abbrev pub IsWay : Bool → Place → Place → Type 0
IsWay followed p q = (may_follow p q ≡ true) × ((is_beyond q && not followed) ≡ false)

-- so it is of what comes next
abbrev pub Leads : Bool → Place → Next → Type 0
Leads followed p (go q k) = IsWay followed p q
Leads followed p (arrive end) = Unit {0}
Leads followed p (stop s) = Unit {0}

module _ (d : Description) (followed : Bool) (known : (followed ≡ true) ⊎ IsWithoutThem d) where
  abbrev LeadsOn : Place → Next → Type 0
  LeadsOn p x = Leads followed p x

  unless-leads : (p : Place) (s : Option Stop) (x : Next) → LeadsOn p x → LeadsOn p (unless_stopped s x)
  unless-leads p None x on = on
  unless-leads p (Some s) x on = tt

  either : (b : Bool) (p : Place) (x y : Next) → LeadsOn p x → LeadsOn p y → LeadsOn p (cond b x y)
  either b p x y one two = cond_both b x y (LeadsOn p) (λ _. one) (λ _. two)

  -- where such are followed, or else nothing comes next
  where_followed : (p : Place) (x : Next) (s : Stop) → (followed ≡ true → LeadsOn p x) → (IsWithoutThem d → x ≡ stop s) → LeadsOn p x
  where_followed p x s on without = elim known [ inl there ↦ on there | inr none ↦ subst (LeadsOn p) (sym (without none)) tt ]

  -- ---- interfaces

  deliver-leads : (p : Place) (i : EniNo) (h : Header) (n : Option NatNo) → ((n : NatNo) → may_follow p (places.NatIn n) ≡ true) → ((i : EniNo) → may_follow p (places.Into i) ≡ true) → LeadsOn p (deliver_by d i h n)
  deliver-leads p i h None nat host = let e = interface_at d i in either (is_gateway e.kind) p (stop (stops.NotAHost i)) (go (places.Into i) h) tt (host i, refl)
  deliver-leads p i h (Some n) nat host = (nat n, refl)

  out_passing-leads : (i : EniNo) (m : Moment) (by : Option By) (conns : List Connection) → LeadsOn (places.OutOf i) (out_passing d i m (record { by = by; conns = conns })).next
  out_passing-leads i m None conns = tt
  out_passing-leads i m (Some by) conns = (refl, refl)

  step_out-leads : (label : Label) (i : EniNo) (m : Moment) → LeadsOn (places.OutOf i) (step_out d label i m).next
  step_out-leads label i m =
      let e = interface_at d i in
      let passing = passing_of d label i Outward m.header m.conns in
      cond_both e.idle _ _ (λ (s : Step). LeadsOn (places.OutOf i) s.next) (λ _. tt)
      (λ _. cond_both (e.checked && not (has_address e m.header.src)) _ _ (λ (s : Step). LeadsOn (places.OutOf i) s.next) (λ _. tt) (λ _. out_passing-leads i m passing.by passing.conns))

  taken_by-leads : (i : EniNo) (h : Header) (boxes : Option (List Box5)) → LeadsOn (places.Into i) (taken_by d i h boxes)
  taken_by-leads i h None = tt
  taken_by-leads i h (Some boxes) =
      either (has_address (interface_at d i) h.dst) (places.Into i) (arrive (ends.Interface i)) (forwarded i h boxes) tt
      (either (passes boxes h) (places.Into i) (go (places.OutOf i) h) (stop (stops.ApplianceDrop i)) (refl, refl) tt)

  in_passing-leads : (appliances : Appliances) (i : EniNo) (m : Moment) (by : Option By) (conns : List Connection) → LeadsOn (places.Into i) (in_passing d appliances i m (record { by = by; conns = conns })).next
  in_passing-leads appliances i m None conns = tt
  in_passing-leads appliances i m (Some by) conns = taken_by-leads i m.header (boxes_at appliances i)

  step_into-leads : (appliances : Appliances) (label : Label) (i : EniNo) (m : Moment) → LeadsOn (places.Into i) (step_into d appliances label i m).next
  step_into-leads appliances label i m =
      let e = interface_at d i in
      let passing = passing_of d label i Inward m.header m.conns in
      cond_both e.idle _ _ (λ (s : Step). LeadsOn (places.Into i) s.next) (λ _. tt)
      (λ _. cond_both (e.checked && not (has_address e m.header.dst)) _ _ (λ (s : Step). LeadsOn (places.Into i) s.next) (λ _. tt) (λ _. in_passing-leads appliances i m passing.by passing.conns))

  -- ---- routers

  module _ (s : SubnetNo) (came : Came) (h : Header) where
    abbrev here : Place
    here = places.Router s came

    abbrev Onward : Next → Type 0
    Onward x = LeadsOn here x

    to_host-leads : (i : Option EniNo) → Onward (to_host d s h i)
    to_host-leads None = tt
    to_host-leads (Some i) = unless-leads here (crossing d s (subnet_of d i) h) (deliver d i h) (deliver-leads here i h (nat_of d i) (λ n. refl) (λ i. refl))

    to_internet-leads : (g : IgwNo) → Onward (to_internet d s h g)
    to_internet-leads g =
        let v = vpc_of_subnet d s in
        either (is_attached g (gateway_of d v)) here (unless_stopped (leaving d s h) (go (places.IgwOut v) h)) _ (unless-leads here (leaving d s h) (go (places.IgwOut v) h) (refl, refl)) tt

    to_nat-leads : (n : NatNo) (life : NatLife) → Onward (to_nat d s h n life)
    to_nat-leads n lives.Gone = tt
    to_nat-leads n lives.Unmodelled = tt
    to_nat-leads n (lives.Live subnet eni address) = unless-leads here (crossing d s (subnet_no d subnet) h) (go (places.NatOut n) h) (refl, refl)

    to_far-leads : followed ≡ true → (k : FarNo) → Onward (to_far d s h k)
    to_far-leads there k = unless-leads here (leaving d s h) (go (places.FarOut k) h) (refl, ap not there)

    to_half_peering-leads : followed ≡ true → (x : PeerNo) (k : Option FarNo) → Onward (to_half_peering d s h x k)
    to_half_peering-leads there x None = tt
    to_half_peering-leads there x (Some k) = to_far-leads there k

    to_peer-leads : (x : PeerNo) (pair : Option (List ℕ × List ℕ)) → Onward (to_peer d s h x pair)
    to_peer-leads x None = tt
    to_peer-leads x (Some pair) =
        let v = vpc_of_subnet d s in
        let row = vpc_at d v in
        let peering = peering_at d x in
        let half = to_half_peering d s h x (far_end_of_id d peering.id) in
        either (has_vpc d (other_side row.id pair)) here (unless_stopped (leaving d s h) (go (places.Peer x v) h)) half
        (unless-leads here (leaving d s h) (go (places.Peer x v) h) (refl, refl))
        (where_followed here half _ (λ there. to_half_peering-leads there x (far_end_of_id d peering.id)) (λ without. without.peerings s h x))

    to_zone-leads : (a : AttNo) (t : Option SubnetNo) → Onward (to_zone d s h a t)
    to_zone-leads a None = tt
    to_zone-leads a (Some t) = unless-leads here (or_else (leaving d s h) (entering d t h)) (go (places.Tgw a t) h) (refl, refl)

    to_transit-leads : (t : TableNo) (k : ℕ) (a : Option AttNo) → Onward (to_transit d s h t k a)
    to_transit-leads t k None = tt
    to_transit-leads t k (Some a) = to_zone-leads a (zone_subnet d a s)

    to_interface-leads : (j : EniNo) → Onward (to_interface d s h j)
    to_interface-leads j =
        let e = interface_at d j in
        unless-leads here (crossing d s (subnet_of d j) h) _ (either (is_gateway e.kind) here (stop (stops.NotAHost j)) (go (places.Into j) h) tt (refl, refl))

    to_network_by-leads : followed ≡ true → (t : TableNo) (k : ℕ) (far : FarNo) (kind : FarKind) → Onward (to_network_by d s h t k far kind)
    to_network_by-leads there t k far (kinds.PrivateGateway vpc) = either (is_beside (vpc_of_subnet d s) (vpc_beside d (far_at d far))) here (to_far d s h far) _ (to_far-leads there far) tt
    to_network_by-leads there t k far (kinds.Endpoint vpc) = either (is_beside (vpc_of_subnet d s) (vpc_beside d (far_at d far))) here (to_far d s h far) _ (to_far-leads there far) tt
    to_network_by-leads there t k far (kinds.Attachment vpc) = tt
    to_network_by-leads there t k far (kinds.Peering requester accepter) = tt

    to_firewall-leads : followed ≡ true → (t : TableNo) (k : ℕ) (e : Option FirewallNo) → Onward (to_firewall d s h t k e)
    to_firewall-leads there t k None = tt
    to_firewall-leads there t k (Some e) = unless-leads here (crossing d s (firewall_subnet d e) h) (go (places.Inspect e) h) (refl, ap not there)

    to_other-leads : followed ≡ true → (t : TableNo) (k : ℕ) (id : List ℕ) (far : Option FarNo) → Onward (to_other d s h t k id far)
    to_other-leads there t k id None = to_firewall-leads there t k (firewall_of d (vpc_of_subnet d s) id)
    to_other-leads there t k id (Some far) = let row = far_at d far in to_network_by-leads there t k far row.kind

    to_target-leads : (t : TableNo) (k : ℕ) (target : Target) → Onward (to_target d s h t k target)
    to_target-leads t k targets.Local = to_host-leads (host_of d (vpc_of_subnet d s) h.dst)
    to_target-leads t k (targets.Internet id) = to_internet-leads (igw_no d id)
    to_target-leads t k (targets.Nat id) = let row = nat_at d (nat_no d id) in to_nat-leads (nat_no d id) row.life
    to_target-leads t k (targets.Peer id) = let row = peering_at d (peer_no d id) in to_peer-leads (peer_no d id) row.pair
    to_target-leads t k (targets.Transit id) = to_transit-leads t k (attachment_for d id s)
    to_target-leads t k (targets.Interface id) = to_interface-leads (eni_no d id)
    to_target-leads t k (targets.Other id) =
        where_followed here (to_target d s h t k (targets.Other id)) _ (λ there. to_other-leads there t k id (far_of_id d id)) (λ without. without.routes s h t k id)

    by_route-leads : (t : TableNo) (k : Option ℕ) → Onward (by_route d s h t k)
    by_route-leads t None = tt
    by_route-leads t (Some k) =
        let table = table_at d t in
        let r = slice_index_or table.routes k no_route in
        either r.blackhole here _ (to_target d s h t k r.target) tt (to_target-leads t k r.target)

  -- ---- into VPCs

  module _ (v : VpcNo) (by : EnterBy) (h : Header) where
    abbrev door : Place
    door = places.Enter v by

    enter_host-leads : (i : Option EniNo) → LeadsOn door (enter_host d v h i)
    enter_host-leads None = tt
    enter_host-leads (Some i) = unless-leads door (entering d (subnet_of d i) h) (deliver d i h) (deliver-leads door i h (nat_of d i) (λ n. refl) (λ i. refl))

    enter_interface-leads : (j : EniNo) → LeadsOn door (enter_interface d h j)
    enter_interface-leads j =
        let e = interface_at d j in
        unless-leads door (entering d (subnet_of d j) h) _ (either (is_gateway e.kind) door (stop (stops.NotAHost j)) (go (places.Into j) h) tt (refl, refl))

    enter_firewall-leads : followed ≡ true → (t : TableNo) (k : ℕ) (e : Option FirewallNo) → LeadsOn door (enter_firewall d h t k e)
    enter_firewall-leads there t k None = tt
    enter_firewall-leads there t k (Some e) = unless-leads door (entering d (firewall_subnet d e) h) (go (places.Inspect e) h) (refl, ap not there)

    enter_target-leads : followed ≡ true → (t : TableNo) (k : ℕ) (target : Target) → LeadsOn door (enter_target d v h t k target)
    enter_target-leads there t k targets.Local = enter_host-leads (host_of d v h.dst)
    enter_target-leads there t k (targets.Interface id) = enter_interface-leads (eni_no d id)
    enter_target-leads there t k (targets.Other id) = enter_firewall-leads there t k (firewall_of d v id)
    enter_target-leads there t k (targets.Internet id) = tt
    enter_target-leads there t k (targets.Nat id) = tt
    enter_target-leads there t k (targets.Transit id) = tt
    enter_target-leads there t k (targets.Peer id) = tt

    enter_by_route-leads : followed ≡ true → (t : TableNo) (k : Option ℕ) → LeadsOn door (enter_by_route d v h t k)
    enter_by_route-leads there t None = tt
    enter_by_route-leads there t (Some k) =
        let table = table_at d t in
        let r = slice_index_or table.routes k no_route in
        either r.blackhole door _ (enter_target d v h t k r.target) tt (enter_target-leads there t k r.target)

    enter_by_table-leads : followed ≡ true → (t : Option TableNo) → LeadsOn door (enter_by_table d v h t)
    enter_by_table-leads there None = enter_host-leads (host_of d v h.dst)
    enter_by_table-leads there (Some t) = let table = table_at d t in enter_by_route-leads there t (chosen_route d table.routes h.dst)

    enter-leads : LeadsOn door (enter_by_table d v h (entrance_table d v by))
    enter-leads =
        elim known [
          | inl there ↦ enter_by_table-leads there (entrance_table d v by)
          | inr without ↦ subst (λ (t : Option TableNo). LeadsOn door (enter_by_table d v h t)) (sym (without.entrances v by)) (enter_host-leads (host_of d v h.dst))
        ]

  -- ---- internet gateways, NAT gateways and peerings

  go_public-leads : (v : VpcNo) (h : Header) (a : Option ℕ) → LeadsOn (places.IgwOut v) (go_public d v h a)
  go_public-leads v h None = tt
  go_public-leads v h (Some a) = unless-leads (places.IgwOut v) (blocked_at d v h.src) (go places.Internet (record h { src = a })) (refl, refl)

  go_private-leads : (v : VpcNo) (h : Header) (a : Option ℕ) → LeadsOn (places.IgwIn v) (go_private d v h a)
  go_private-leads v h None = (refl, refl)
  go_private-leads v h (Some a) = unless-leads (places.IgwIn v) (blocked_at d v a) (go (places.Enter v through.Gateway) (record h { dst = a })) (refl, refl)

  to_owner-leads : (h : Header) (v : Option VpcNo) → LeadsOn places.Internet (to_owner d h v)
  to_owner-leads h None = tt
  to_owner-leads h (Some v) = either (is_none (gateway_of d v)) places.Internet _ (go (places.IgwIn v) h) tt (refl, refl)

  translate-leads : (n : NatNo) (m : Moment) (t : Option Translation) → LeadsOn (places.NatOut n) (translate d n m t).next
  translate-leads n m None = cond_both (is_full m.nats n m.header) _ _ (λ (s : Step). LeadsOn (places.NatOut n) s.next) (λ _. tt) (λ _. (refl, refl))
  translate-leads n m (Some t) = (refl, refl)

  step_nat_out-leads : (label : Label) (n : NatNo) (m : Moment) → LeadsOn (places.NatOut n) (step_nat_out d label n m).next
  step_nat_out-leads Answer n m = tt
  step_nat_out-leads Opening n m =
      cond_both (is_translatable m.header.proto) (translate d n m (translation_of m.nats n m.header)) _ (λ (s : Step). LeadsOn (places.NatOut n) s.next) (λ _. translate-leads n m (translation_of m.nats n m.header)) (λ _. tt)

  from_inward-leads : (n : NatNo) (h : Option Header) → LeadsOn (places.NatIn n) (from_inward d n h)
  from_inward-leads n None = tt
  from_inward-leads n (Some h) = (refl, refl)

  step_nat_in-leads : (label : Label) (n : NatNo) (m : Moment) → LeadsOn (places.NatIn n) (step_nat_in d label n m).next
  step_nat_in-leads Opening n m = tt
  step_nat_in-leads Answer n m = from_inward-leads n (inward m.nats n m.header)

  over_peering-leads : (x : PeerNo) (v w : VpcNo) (h : Header) → LeadsOn (places.Peer x v) (over_peering d x v w h)
  over_peering-leads x v w h =
      either (not (has_block d v h.src)) (places.Peer x v) _ _ tt (either (not (has_block d w h.dst)) (places.Peer x v) _ (go (places.Enter w (through.Peering x)) h) tt (refl, refl))

  by_pair-leads : (x : PeerNo) (v : VpcNo) (h : Header) (pair : Option (List ℕ × List ℕ)) → LeadsOn (places.Peer x v) (by_pair d x v h pair)
  by_pair-leads x v h None = tt
  by_pair-leads x v h (Some pair) = let row = vpc_at d v in over_peering-leads x v (vpc_no d (other_side row.id pair)) h

  -- ---- transit gateways

  -- where a transit gateway sends packets, from an attachment or from a network
  module _ (p : Place) (h : Header) (leaves : (a : AttNo) (s : SubnetNo) → may_follow p (places.TgwLeave a s) ≡ true) (out : (k : FarNo) → may_follow p (places.FarOut k) ≡ true) where
    to_first-leads : (a : AttNo) (s : Option SubnetNo) → LeadsOn p (to_first h a s)
    to_first-leads a None = tt
    to_first-leads a (Some s) = (leaves a s, refl)

    to_leave-leads : (a : AttNo) (entered : Option SubnetNo) → LeadsOn p (to_leave d h a entered)
    to_leave-leads a None = let row = attachment_at d a in to_first-leads a (first_described d row.subnets)
    to_leave-leads a (Some s) = (leaves a s, refl)

    to_attachment-leads : (entered : Option SubnetNo) (t : TgwTableNo) (k : ℕ) (a : Option AttNo) → LeadsOn p (to_attachment d entered h t k a)
    to_attachment-leads entered t k None = tt
    to_attachment-leads entered t k (Some a) = to_leave-leads a entered

    to_attached-leads : followed ≡ true → (entered : Option SubnetNo) (t : TgwTableNo) (k : ℕ) (id : List ℕ) (far : Option FarNo) → LeadsOn p (to_attached d entered h t k id far)
    to_attached-leads there entered t k id None = to_attachment-leads entered t k (attachment_of_id d id)
    to_attached-leads there entered t k id (Some far) = (out far, ap not there)

    by_attachment-leads : (entered : Option SubnetNo) (t : TgwTableNo) (k : ℕ) (id : Option (List ℕ)) → LeadsOn p (by_attachment d entered h t k id)
    by_attachment-leads entered t k None = tt
    by_attachment-leads entered t k (Some id) =
        elim known [
          | inl there ↦ to_attached-leads there entered t k id (far_end_of_id d id)
          | inr none ↦ subst (LeadsOn p) (sym (none.attachments entered h t k id)) (to_attachment-leads entered t k (attachment_of_id d id))
        ]

    by_tgw_route-leads : (entered : Option SubnetNo) (t : TgwTableNo) (k : Option ℕ) → LeadsOn p (by_tgw_route d entered h t k)
    by_tgw_route-leads entered t None = tt
    by_tgw_route-leads entered t (Some k) =
        let table = tgw_table_at d t in
        let r = slice_index_or table.routes k no_tgw_route in
        either r.blackhole p _ (by_attachment d entered h t k r.attachment) tt (by_attachment-leads entered t k r.attachment)

  by_tgw_table-leads : (a : AttNo) (s : SubnetNo) (h : Header) (t : Option TgwTableNo) → LeadsOn (places.Tgw a s) (by_tgw_table d a s h t)
  by_tgw_table-leads a s h None = tt
  by_tgw_table-leads a s h (Some t) = let table = tgw_table_at d t in by_tgw_route-leads (places.Tgw a s) h (λ a s. refl) (λ k. refl) (Some s) t (chosen_tgw_route table.routes h.dst)

  leave_by-leads : (a : AttNo) (entered : SubnetNo) (h : Header) (s : Option SubnetNo) → LeadsOn (places.TgwLeave a entered) (leave_by a h s)
  leave_by-leads a entered h None = tt
  leave_by-leads a entered h (Some s) = (refl, refl)

  -- ---- networks that aren't described, and firewall endpoints

  over_half_peering-leads : (k : FarNo) (x : PeerNo) (h : Header) (beyond : List Block) (v : Option VpcNo) → LeadsOn (places.FarOut k) (over_half_peering d k x h beyond v)
  over_half_peering-leads k x h beyond None = tt
  over_half_peering-leads k x h beyond (Some v) =
      either (not (has_block d v h.src)) (places.FarOut k) _ _ tt (either (not (is_within beyond h.dst)) (places.FarOut k) _ (arrive (ends.Far k)) tt tt)

  to_service-leads : (k : FarNo) (h : Header) (v : Option VpcNo) → LeadsOn (places.FarOut k) (to_service d k h v)
  to_service-leads k h None = tt
  to_service-leads k h (Some v) = either (has_block d v h.src) (places.FarOut k) (arrive (ends.Far k)) _ tt tt

  out_by-leads : (k : FarNo) (f : Far) (h : Header) (kind : FarKind) → LeadsOn (places.FarOut k) (out_by d k f h kind)
  out_by-leads k f h (kinds.PrivateGateway vpc) = tt
  out_by-leads k f h (kinds.Attachment vpc) = tt
  out_by-leads k f h (kinds.Peering requester accepter) = over_half_peering-leads k (peering_to d f) h (blocks_beyond d f) (vpc_beside d f)
  out_by-leads k f h (kinds.Endpoint vpc) = to_service-leads k h (vpc_beside d f)

  in_by_gateway-leads : (k : FarNo) (h : Header) (v : Option VpcNo) → LeadsOn (places.FarIn k) (in_by_gateway k h v)
  in_by_gateway-leads k h None = tt
  in_by_gateway-leads k h (Some v) = (refl, refl)

  in_by_peering-leads : (k : FarNo) (x : PeerNo) (h : Header) (beyond : List Block) (v : Option VpcNo) → LeadsOn (places.FarIn k) (in_by_peering d x h beyond v)
  in_by_peering-leads k x h beyond None = tt
  in_by_peering-leads k x h beyond (Some v) =
      either (not (is_within beyond h.src)) (places.FarIn k) _ _ tt (either (not (has_block d v h.dst)) (places.FarIn k) _ (go (places.Enter v (through.Peering x)) h) tt (refl, refl))

  in_by_attachment-leads : (k : FarNo) (h : Header) (t : Option TgwTableNo) → LeadsOn (places.FarIn k) (in_by_attachment d k h t)
  in_by_attachment-leads k h None = tt
  in_by_attachment-leads k h (Some t) = let table = tgw_table_at d t in by_tgw_route-leads (places.FarIn k) h (λ a s. refl) (λ k. refl) None t (chosen_tgw_route table.routes h.dst)

  in_by_endpoint-leads : (label : Label) (k : FarNo) (h : Header) (v : Option VpcNo) → LeadsOn (places.FarIn k) (in_by_endpoint label k h v)
  in_by_endpoint-leads Opening k h v = tt
  in_by_endpoint-leads Answer k h v = in_by_gateway-leads k h v

  in_by-leads : (label : Label) (k : FarNo) (f : Far) (h : Header) (kind : FarKind) → LeadsOn (places.FarIn k) (in_by d label k f h kind)
  in_by-leads label k f h (kinds.PrivateGateway vpc) = in_by_gateway-leads k h (vpc_beside d f)
  in_by-leads label k f h (kinds.Attachment vpc) = in_by_attachment-leads k h (table_of_attachment_id d f.id)
  in_by-leads label k f h (kinds.Peering requester accepter) = in_by_peering-leads k (peering_to d f) h (blocks_beyond d f) (vpc_beside d f)
  in_by-leads label k f h (kinds.Endpoint vpc) = in_by_endpoint-leads label k h (vpc_beside d f)

  step_inspect-leads : (e : FirewallNo) (m : Moment) → LeadsOn (places.Inspect e) (step_inspect d e m).next
  step_inspect-leads e m = either (passes (boxes_behind d e) m.header) (places.Inspect e) _ _ (refl, refl) tt

  -- ---- all places

  pub step_at-leads : (appliances : Appliances) (label : Label) (p : Place) (m : Moment) → Leads followed p (step_at d appliances label p m).next
  step_at-leads appliances label (places.OutOf i) m = step_out-leads label i m
  step_at-leads appliances label (places.Router s came) m =
      let t = table_of d s in
      let table = table_at d t in
      by_route-leads s came m.header t (chosen_route d table.routes m.header.dst)
  step_at-leads appliances label (places.Enter v by) m = enter-leads v by m.header
  step_at-leads appliances label (places.Into i) m = step_into-leads appliances label i m
  step_at-leads appliances label (places.IgwOut v) m = go_public-leads v m.header (public_of d v m.header.src)
  step_at-leads appliances label places.Internet m =
      cond_both (is_unroutable m.header.src || is_unroutable m.header.dst) _ _ (λ (s : Step). LeadsOn places.Internet s.next) (λ _. tt) (λ _. to_owner-leads m.header (owner_of d m.header.dst))
  step_at-leads appliances label (places.IgwIn v) m = go_private-leads v m.header (private_of d v m.header.dst)
  step_at-leads appliances label (places.NatOut n) m = step_nat_out-leads label n m
  step_at-leads appliances label (places.NatIn n) m = step_nat_in-leads label n m
  step_at-leads appliances label (places.Peer x v) m = let row = peering_at d x in by_pair-leads x v m.header row.pair
  step_at-leads appliances label (places.Tgw a s) m = by_tgw_table-leads a s m.header (table_of_attachment d a)
  step_at-leads appliances label (places.TgwLeave a s) m = leave_by-leads a s m.header (leave_subnet d a s)
  step_at-leads appliances label (places.FarOut k) m = let f = far_at d k in out_by-leads k f m.header f.kind
  step_at-leads appliances label (places.FarIn k) m = let f = far_at d k in in_by-leads label k f m.header f.kind
  step_at-leads appliances label (places.Inspect e) m = step_inspect-leads e m

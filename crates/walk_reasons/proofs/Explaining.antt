-- What decides at a place explains the step there.
use Rattle.std.proofs.Common.{◌≡◌, ◌⊎◌, ◌&&◌, ◌||◌, ◌==◌, ◌∷◌, [], Bool, List, None, Option, Some, ap, cond, false, inl, inr, is_none, is_some, not, option_and_then, refl, slice_index_or, subst, sym, true, ℕ}
use Rattle.std.proofs.lemmas.Bool.{cond_both}
use Rattle.vpc_base.specs.declared.headers.Dir.TheVariants.{Inward, Outward}
use Rattle.vpc_base.specs.declared.headers.Label.TheVariants.{Answer, Opening}
use Rattle.vpc_model.specs.declared.outcomes.By.TheVariants as bys
use Rattle.vpc_model.specs.declared.places.Place.TheVariants.{OutOf, Router, Enter, Into, IgwOut, Internet, IgwIn, NatOut, NatIn, Peer, Tgw, TgwLeave, FarOut, FarIn, Inspect}
use Rattle.vpc_model.specs.declared.places.EnterBy.TheVariants as through
use Rattle.vpc_model.specs.declared.rows.FarKind.TheVariants as fars
use Rattle.vpc_model.specs.declared.rows.NatLife.TheVariants as lives
use Rattle.vpc_model.specs.declared.rows.Target.TheVariants as targets
use Rattle.vpc_model.specs.declared.stops.Foreign.TheVariants as foreign
use Rattle.vpc_model.specs.declared.stops.Stop.TheVariants as stops
use Rattle.vpc_model.specs.declared.places.End.TheVariants.{Interface}
use Rattle.vpc_laws.proofs.Flow.{taken_by}
use Rattle.vpc_laws.specs.Types.{AttNo, Block, Box5, By, Description, EniNo, Far, FarKind, FarNo, FirewallNo, Header, IgwNo, Label, NatLife, NatNo, PeerNo, Place, Stop, SubnetNo, TableNo, Target, TgwTableNo, VpcNo}
use Rattle.vpc_laws.specs.Walk.{hop_of}
use Rattle.vpc_model.specs.Terms.{Appliances, Connection, Moment, Next, Step, Translation, acl_of, arrive, attachment_for, attachment_of_id, blocked, boxes_at, by_pair, chosen_route, chosen_tgw_route, crossing, deliver, deliver_by, eni_no, entering, forwarded, from_inward, gateway_of, go, go_private, go_public, has_address, has_block, has_vpc, host_of, igw_no, in_passing, interface_at, inward, is_attached, is_blocked, is_full, is_gateway, is_translatable, is_unroutable, leave_by, leave_subnet, leaving, nat_at, nat_no, nat_of, no_route, no_tgw_route, or_else, other_side, out_passing, over_peering, owner_of, passes, passing_of, peer_no, peering_at, private_of, public_of, step_at, step_internet, step_into, step_nat_in, step_nat_out, step_of, step_out, stop, subnet_no, subnet_of, table_at, table_of, table_of_attachment, tgw_table_at, to_owner, translate, translation_of, unless_stopped, vpc_at, vpc_no, vpc_of_subnet, zone_subnet}
use Rattle.vpc_model.specs.Far.{blocks_beyond, far_end_of_id, far_of_id, is_within, peering_to, table_of_attachment_id, vpc_beside}
use Rattle.vpc_model.specs.Firewalls.{boxes_behind, entrance_table, firewall_of}
use Rattle.vpc_model.specs.Lookup.{attachment_at, far_at}
use Rattle.vpc_model.specs.Step.Crossing.{refused_in, refused_out}
use Rattle.vpc_model.specs.Step.Enter as entrances
use Rattle.vpc_model.specs.Step.Far as outside
use Rattle.vpc_model.specs.Step.Inspect.{firewall_subnet, step_inspect}
use Rattle.vpc_model.specs.Step.Router as model
use Rattle.vpc_model.specs.Step.Transit as transits
use Rattle.vpc_model.specs.Transit.{first_described}
use Rattle.walk_reasons.specs.Borders as borders
use Rattle.walk_reasons.specs.Decisions.{Decision, acl, at_table, by_entrance, by_group, by_route, by_tgw_route, by_tgw_table, decided, decided_at, from_outside, judged, verdict_at}
use Rattle.walk_reasons.specs.Laws.{Explain, decided_stop, stopped_by}
use Rattle.walk_reasons.specs.declared.borders.Borders.{Borders}

-- what comes next isn't a stop that a decision makes
abbrev Quiet : Next → Type 0
Quiet x = stopped_by x ≡ None

-- ---- interfaces

by_group-lets : (d : Description) (by : By) → Explain d None (by_group by)
by_group-lets d bys.Nothing = refl
by_group-lets d bys.NoGroups = refl
by_group-lets d bys.Tracked = refl
by_group-lets d (bys.Rule r) = inl (refl, refl)

groups-explain : (d : Description) (s : Step) → Quiet s.next → Explain d (stopped_by s.next) (by_group s.by)
groups-explain d s quiet = subst (λ (o : Option Stop). Explain d o (by_group s.by)) (sym quiet) (by_group-lets d s.by)

out_passing-quiet : (d : Description) (i : EniNo) (m : Moment) (by : Option By) (conns : List Connection) → Quiet (out_passing d i m (record { by = by; conns = conns })).next
out_passing-quiet d i m None conns = refl
out_passing-quiet d i m (Some by) conns = refl

step_out-quiet : (d : Description) (label : Label) (i : EniNo) (m : Moment) → Quiet (step_out d label i m).next
step_out-quiet d label i m =
    let e = interface_at d i in
    let passing = passing_of d label i Outward m.header m.conns in
    cond_both e.idle _ _ (λ (s : Step). Quiet s.next) (λ _. refl)
    (λ _. cond_both (e.checked && not (has_address e m.header.src)) _ _ (λ (s : Step). Quiet s.next) (λ _. refl) (λ _. out_passing-quiet d i m passing.by passing.conns))

taken_by-quiet : (d : Description) (i : EniNo) (h : Header) (boxes : Option (List Box5)) → Quiet (taken_by d i h boxes)
taken_by-quiet d i h None = refl
taken_by-quiet d i h (Some boxes) =
    cond_both (has_address (interface_at d i) h.dst) (arrive (Interface i)) (forwarded i h boxes) Quiet (λ _. refl)
    (λ _. cond_both (passes boxes h) (go (OutOf i) h) (stop (stops.ApplianceDrop i)) Quiet (λ _. refl) (λ _. refl))

in_passing-quiet : (d : Description) (appliances : Appliances) (i : EniNo) (m : Moment) (by : Option By) (conns : List Connection)
    → Quiet (in_passing d appliances i m (record { by = by; conns = conns })).next
in_passing-quiet d appliances i m None conns = refl
in_passing-quiet d appliances i m (Some by) conns = taken_by-quiet d i m.header (boxes_at appliances i)

step_into-quiet : (d : Description) (appliances : Appliances) (label : Label) (i : EniNo) (m : Moment) → Quiet (step_into d appliances label i m).next
step_into-quiet d appliances label i m =
    let e = interface_at d i in
    let passing = passing_of d label i Inward m.header m.conns in
    cond_both e.idle _ _ (λ (s : Step). Quiet s.next) (λ _. refl)
    (λ _. cond_both (e.checked && not (has_address e m.header.dst)) _ _ (λ (s : Step). Quiet s.next) (λ _. refl)
    (λ _. in_passing-quiet d appliances i m passing.by passing.conns))

-- ---- gateways

translate-quiet : (d : Description) (n : NatNo) (m : Moment) (t : Option Translation) → Quiet (translate d n m t).next
translate-quiet d n m (Some t) = refl
translate-quiet d n m None = cond_both (is_full m.nats n m.header) _ _ (λ (s : Step). Quiet s.next) (λ _. refl) (λ _. refl)

step_nat_out-quiet : (d : Description) (label : Label) (n : NatNo) (m : Moment) → Quiet (step_nat_out d label n m).next
step_nat_out-quiet d Answer n m = refl
step_nat_out-quiet d Opening n m =
    cond_both (is_translatable m.header.proto) (translate d n m (translation_of m.nats n m.header)) _ (λ (s : Step). Quiet s.next)
    (λ _. translate-quiet d n m (translation_of m.nats n m.header)) (λ _. refl)

from_inward-quiet : (d : Description) (n : NatNo) (h : Option Header) → Quiet (from_inward d n h)
from_inward-quiet d n None = refl
from_inward-quiet d n (Some h) = refl

step_nat_in-quiet : (d : Description) (label : Label) (n : NatNo) (m : Moment) → Quiet (step_nat_in d label n m).next
step_nat_in-quiet d Opening n m = refl
step_nat_in-quiet d Answer n m = from_inward-quiet d n (inward m.nats n m.header)

unless_blocked-quiet : (d : Description) (i : Option EniNo) (p : Place) (h : Header) → Quiet (unless_stopped (option_and_then (blocked d) i) (go p h))
unless_blocked-quiet d None p h = refl
unless_blocked-quiet d (Some i) p h =
    cond_both (is_blocked d i) (Some (stops.BlockPublicAccess (subnet_of d i))) None (λ (s : Option Stop). Quiet (unless_stopped s (go p h))) (λ _. refl) (λ _. refl)

go_public-quiet : (d : Description) (v : VpcNo) (h : Header) (a : Option ℕ) → Quiet (go_public d v h a)
go_public-quiet d v h None = refl
go_public-quiet d v h (Some a) = unless_blocked-quiet d (host_of d v h.src) Internet (record h { src = a })

go_private-quiet : (d : Description) (v : VpcNo) (h : Header) (own : Option ℕ) → Quiet (go_private d v h own)
go_private-quiet d v h None = refl
go_private-quiet d v h (Some own) = unless_blocked-quiet d (host_of d v own) (Enter v through.Gateway) (record h { dst = own })

to_owner-quiet : (d : Description) (h : Header) (v : Option VpcNo) → Quiet (to_owner d h v)
to_owner-quiet d h None = refl
to_owner-quiet d h (Some v) = cond_both (is_none (gateway_of d v)) _ _ Quiet (λ _. refl) (λ _. refl)

step_internet-quiet : (d : Description) (m : Moment) → Quiet (step_internet d m).next
step_internet-quiet d m =
    cond_both (is_unroutable m.header.src || is_unroutable m.header.dst) _ _ (λ (s : Step). Quiet s.next) (λ _. refl) (λ _. to_owner-quiet d m.header (owner_of d m.header.dst))

over_peering-quiet : (d : Description) (x : PeerNo) (v w : VpcNo) (h : Header) → Quiet (over_peering d x v w h)
over_peering-quiet d x v w h =
    cond_both (not (has_block d v h.src)) _ _ Quiet (λ _. refl) (λ _. cond_both (not (has_block d w h.dst)) _ _ Quiet (λ _. refl) (λ _. refl))

by_pair-quiet : (d : Description) (x : PeerNo) (v : VpcNo) (h : Header) (pair : Option (List ℕ × List ℕ)) → Quiet (by_pair d x v h pair)
by_pair-quiet d x v h None = refl
by_pair-quiet d x v h (Some pair) = let row = vpc_at d v in over_peering-quiet d x v (vpc_no d (other_side row.id pair)) h

leave_by-quiet : (a : AttNo) (h : Header) (s : Option SubnetNo) → Quiet (leave_by a h s)
leave_by-quiet a h None = refl
leave_by-quiet a h (Some s) = refl

-- ---- transit gateways

to_first-quiet : (h : Header) (a : AttNo) (s : Option SubnetNo) → Quiet (transits.to_first h a s)
to_first-quiet h a None = refl
to_first-quiet h a (Some s) = refl

to_leave-quiet : (d : Description) (h : Header) (a : AttNo) (entered : Option SubnetNo) → Quiet (transits.to_leave d h a entered)
to_leave-quiet d h a None = let row = attachment_at d a in to_first-quiet h a (first_described d row.subnets)
to_leave-quiet d h a (Some s) = refl

to_attachment-quiet : (d : Description) (entered : Option SubnetNo) (h : Header) (t : TgwTableNo) (k : ℕ) (a : Option AttNo)
    → Quiet (transits.to_attachment d entered h t k a)
to_attachment-quiet d entered h t k None = refl
to_attachment-quiet d entered h t k (Some a) = to_leave-quiet d h a entered

to_attached-quiet : (d : Description) (entered : Option SubnetNo) (h : Header) (t : TgwTableNo) (k : ℕ) (id : List ℕ) (far : Option FarNo)
    → Quiet (transits.to_attached d entered h t k id far)
to_attached-quiet d entered h t k id None = to_attachment-quiet d entered h t k (attachment_of_id d id)
to_attached-quiet d entered h t k id (Some far) = refl

by_attachment-quiet : (d : Description) (entered : Option SubnetNo) (h : Header) (t : TgwTableNo) (k : ℕ) (id : Option (List ℕ))
    → Quiet (transits.by_attachment d entered h t k id)
by_attachment-quiet d entered h t k None = refl
by_attachment-quiet d entered h t k (Some id) = to_attached-quiet d entered h t k id (far_end_of_id d id)

-- ---- networks that aren't described, and firewalls

over_half_peering-quiet : (d : Description) (k : FarNo) (x : PeerNo) (h : Header) (beyond : List Block) (v : Option VpcNo)
    → Quiet (outside.over_half_peering d k x h beyond v)
over_half_peering-quiet d k x h beyond None = refl
over_half_peering-quiet d k x h beyond (Some v) =
    cond_both (not (has_block d v h.src)) _ _ Quiet (λ _. refl) (λ _. cond_both (not (is_within beyond h.dst)) _ _ Quiet (λ _. refl) (λ _. refl))

to_service-quiet : (d : Description) (k : FarNo) (h : Header) (v : Option VpcNo) → Quiet (outside.to_service d k h v)
to_service-quiet d k h None = refl
to_service-quiet d k h (Some v) = cond_both (has_block d v h.src) _ _ Quiet (λ _. refl) (λ _. refl)

out_by-quiet : (d : Description) (k : FarNo) (f : Far) (h : Header) (kind : FarKind) → Quiet (outside.out_by d k f h kind)
out_by-quiet d k f h (fars.PrivateGateway vpc) = refl
out_by-quiet d k f h (fars.Attachment vpc) = refl
out_by-quiet d k f h (fars.Peering requester accepter) = over_half_peering-quiet d k (peering_to d f) h (blocks_beyond d f) (vpc_beside d f)
out_by-quiet d k f h (fars.Endpoint vpc) = to_service-quiet d k h (vpc_beside d f)

in_by_gateway-quiet : (k : FarNo) (h : Header) (v : Option VpcNo) → Quiet (outside.in_by_gateway k h v)
in_by_gateway-quiet k h None = refl
in_by_gateway-quiet k h (Some v) = refl

in_by_peering-quiet : (d : Description) (x : PeerNo) (h : Header) (beyond : List Block) (v : Option VpcNo) → Quiet (outside.in_by_peering d x h beyond v)
in_by_peering-quiet d x h beyond None = refl
in_by_peering-quiet d x h beyond (Some v) =
    cond_both (not (is_within beyond h.src)) _ _ Quiet (λ _. refl) (λ _. cond_both (not (has_block d v h.dst)) _ _ Quiet (λ _. refl) (λ _. refl))

in_by_endpoint-quiet : (label : Label) (k : FarNo) (h : Header) (v : Option VpcNo) → Quiet (outside.in_by_endpoint label k h v)
in_by_endpoint-quiet Opening k h v = refl
in_by_endpoint-quiet Answer k h v = in_by_gateway-quiet k h v

inspect-quiet : (d : Description) (e : FirewallNo) (m : Moment) → Quiet (step_inspect d e m).next
inspect-quiet d e m = cond_both (passes (boxes_behind d e) m.header) _ _ Quiet (λ _. refl) (λ _. refl)

-- ---- routes

-- a route is the last decision and stops the packet where its target is gone; else what follows explains the rest
route-explains : (d : Description) (b : Bool) (s : Stop) (next : Next) (rest : Bool → List Decision) → rest true ≡ [] → decided_stop s ≡ Some s → Explain d (stopped_by next) (rest false)
    → ((cond b (Some s) None ≡ None) × Explain d (stopped_by (cond b (stop s) next)) (rest b))
    ⊎ ((is_some (stopped_by (cond b (stop s) next)) ≡ true) × ((cond b (Some s) None ≡ stopped_by (cond b (stop s) next)) × (rest b ≡ [])))
route-explains d true s next rest none tells explains = inr (ap is_some tells, (sym tells, none))
route-explains d false s next rest none tells explains = inl (refl, explains)

by_tgw_route-explains : (d : Description) (entered : Option SubnetNo) (h : Header) (t : TgwTableNo) (k : Option ℕ)
    → Explain d (stopped_by (transits.by_tgw_route d entered h t k)) (by_tgw_route t k)
by_tgw_route-explains d entered h t None = refl
by_tgw_route-explains d entered h t (Some k) =
    let table = tgw_table_at d t in
    let r = slice_index_or table.routes k no_tgw_route in
    route-explains d r.blackhole (stops.TgwBlackhole t k) (transits.by_attachment d entered h t k r.attachment) (λ b. []) refl refl (by_attachment-quiet d entered h t k r.attachment)

by_tgw_table-explains : (d : Description) (a : AttNo) (entered : SubnetNo) (h : Header) (t : Option TgwTableNo)
    → Explain d (stopped_by (transits.by_tgw_table d a entered h t)) (by_tgw_table d h t)
by_tgw_table-explains d a entered h None = refl
by_tgw_table-explains d a entered h (Some t) = let table = tgw_table_at d t in by_tgw_route-explains d (Some entered) h t (chosen_tgw_route table.routes h.dst)

in_by_attachment-explains : (d : Description) (k : FarNo) (h : Header) (t : Option TgwTableNo)
    → Explain d (stopped_by (outside.in_by_attachment d k h t)) (by_tgw_table d h t)
in_by_attachment-explains d k h None = refl
in_by_attachment-explains d k h (Some t) = let table = tgw_table_at d t in by_tgw_route-explains d None h t (chosen_tgw_route table.routes h.dst)

in_by-explains : (d : Description) (label : Label) (k : FarNo) (f : Far) (h : Header) (kind : FarKind)
    → Explain d (stopped_by (outside.in_by d label k f h kind)) (from_outside d h f kind)
in_by-explains d label k f h (fars.PrivateGateway vpc) = in_by_gateway-quiet k h (vpc_beside d f)
in_by-explains d label k f h (fars.Attachment vpc) = in_by_attachment-explains d k h (table_of_attachment_id d f.id)
in_by-explains d label k f h (fars.Peering requester accepter) = in_by_peering-quiet d (peering_to d f) h (blocks_beyond d f) (vpc_beside d f)
in_by-explains d label k f h (fars.Endpoint vpc) = in_by_endpoint-quiet label k h (vpc_beside d f)

-- ---- ACLs

-- what is judged at borders explains what comes next, if it isn't a stop that a decision makes
module _ (d : Description) (h : Header) (next : Next) (quiet : Quiet next) where
  in-by : (t : SubnetNo) (v : Bool × ℕ) → Explain d (stopped_by (unless_stopped (refused_in d t v) next)) (acl (acl_of d t) Inward v ∷ [])
  in-by t (true, n) = inl (refl, quiet)
  in-by t (false, n) = inr (refl, (refl, refl))

  into-explains : (t : SubnetNo) → Explain d (stopped_by (unless_stopped (entering d t h) next)) (judged d h (borders.into t))
  into-explains t = in-by t (verdict_at d Inward h t)

  out-by : (s : SubnetNo) (v : Bool × ℕ) → Explain d (stopped_by (unless_stopped (refused_out d s v) next)) (acl (acl_of d s) Outward v ∷ cond v.0 [] [])
  out-by s (true, n) = inl (refl, quiet)
  out-by s (false, n) = inr (refl, (refl, refl))

  out_of-explains : (s : SubnetNo) → Explain d (stopped_by (unless_stopped (leaving d s h) next)) (judged d h (borders.out_of s))
  out_of-explains s = out-by s (verdict_at d Outward h s)

  both-by : (s t : SubnetNo) (v w : Bool × ℕ)
      → Explain d (stopped_by (unless_stopped (or_else (refused_out d s v) (refused_in d t w)) next)) (acl (acl_of d s) Outward v ∷ cond v.0 (acl (acl_of d t) Inward w ∷ []) [])
  both-by s t (true, n) w = inl (refl, in-by t w)
  both-by s t (false, n) w = inr (refl, (refl, refl))

  from_into-explains : (s t : SubnetNo) → Explain d (stopped_by (unless_stopped (or_else (leaving d s h) (entering d t h)) next)) (judged d h (borders.from_into s t))
  from_into-explains s t = both-by s t (verdict_at d Outward h s) (verdict_at d Inward h t)

  across-by : (b : Bool) (s t : SubnetNo)
      → Explain d (stopped_by (unless_stopped (cond b None (or_else (leaving d s h) (entering d t h))) next)) (judged d h (cond b borders.no_borders (borders.from_into s t)))
  across-by true s t = quiet
  across-by false s t = from_into-explains s t

  across-explains : (s t : SubnetNo) → Explain d (stopped_by (unless_stopped (crossing d s t h) next)) (judged d h (borders.across s t))
  across-explains s t = across-by (s.0 == t.0) s t

deliver_by-quiet : (d : Description) (i : EniNo) (h : Header) (n : Option NatNo) → Quiet (deliver_by d i h n)
deliver_by-quiet d i h (Some n) = refl
deliver_by-quiet d i h None = let e = interface_at d i in cond_both (is_gateway e.kind) (stop (stops.NotAHost i)) (go (Into i) h) Quiet (λ _. refl) (λ _. refl)

deliver-quiet : (d : Description) (i : EniNo) (h : Header) → Quiet (deliver d i h)
deliver-quiet d i h = deliver_by-quiet d i h (nat_of d i)

-- either way the borders explain what comes next
either-explains : (d : Description) (h : Header) (b : Bool) (x y : Next) (one other : Borders) → Explain d (stopped_by x) (judged d h one) → Explain d (stopped_by y) (judged d h other)
    → Explain d (stopped_by (cond b x y)) (judged d h (cond b one other))
either-explains d h true x y one other first second = first
either-explains d h false x y one other first second = second

-- ---- routers

module _ (d : Description) (s : SubnetNo) (h : Header) where
  to_host-explains : (i : Option EniNo) → Explain d (stopped_by (model.to_host d s h i)) (judged d h (borders.to_host d s i))
  to_host-explains None = refl
  to_host-explains (Some i) = across-explains d h (deliver d i h) (deliver-quiet d i h) s (subnet_of d i)

  to_internet-explains : (g : IgwNo) → Explain d (stopped_by (model.to_internet d s h g)) (judged d h (borders.to_internet d s g))
  to_internet-explains g =
      let v = vpc_of_subnet d s in
      either-explains d h (is_attached g (gateway_of d v)) (unless_stopped (leaving d s h) (go (IgwOut v) h)) (stop (stops.GatewayDetached g)) (borders.out_of s) borders.no_borders
      (out_of-explains d h (go (IgwOut v) h) refl s) refl

  to_nat-explains : (n : NatNo) (life : NatLife) → Explain d (stopped_by (model.to_nat d s h n life)) (judged d h (borders.to_nat d s life))
  to_nat-explains n lives.Gone = refl
  to_nat-explains n lives.Unmodelled = refl
  to_nat-explains n (lives.Live subnet eni address) = across-explains d h (go (NatOut n) h) refl s (subnet_no d subnet)

  to_far-explains : (k : FarNo) → Explain d (stopped_by (model.to_far d s h k)) (judged d h (borders.out_of s))
  to_far-explains k = out_of-explains d h (go (FarOut k) h) refl s

  to_half_peering-explains : (x : PeerNo) (k : Option FarNo) → Explain d (stopped_by (model.to_half_peering d s h x k)) (judged d h (borders.to_outside s k))
  to_half_peering-explains x None = refl
  to_half_peering-explains x (Some k) = to_far-explains k

  to_peer-explains : (x : PeerNo) (pair : Option (List ℕ × List ℕ))
      → Explain d (stopped_by (model.to_peer d s h x pair)) (judged d h (let row = peering_at d x in borders.to_peer d s row.id pair))
  to_peer-explains x None = refl
  to_peer-explains x (Some pair) =
      let v = vpc_of_subnet d s in
      let row = vpc_at d v in
      let peering = peering_at d x in
      let far = far_end_of_id d peering.id in
      either-explains d h (has_vpc d (other_side row.id pair)) (unless_stopped (leaving d s h) (go (Peer x v) h)) (model.to_half_peering d s h x far) (borders.out_of s) (borders.to_outside s far)
      (out_of-explains d h (go (Peer x v) h) refl s) (to_half_peering-explains x far)

  to_zone-explains : (a : AttNo) (t : Option SubnetNo) → Explain d (stopped_by (model.to_zone d s h a t)) (judged d h (borders.to_zone s t))
  to_zone-explains a None = refl
  to_zone-explains a (Some t) = from_into-explains d h (go (Tgw a t) h) refl s t

  to_transit-explains : (t : TableNo) (k : ℕ) (a : Option AttNo) → Explain d (stopped_by (model.to_transit d s h t k a)) (judged d h (borders.to_transit d s a))
  to_transit-explains t k None = refl
  to_transit-explains t k (Some a) = to_zone-explains a (zone_subnet d a s)

  to_interface-explains : (j : EniNo) → Explain d (stopped_by (model.to_interface d s h j)) (judged d h (borders.across s (subnet_of d j)))
  to_interface-explains j =
      let e = interface_at d j in
      across-explains d h (cond (is_gateway e.kind) (stop (stops.NotAHost j)) (go (Into j) h))
      (cond_both (is_gateway e.kind) (stop (stops.NotAHost j)) (go (Into j) h) Quiet (λ _. refl) (λ _. refl)) s (subnet_of d j)

  to_network-explains : (t : TableNo) (k : ℕ) (far : FarNo) (kind : FarKind)
      → Explain d (stopped_by (model.to_network_by d s h t k far kind)) (judged d h (borders.to_network_by d s far kind))
  to_network-explains t k far (fars.PrivateGateway vpc) =
      either-explains d h (model.is_beside (vpc_of_subnet d s) (vpc_beside d (far_at d far))) (model.to_far d s h far) (stop (stops.FarDetached far)) (borders.out_of s) borders.no_borders
      (to_far-explains far) refl
  to_network-explains t k far (fars.Endpoint vpc) =
      either-explains d h (model.is_beside (vpc_of_subnet d s) (vpc_beside d (far_at d far))) (model.to_far d s h far) (stop (stops.Unmodelled (foreign.Target t k))) (borders.out_of s) borders.no_borders
      (to_far-explains far) refl
  to_network-explains t k far (fars.Attachment vpc) = refl
  to_network-explains t k far (fars.Peering requester accepter) = refl

  to_firewall-explains : (t : TableNo) (k : ℕ) (e : Option FirewallNo) → Explain d (stopped_by (model.to_firewall d s h t k e)) (judged d h (borders.to_firewall d s e))
  to_firewall-explains t k None = refl
  to_firewall-explains t k (Some e) = across-explains d h (go (Inspect e) h) refl s (firewall_subnet d e)

  to_other-explains : (t : TableNo) (k : ℕ) (id : List ℕ) (far : Option FarNo) → Explain d (stopped_by (model.to_other d s h t k id far)) (judged d h (borders.to_other d s id far))
  to_other-explains t k id None = to_firewall-explains t k (firewall_of d (vpc_of_subnet d s) id)
  to_other-explains t k id (Some far) = let row = far_at d far in to_network-explains t k far row.kind

  to_target-explains : (t : TableNo) (k : ℕ) (target : Target) → Explain d (stopped_by (model.to_target d s h t k target)) (judged d h (borders.to_target d s h target))
  to_target-explains t k targets.Local = to_host-explains (host_of d (vpc_of_subnet d s) h.dst)
  to_target-explains t k (targets.Internet id) = to_internet-explains (igw_no d id)
  to_target-explains t k (targets.Nat id) = let row = nat_at d (nat_no d id) in to_nat-explains (nat_no d id) row.life
  to_target-explains t k (targets.Peer id) = let row = peering_at d (peer_no d id) in to_peer-explains (peer_no d id) row.pair
  to_target-explains t k (targets.Transit id) = to_transit-explains t k (attachment_for d id s)
  to_target-explains t k (targets.Interface id) = to_interface-explains (eni_no d id)
  to_target-explains t k (targets.Other id) = to_other-explains t k id (far_of_id d id)

  by_route-explains : (t : TableNo) (k : Option ℕ) → Explain d (stopped_by (model.by_route d s h t k)) (by_route d s h t k)
  by_route-explains t None = refl
  by_route-explains t (Some k) =
      let table = table_at d t in
      let r = slice_index_or table.routes k no_route in
      route-explains d r.blackhole (stops.Blackhole t k) (model.to_target d s h t k r.target) (λ b. judged d h (cond b borders.no_borders (borders.to_target d s h r.target))) refl refl
      (to_target-explains t k r.target)

-- ---- into VPCs

module _ (d : Description) (v : VpcNo) (h : Header) where
  enter_host-explains : (i : Option EniNo) → Explain d (stopped_by (entrances.enter_host d v h i)) (judged d h (borders.of_host d i))
  enter_host-explains None = refl
  enter_host-explains (Some i) = into-explains d h (deliver d i h) (deliver-quiet d i h) (subnet_of d i)

  enter_interface-explains : (j : EniNo) → Explain d (stopped_by (entrances.enter_interface d h j)) (judged d h (borders.into (subnet_of d j)))
  enter_interface-explains j =
      let e = interface_at d j in
      into-explains d h (cond (is_gateway e.kind) (stop (stops.NotAHost j)) (go (Into j) h))
      (cond_both (is_gateway e.kind) (stop (stops.NotAHost j)) (go (Into j) h) Quiet (λ _. refl) (λ _. refl)) (subnet_of d j)

  enter_firewall-explains : (t : TableNo) (k : ℕ) (e : Option FirewallNo) → Explain d (stopped_by (entrances.enter_firewall d h t k e)) (judged d h (borders.of_firewall d e))
  enter_firewall-explains t k None = refl
  enter_firewall-explains t k (Some e) = into-explains d h (go (Inspect e) h) refl (firewall_subnet d e)

  enter_target-explains : (t : TableNo) (k : ℕ) (target : Target) → Explain d (stopped_by (entrances.enter_target d v h t k target)) (judged d h (borders.of_target d v h target))
  enter_target-explains t k targets.Local = enter_host-explains (host_of d v h.dst)
  enter_target-explains t k (targets.Interface id) = enter_interface-explains (eni_no d id)
  enter_target-explains t k (targets.Other id) = enter_firewall-explains t k (firewall_of d v id)
  enter_target-explains t k (targets.Internet id) = refl
  enter_target-explains t k (targets.Nat id) = refl
  enter_target-explains t k (targets.Transit id) = refl
  enter_target-explains t k (targets.Peer id) = refl

  enter_by_route-explains : (t : TableNo) (k : Option ℕ) → Explain d (stopped_by (entrances.enter_by_route d v h t k)) (by_entrance d v h t k)
  enter_by_route-explains t None = refl
  enter_by_route-explains t (Some k) =
      let table = table_at d t in
      let r = slice_index_or table.routes k no_route in
      route-explains d r.blackhole (stops.Blackhole t k) (entrances.enter_target d v h t k r.target) (λ b. judged d h (cond b borders.no_borders (borders.of_target d v h r.target))) refl refl
      (enter_target-explains t k r.target)

  enter_by_table-explains : (t : Option TableNo) → Explain d (stopped_by (entrances.enter_by_table d v h t)) (at_table d v h t)
  enter_by_table-explains None = enter_host-explains (host_of d v h.dst)
  enter_by_table-explains (Some t) = let table = table_at d t in enter_by_route-explains t (chosen_route d table.routes h.dst)

-- ---- all places

step_at-explains : (d : Description) (appliances : Appliances) (label : Label) (p : Place) (m : Moment)
    → let s = step_at d appliances label p m in Explain d (stopped_by s.next) (decided_at d m.header s.by p)
step_at-explains d appliances label (OutOf i) m = groups-explain d (step_out d label i m) (step_out-quiet d label i m)
step_at-explains d appliances label (Router s came) m =
    let t = table_of d s in
    let table = table_at d t in
    by_route-explains d s m.header t (chosen_route d table.routes m.header.dst)
step_at-explains d appliances label (Enter v by) m = enter_by_table-explains d v m.header (entrance_table d v by)
step_at-explains d appliances label (Into i) m = groups-explain d (step_into d appliances label i m) (step_into-quiet d appliances label i m)
step_at-explains d appliances label (IgwOut v) m = go_public-quiet d v m.header (public_of d v m.header.src)
step_at-explains d appliances label Internet m = step_internet-quiet d m
step_at-explains d appliances label (IgwIn v) m = go_private-quiet d v m.header (private_of d v m.header.dst)
step_at-explains d appliances label (NatOut n) m = step_nat_out-quiet d label n m
step_at-explains d appliances label (NatIn n) m = step_nat_in-quiet d label n m
step_at-explains d appliances label (Peer x v) m = let row = peering_at d x in by_pair-quiet d x v m.header row.pair
step_at-explains d appliances label (Tgw a s) m = by_tgw_table-explains d a s m.header (table_of_attachment d a)
step_at-explains d appliances label (TgwLeave a s) m = leave_by-quiet a m.header (leave_subnet d a s)
step_at-explains d appliances label (FarOut k) m = let f = far_at d k in out_by-quiet d k f m.header f.kind
step_at-explains d appliances label (FarIn k) m = let f = far_at d k in in_by-explains d label k f m.header f.kind
step_at-explains d appliances label (Inspect e) m = inspect-quiet d e m

pub decisions_explain : (d : Description) (appliances : Appliances) (label : Label) (m : Moment)
    → let s = step_of d appliances label m in Explain d (stopped_by s.next) (decided d (hop_of d appliances label m))
decisions_explain d appliances label m = step_at-explains d appliances label m.place m

-- What a step leads to: the header and the place that come next, and the stops.
use Rattle.std.proofs.Common.{Bool, List, None, Option, Some, [], ap, cond, false, find, is_none, not, option_and_then, refl, slice_index_or, sym, true, ℕ, ◌&&◌, ◌<◌, ◌==◌, ◌^◌, ◌||◌, ◌∙◌, ◌∷◌, ◌≡◌}
use Rattle.std.specs.List.{AllByRecursion}
use Rattle.std.proofs.lemmas.Bool.{cond_both, and_parts, eqb-true, true≢false}
use Rattle.vpc_base.specs.declared.headers.Dir.TheVariants.{Inward, Outward}
use Rattle.vpc_base.specs.declared.headers.Label.TheVariants.{Answer, Opening}
use Rattle.vpc_model.specs.declared.places.Place.TheVariants.{OutOf, Router, Enter, Into, IgwOut, Internet, IgwIn, NatOut, NatIn, Peer, Tgw, TgwLeave, FarOut, FarIn, Inspect}
use Rattle.vpc_model.specs.declared.rows.FarKind.TheVariants as kinds
use Rattle.vpc_model.specs.declared.rows.NatLife.TheVariants.{Gone, Unmodelled as WithoutSubnet, Live}
use Rattle.vpc_model.specs.declared.rows.Target.TheVariants.{Local, Internet as ToInternet, Nat as ToNat, Transit as ToTransit, Peer as ToPeer, Interface as ToInterface, Other}
use Rattle.vpc_model.specs.declared.stops.Stop.TheVariants.{AclIn, AclOut, ApplianceDrop, BlockPublicAccess, NotAHost}
use Rattle.vpc_model.specs.declared.places.EnterBy.TheVariants as through
use Rattle.vpc_model.specs.declared.places.End.TheVariants.{Interface}
use Rattle.vpc_laws.specs.Types.{AttNo, Block, Box5, By, Came, Description, EniNo, EnterBy, Far, FarKind, FarNo, FirewallNo, Header, IgwNo, Label, NatLife, NatNo, PeerNo, Place, Stop, SubnetNo, TableNo, Target, TgwTableNo, VpcNo}
use Rattle.vpc_laws.specs.Terms.{GoesOn, IsDoor, IsTranslation, KeepsFlow, LeadsOn, LiesIn, Refuses, SendsSame, StopsItself, across, asks_acls, door_of, firewall, host, into, is_in_subnet, is_of_step, is_rewriting, nat_answered, nat_asked, out_of, past_none, refuser_of}
use Rattle.vpc_model.specs.Terms.{Appliances, Connection, Moment, Next, Step, Translation, acl_at, acl_of, acl_verdict, arrive, attachment_for, attachment_of_id, blocked, blocked_at, boxes_at, by_attachment, by_pair, by_route, by_tgw_route, by_tgw_table, chosen_route, chosen_tgw_route, crossing, deliver, deliver_by, eni_no, enter_host, entering, forwarded, from_inward, gateway_of, go, go_private, go_public, has_address, has_block, has_vpc, host_of, igw_no, in_passing, interface_at, inward, is_attached, is_blocked, is_full, is_gateway, is_translatable, is_unroutable, leave_by, leave_subnet, leaving, nat_at, nat_no, nat_of, no_route, no_tgw_route, or_else, other_side, out_passing, over_peering, own_address, own_subnet, owner_of, passes, passing_of, peer_no, peering_at, private_of, public_of, same_header, step_at, step_internet, step_into, step_nat_in, step_nat_out, step_of, step_out, step_router, stop, subnet_no, subnet_of, table_at, table_of, table_of_attachment, tgw_table_at, to_attachment, to_host, to_interface, to_internet, to_nat, to_owner, to_peer, to_target, to_transit, to_zone, translate, translation_of, unless_stopped, vpc_at, vpc_no, vpc_of_subnet, zone_subnet}
use Rattle.vpc_model.specs.Far.{blocks_beyond, far_end_of_id, far_of_id, is_within, peering_to, table_of_attachment_id, vpc_beside}
use Rattle.vpc_model.specs.Firewalls.{boxes_behind, entrance_table, firewall_of}
use Rattle.vpc_model.specs.Lookup.{attachment_at, far_at}
use Rattle.vpc_model.specs.Step.Enter.{enter_by_route, enter_by_table, enter_firewall, enter_interface, enter_target}
use Rattle.vpc_model.specs.Step.Far.{in_by, in_by_attachment, in_by_endpoint, in_by_gateway, in_by_peering, out_by, over_half_peering, to_service}
use Rattle.vpc_model.specs.Step.Inspect.{firewall_subnet, step_inspect}
use Rattle.vpc_model.specs.Step.Router.{is_beside, to_endpoint, to_far, to_firewall, to_half_peering, to_network_by, to_other, to_private_gateway}
use Rattle.vpc_model.specs.Step.Transit.{to_attached, to_first, to_leave}
use Rattle.vpc_model.specs.Transit.{first_described}
use Rattle.vpc_laws.proofs.Ports.{new_translation-fits}

-- the header that comes next: that of an open keeps protocol and q, and its p fits its field where the first one's does; where
-- nothing is rewritten, it is the first one
pub record IsFlow (opens : Type 0) (rewritten : Bool) (h k : Header) : Type 0 where
  pub proto : opens → k.proto ≡ h.proto
  pub q : opens → k.q ≡ h.q
  pub p : opens → h.p < 2 ^ 16 → k.p < 2 ^ 16
  pub same : rewritten ≡ false → k ≡ h

itself : {opens : Type 0} {rewritten : Bool} {h : Header} → IsFlow opens rewritten h h
itself = record { proto = λ _. refl; q = λ _. refl; p = λ _ fits. fits; same = λ _. refl }

-- a step makes the stop: groups at their door, ACLs of what they refuse
abbrev pub IsStopAt : Description → Place → Header → Stop → Type 0
IsStopAt d p h s = (is_of_step s ≡ true) × (IsDoor p (door_of s) × Refuses d h (refuser_of s))

abbrev pub Flows : Type 0 → Description → Place → Header → Next → Type 0
Flows opens d p h (go q k) = GoesOn d h p q × IsFlow opens (is_rewriting p) h k
Flows opens d p h (arrive end) = Unit {0}
Flows opens d p h (stop s) = IsStopAt d p h s

-- ---- interfaces

out_passing-flow : (opens : Type 0) (d : Description) (i : EniNo) (m : Moment) (by : Option By) (conns : List Connection) → Flows opens d (OutOf i) m.header (out_passing d i m (record { by = by; conns = conns })).next
out_passing-flow opens d i m None conns = (refl, (refl, tt))
out_passing-flow opens d i m (Some by) conns = (past_none refl refl, itself)

-- arrived or sent on, by the boxes of the appliance there
abbrev pub taken_by : Description → EniNo → Header → Option (List Box5) → Next
taken_by d i h None = arrive (Interface i)
taken_by d i h (Some boxes) = cond (has_address (interface_at d i) h.dst) (arrive (Interface i)) (forwarded i h boxes)

taken_by-flow : (opens : Type 0) (d : Description) (i : EniNo) (h : Header) (boxes : Option (List Box5)) → Flows opens d (Into i) h (taken_by d i h boxes)
taken_by-flow opens d i h None = tt
taken_by-flow opens d i h (Some boxes) =
    cond_both (has_address (interface_at d i) h.dst) (arrive (Interface i)) (forwarded i h boxes) (Flows opens d (Into i) h) (λ _. tt)
    (λ _. cond_both (passes boxes h) (go (OutOf i) h) (stop (ApplianceDrop i)) (Flows opens d (Into i) h) (λ _. (past_none refl refl, itself)) (λ _. (refl, (tt, tt))))

in_passing-flow : (opens : Type 0) (d : Description) (appliances : Appliances) (i : EniNo) (m : Moment) (by : Option By) (conns : List Connection)
    → Flows opens d (Into i) m.header (in_passing d appliances i m (record { by = by; conns = conns })).next
in_passing-flow opens d appliances i m None conns = (refl, (refl, tt))
in_passing-flow opens d appliances i m (Some by) conns = taken_by-flow opens d i m.header (boxes_at appliances i)

step_out-flow : (opens : Type 0) (d : Description) (label : Label) (i : EniNo) (m : Moment) → Flows opens d (OutOf i) m.header (step_out d label i m).next
step_out-flow opens d label i m =
    let e = interface_at d i in
    let passing = passing_of d label i Outward m.header m.conns in
    cond_both e.idle _ _ (λ (s : Step). Flows opens d (OutOf i) m.header s.next) (λ _. (refl, (tt, tt)))
    (λ _. cond_both (e.checked && not (has_address e m.header.src)) _ _ (λ (s : Step). Flows opens d (OutOf i) m.header s.next) (λ _. (refl, (tt, tt)))
    (λ _. out_passing-flow opens d i m passing.by passing.conns))

step_into-flow : (opens : Type 0) (d : Description) (appliances : Appliances) (label : Label) (i : EniNo) (m : Moment) → Flows opens d (Into i) m.header (step_into d appliances label i m).next
step_into-flow opens d appliances label i m =
    let e = interface_at d i in
    let passing = passing_of d label i Inward m.header m.conns in
    cond_both e.idle _ _ (λ (s : Step). Flows opens d (Into i) m.header s.next) (λ _. (refl, (tt, tt)))
    (λ _. cond_both (e.checked && not (has_address e m.header.dst)) _ _ (λ (s : Step). Flows opens d (Into i) m.header s.next) (λ _. (refl, (tt, tt)))
    (λ _. in_passing-flow opens d appliances i m passing.by passing.conns))

-- ---- NAT gateways

-- what a look-up finds passes the test, and is as all are
abbrev pub Found : {X : Type 0} → (X → Type 0) → (X → Bool) → Option X → Type 0
Found P test None = Unit {0}
Found P test (Some x) = (test x ≡ true) × P x

pub find-found : {X : Type 0} (P : X → Type 0) (test : X → Bool) (xs : List X) → AllByRecursion P xs → Found P test (find test xs)
find-found P test [] all = tt
find-found P test (x ∷ xs) all = cond_both (test x) (Some x) (find test xs) (λ o. Found P test o) (λ e. (e, all.0)) (λ _. find-found P test xs all.1)

abbrev pub is_of : NatNo → Header → Translation → Bool
is_of n h t = (t.nat.0 == n.0) && same_header t.before h

-- what a test of two headers tells of their fields
pub record IsSame (a b : Header) : Type 0 where
  pub proto : a.proto ≡ b.proto
  pub src : a.src ≡ b.src
  pub dst : a.dst ≡ b.dst
  pub p : a.p ≡ b.p
  pub q : a.q ≡ b.q

pub same_header-fields : (a b : Header) → same_header a b ≡ true → IsSame a b
same_header-fields a b e =
    let in_ports = (a.p == b.p) && (a.q == b.q) in
    let in_dst = (a.dst == b.dst) && in_ports in
    let in_src = (a.src == b.src) && in_dst in
    let all = and_parts (a.proto == b.proto) in_src e in
    let addresses = and_parts (a.src == b.src) in_dst all.1 in
    let rest = and_parts (a.dst == b.dst) in_ports addresses.1 in
    let ports = and_parts (a.p == b.p) (a.q == b.q) rest.1 in
    record {
      proto = eqb-true a.proto b.proto all.0;
      src = eqb-true a.src b.src addresses.0;
      dst = eqb-true a.dst b.dst rest.0;
      p = eqb-true a.p b.p ports.0;
      q = eqb-true a.q b.q ports.1;
    }

-- an open is there, and such translations are remembered
abbrev pub IsOpenAmong : Label → List Translation → Type 0
IsOpenAmong label nats = (label ≡ Opening) × AllByRecursion IsTranslation nats

translate-flow : (d : Description) (n : NatNo) (m : Moment) (t : Option Translation) (opens : Type 0) → (opens → Found IsTranslation (is_of n m.header) t) → Flows opens d (NatOut n) m.header (translate d n m t).next
translate-flow d n m None opens found =
    let row = nat_at d n in
    cond_both (is_full m.nats n m.header) _ _ (λ (s : Step). Flows opens d (NatOut n) m.header s.next) (λ _. (refl, (tt, tt)))
    (λ _. (
      past_none refl refl,
      record {
        proto = λ _. refl;
        q = λ _. refl;
        p = λ _ fits. (new_translation-fits m.nats n (own_address row.life) m.header fits).1;
        same = λ e. absurd (true≢false e);
      },
    ))
translate-flow d n m (Some t) opens found = (
  past_none refl refl,
  record {
    proto = λ o. (found o).1.proto ∙ (same o).proto;
    q = λ o. (found o).1.q ∙ (same o).q;
    p = λ o fits. let from = (same o).p in (found o).1.most (rw from fits);
    same = λ e. absurd (true≢false e);
  },
)
  where
    same : opens → IsSame t.before m.header
    same o = same_header-fields t.before m.header (and_parts (t.nat.0 == n.0) (same_header t.before m.header) (found o).0).1

step_nat_out-flow : (d : Description) (label : Label) (n : NatNo) (m : Moment) → Flows (IsOpenAmong label m.nats) d (NatOut n) m.header (step_nat_out d label n m).next
step_nat_out-flow d Answer n m = (refl, (tt, tt))
step_nat_out-flow d Opening n m =
    cond_both (is_translatable m.header.proto) (translate d n m (translation_of m.nats n m.header)) _ (λ (s : Step). Flows (IsOpenAmong Opening m.nats) d (NatOut n) m.header s.next)
    (λ _. translate-flow d n m (translation_of m.nats n m.header) (IsOpenAmong Opening m.nats) (λ o. find-found IsTranslation (is_of n m.header) m.nats o.1)) (λ _. (refl, (tt, tt)))

Answer≢Opening : Answer ≡ Opening → ⊥
Answer≢Opening e = cc

from_inward-flow : (d : Description) (n : NatNo) (h : Header) (nats : List Translation) (o : Option Header) → Flows (IsOpenAmong Answer nats) d (NatIn n) h (from_inward d n o)
from_inward-flow d n h nats None = (refl, (tt, tt))
from_inward-flow d n h nats (Some k) = (
  past_none refl refl,
  record {
    proto = λ o. absurd (Answer≢Opening o.0);
    q = λ o. absurd (Answer≢Opening o.0);
    p = λ o. absurd (Answer≢Opening o.0);
    same = λ e. absurd (true≢false e);
  },
)

step_nat_in-flow : (d : Description) (label : Label) (n : NatNo) (m : Moment) → Flows (IsOpenAmong label m.nats) d (NatIn n) m.header (step_nat_in d label n m).next
step_nat_in-flow d Opening n m = (refl, (tt, tt))
step_nat_in-flow d Answer n m = from_inward-flow d n m.header m.nats (inward m.nats n m.header)

pub or_else-first : {X : Type 0} (first later : Option X) → or_else first later ≡ None → first ≡ None
or_else-first None later e = refl
or_else-first (Some x) later e = e

pub or_else-later : {X : Type 0} (first later : Option X) → or_else first later ≡ None → later ≡ None
or_else-later None later e = e
or_else-later (Some x) later e = absurd (cc)

module _ (opens : Type 0) (d : Description) where
  -- ---- ACLs

  -- a stop of a step, if there is one
  abbrev StopsAt : Place → Header → Option Stop → Type 0
  StopsAt p h None = Unit {0}
  StopsAt p h (Some s) = IsStopAt d p h s

  leaving-stops : (p : Place) (s : SubnetNo) (h : Header) → StopsAt p h (leaving d s h)
  leaving-stops p s h =
      let a = acl_at d (acl_of d s) in
      let verdict = acl_verdict a.rows Outward h in
      cond_both verdict.0 None (Some (AclOut (acl_of d s) verdict.1)) (StopsAt p h) (λ _. tt) (λ refused. (refl, (tt, refused)))

  entering-stops : (p : Place) (s : SubnetNo) (h : Header) → StopsAt p h (entering d s h)
  entering-stops p s h =
      let a = acl_at d (acl_of d s) in
      let verdict = acl_verdict a.rows Inward h in
      cond_both verdict.0 None (Some (AclIn (acl_of d s) verdict.1)) (StopsAt p h) (λ _. tt) (λ refused. (refl, (tt, refused)))

  or_else-stops : (p : Place) (h : Header) (first later : Option Stop) → StopsAt p h first → StopsAt p h later → StopsAt p h (or_else first later)
  or_else-stops p h None later one two = two
  or_else-stops p h (Some s) later one two = one

  crossing-stops : (p : Place) (s t : SubnetNo) (h : Header) → StopsAt p h (crossing d s t h)
  crossing-stops p s t h =
      cond_both (s.0 == t.0) None (or_else (leaving d s h) (entering d t h)) (StopsAt p h) (λ _. tt)
      (λ _. or_else-stops p h (leaving d s h) (entering d t h) (leaving-stops p s h) (entering-stops p t h))

  unless_stopped-flow : (p : Place) (h : Header) (s : Option Stop) (x : Next) → StopsAt p h s → (s ≡ None → Flows opens d p h x) → Flows opens d p h (unless_stopped s x)
  unless_stopped-flow p h None x stops leads = leads refl
  unless_stopped-flow p h (Some s) x stops leads = stops

  -- to the interface that has the destination, where the way into its subnet is free
  deliver_by-flow : (p : Place) (h : Header) (v : VpcNo) (i : EniNo) (n : Option NatNo) → host_of d v h.dst ≡ Some i → nat_of d i ≡ n
      → ((q : Place) → LiesIn d h q (subnet_of d i) → GoesOn d h p q) → Flows opens d p h (deliver_by d i h n)
  deliver_by-flow p h v i (Some n) found has free = (free (NatIn n) (nat_answered v i n refl found has refl), itself)
  deliver_by-flow p h v i None found has free =
      let e = interface_at d i in cond_both (is_gateway e.kind) (stop (NotAHost i)) (go (Into i) h) (Flows opens d p h) (λ _. (refl, (tt, tt))) (λ _. (free (Into i) (host i refl refl), itself))

  -- ---- routers

  module _ (s : SubnetNo) (came : Came) (h : Header) where
    abbrev here : Place
    here = Router s came

    abbrev Onward : Next → Type 0
    Onward x = Flows opens d here h x

    -- past the ACL of the router's subnet
    leaves : (q : Place) → is_in_subnet q ≡ false → Onward (unless_stopped (leaving d s h) (go q h))
    leaves q elsewhere = unless_stopped-flow here h (leaving d s h) (go q h) (leaving-stops here s h) (λ passed. (out_of s came refl elsewhere passed, itself))

    to_host-flow : (v : VpcNo) (i : Option EniNo) → host_of d v h.dst ≡ i → Onward (to_host d s h i)
    to_host-flow v None found = (refl, (tt, tt))
    to_host-flow v (Some i) found =
        unless_stopped-flow here h (crossing d s (subnet_of d i) h) (deliver d i h) (crossing-stops here s (subnet_of d i) h)
        (λ passed. deliver_by-flow here h v i (nat_of d i) found refl (λ q lies. across s (subnet_of d i) came refl lies passed))

    to_internet-flow : (g : IgwNo) → Onward (to_internet d s h g)
    to_internet-flow g = let v = vpc_of_subnet d s in cond_both (is_attached g (gateway_of d v)) _ _ Onward (λ _. leaves (IgwOut v) refl) (λ _. (refl, (tt, tt)))

    to_nat-flow : (n : NatNo) (life : NatLife) → (let row = nat_at d n in row.life ≡ life) → Onward (to_nat d s h n life)
    to_nat-flow n Gone is = (refl, (tt, tt))
    to_nat-flow n WithoutSubnet is = (refl, (tt, tt))
    to_nat-flow n (Live subnet eni address) is =
        unless_stopped-flow here h (crossing d s (subnet_no d subnet) h) (go (NatOut n) h) (crossing-stops here s (subnet_no d subnet) h)
        (λ passed. (across s (subnet_no d subnet) came refl (nat_asked n refl (ap (λ (l : NatLife). subnet_no d (own_subnet l)) (sym is))) passed, itself))

    to_far-flow : (k : FarNo) → Onward (to_far d s h k)
    to_far-flow k = leaves (FarOut k) refl

    to_half_peering-flow : (x : PeerNo) (k : Option FarNo) → Onward (to_half_peering d s h x k)
    to_half_peering-flow x None = (refl, (tt, tt))
    to_half_peering-flow x (Some k) = to_far-flow k

    to_peer-flow : (x : PeerNo) (pair : Option (List ℕ × List ℕ)) → Onward (to_peer d s h x pair)
    to_peer-flow x None = (refl, (tt, tt))
    to_peer-flow x (Some pair) =
        let v = vpc_of_subnet d s in
        let row = vpc_at d v in
        let peering = peering_at d x in
        cond_both (has_vpc d (other_side row.id pair)) _ (to_half_peering d s h x (far_end_of_id d peering.id)) Onward (λ _. leaves (Peer x v) refl) (λ _. to_half_peering-flow x (far_end_of_id d peering.id))

    to_zone-flow : (a : AttNo) (t : Option SubnetNo) → Onward (to_zone d s h a t)
    to_zone-flow a None = (refl, (tt, tt))
    to_zone-flow a (Some t) =
        unless_stopped-flow here h (or_else (leaving d s h) (entering d t h)) (go (Tgw a t) h)
        (or_else-stops here h (leaving d s h) (entering d t h) (leaving-stops here s h) (entering-stops here t h))
        (λ passed. (out_of s came refl refl (or_else-first (leaving d s h) (entering d t h) passed), itself))

    to_transit-flow : (t : TableNo) (k : ℕ) (a : Option AttNo) → Onward (to_transit d s h t k a)
    to_transit-flow t k None = (refl, (tt, tt))
    to_transit-flow t k (Some a) = to_zone-flow a (zone_subnet d a s)

    to_interface-flow : (j : EniNo) → Onward (to_interface d s h j)
    to_interface-flow j =
        let e = interface_at d j in
        unless_stopped-flow here h (crossing d s (subnet_of d j) h) _ (crossing-stops here s (subnet_of d j) h)
        (λ passed. cond_both (is_gateway e.kind) (stop (NotAHost j)) (go (Into j) h) Onward (λ _. (refl, (tt, tt))) (λ _. (across s (subnet_of d j) came refl (host j refl refl) passed, itself)))

    to_private_gateway-flow : (k : FarNo) (attached : Bool) → Onward (to_private_gateway d s h k attached)
    to_private_gateway-flow k attached = cond_both attached (to_far d s h k) _ Onward (λ _. to_far-flow k) (λ _. (refl, (tt, tt)))

    to_endpoint-flow : (t : TableNo) (k : ℕ) (far : FarNo) (inside : Bool) → Onward (to_endpoint d s h t k far inside)
    to_endpoint-flow t k far inside = cond_both inside (to_far d s h far) _ Onward (λ _. to_far-flow far) (λ _. (refl, (tt, tt)))

    to_network_by-flow : (t : TableNo) (k : ℕ) (far : FarNo) (kind : FarKind) → Onward (to_network_by d s h t k far kind)
    to_network_by-flow t k far (kinds.PrivateGateway vpc) = to_private_gateway-flow far (is_beside (vpc_of_subnet d s) (vpc_beside d (far_at d far)))
    to_network_by-flow t k far (kinds.Endpoint vpc) = to_endpoint-flow t k far (is_beside (vpc_of_subnet d s) (vpc_beside d (far_at d far)))
    to_network_by-flow t k far (kinds.Attachment vpc) = (refl, (tt, tt))
    to_network_by-flow t k far (kinds.Peering requester accepter) = (refl, (tt, tt))

    to_firewall-flow : (t : TableNo) (k : ℕ) (e : Option FirewallNo) → Onward (to_firewall d s h t k e)
    to_firewall-flow t k None = (refl, (tt, tt))
    to_firewall-flow t k (Some e) =
        unless_stopped-flow here h (crossing d s (firewall_subnet d e) h) (go (Inspect e) h) (crossing-stops here s (firewall_subnet d e) h)
        (λ passed. (across s (firewall_subnet d e) came refl (firewall e refl refl) passed, itself))

    to_other-flow : (t : TableNo) (k : ℕ) (id : List ℕ) (far : Option FarNo) → Onward (to_other d s h t k id far)
    to_other-flow t k id None = to_firewall-flow t k (firewall_of d (vpc_of_subnet d s) id)
    to_other-flow t k id (Some far) = let row = far_at d far in to_network_by-flow t k far row.kind

    to_target-flow : (t : TableNo) (k : ℕ) (target : Target) → Onward (to_target d s h t k target)
    to_target-flow t k Local = to_host-flow (vpc_of_subnet d s) (host_of d (vpc_of_subnet d s) h.dst) refl
    to_target-flow t k (ToInternet id) = to_internet-flow (igw_no d id)
    to_target-flow t k (ToNat id) = let row = nat_at d (nat_no d id) in to_nat-flow (nat_no d id) row.life refl
    to_target-flow t k (ToPeer id) = let row = peering_at d (peer_no d id) in to_peer-flow (peer_no d id) row.pair
    to_target-flow t k (ToTransit id) = to_transit-flow t k (attachment_for d id s)
    to_target-flow t k (ToInterface id) = to_interface-flow (eni_no d id)
    to_target-flow t k (Other id) = to_other-flow t k id (far_of_id d id)

    by_route-flow : (t : TableNo) (k : Option ℕ) → Onward (by_route d s h t k)
    by_route-flow t None = (refl, (tt, tt))
    by_route-flow t (Some k) =
        let table = table_at d t in
        let r = slice_index_or table.routes k no_route in
        cond_both r.blackhole _ (to_target d s h t k r.target) Onward (λ _. (refl, (tt, tt))) (λ _. to_target-flow t k r.target)

  step_router-flow : (s : SubnetNo) (came : Came) (m : Moment) → Flows opens d (Router s came) m.header (step_router d s m).next
  step_router-flow s came m =
      let t = table_of d s in
      let table = table_at d t in
      by_route-flow s came m.header t (chosen_route d table.routes m.header.dst)

  -- ---- gateways

  enter_host-flow : (v : VpcNo) (by : EnterBy) (h : Header) (i : Option EniNo) → host_of d v h.dst ≡ i → Flows opens d (Enter v by) h (enter_host d v h i)
  enter_host-flow v by h None found = (refl, (tt, tt))
  enter_host-flow v by h (Some i) found =
      unless_stopped-flow (Enter v by) h (entering d (subnet_of d i) h) (deliver d i h) (entering-stops (Enter v by) (subnet_of d i) h)
      (λ passed. deliver_by-flow (Enter v by) h v i (nat_of d i) found refl (λ q lies. into v by (subnet_of d i) refl lies passed))

  module _ (v : VpcNo) (by : EnterBy) (h : Header) where
    abbrev door : Place
    door = Enter v by

    enters : (t : SubnetNo) (q : Place) → LiesIn d h q t → entering d t h ≡ None → Flows opens d door h (go q h)
    enters t q lies passed = (into v by t refl lies passed, itself)

    enter_interface-flow : (j : EniNo) → Flows opens d door h (enter_interface d h j)
    enter_interface-flow j =
        let e = interface_at d j in
        unless_stopped-flow door h (entering d (subnet_of d j) h) _ (entering-stops door (subnet_of d j) h)
        (λ passed. cond_both (is_gateway e.kind) (stop (NotAHost j)) (go (Into j) h) (Flows opens d door h) (λ _. (refl, (tt, tt))) (λ _. enters (subnet_of d j) (Into j) (host j refl refl) passed))

    enter_firewall-flow : (t : TableNo) (k : ℕ) (e : Option FirewallNo) → Flows opens d door h (enter_firewall d h t k e)
    enter_firewall-flow t k None = (refl, (tt, tt))
    enter_firewall-flow t k (Some e) =
        unless_stopped-flow door h (entering d (firewall_subnet d e) h) (go (Inspect e) h) (entering-stops door (firewall_subnet d e) h)
        (λ passed. enters (firewall_subnet d e) (Inspect e) (firewall e refl refl) passed)

    enter_target-flow : (t : TableNo) (k : ℕ) (target : Target) → Flows opens d door h (enter_target d v h t k target)
    enter_target-flow t k Local = enter_host-flow v by h (host_of d v h.dst) refl
    enter_target-flow t k (ToInterface id) = enter_interface-flow (eni_no d id)
    enter_target-flow t k (Other id) = enter_firewall-flow t k (firewall_of d v id)
    enter_target-flow t k (ToInternet id) = (refl, (tt, tt))
    enter_target-flow t k (ToNat id) = (refl, (tt, tt))
    enter_target-flow t k (ToTransit id) = (refl, (tt, tt))
    enter_target-flow t k (ToPeer id) = (refl, (tt, tt))

    enter_by_route-flow : (t : TableNo) (k : Option ℕ) → Flows opens d door h (enter_by_route d v h t k)
    enter_by_route-flow t None = (refl, (tt, tt))
    enter_by_route-flow t (Some k) =
        let table = table_at d t in
        let r = slice_index_or table.routes k no_route in
        cond_both r.blackhole _ (enter_target d v h t k r.target) (Flows opens d door h) (λ _. (refl, (tt, tt))) (λ _. enter_target-flow t k r.target)

    enter_by_table-flow : (t : Option TableNo) → Flows opens d door h (enter_by_table d v h t)
    enter_by_table-flow None = enter_host-flow v by h (host_of d v h.dst) refl
    enter_by_table-flow (Some t) = let table = table_at d t in enter_by_route-flow t (chosen_route d table.routes h.dst)

  blocked-stops : (p : Place) (h : Header) (i : Option EniNo) → StopsAt p h (option_and_then (blocked d) i)
  blocked-stops p h None = tt
  blocked-stops p h (Some i) = cond_both (is_blocked d i) (Some (BlockPublicAccess (subnet_of d i))) None (StopsAt p h) (λ _. (refl, (tt, tt))) (λ _. tt)

  go_public-flow : (v : VpcNo) (h : Header) (a : Option ℕ) → Flows opens d (IgwOut v) h (go_public d v h a)
  go_public-flow v h None = (refl, (tt, tt))
  go_public-flow v h (Some a) =
      unless_stopped-flow (IgwOut v) h (blocked_at d v h.src) (go Internet (record h { src = a })) (blocked-stops (IgwOut v) h (host_of d v h.src))
      (λ _. (past_none refl refl, record { proto = λ _. refl; q = λ _. refl; p = λ _ fits. fits; same = λ e. absurd (true≢false e) }))

  go_private-flow : (v : VpcNo) (h : Header) (a : Option ℕ) → Flows opens d (IgwIn v) h (go_private d v h a)
  go_private-flow v h None = (past_none refl refl, itself)
  go_private-flow v h (Some a) =
      unless_stopped-flow (IgwIn v) h (blocked_at d v a) (go (Enter v through.Gateway) (record h { dst = a })) (blocked-stops (IgwIn v) h (host_of d v a))
      (λ _. (past_none refl refl, record { proto = λ _. refl; q = λ _. refl; p = λ _ fits. fits; same = λ e. absurd (true≢false e) }))

  to_owner-flow : (h : Header) (v : Option VpcNo) → Flows opens d Internet h (to_owner d h v)
  to_owner-flow h None = tt
  to_owner-flow h (Some v) =
      cond_both (is_none (gateway_of d v)) _ _ (Flows opens d Internet h) (λ _. (refl, (tt, tt))) (λ _. (past_none refl refl, itself))

  step_internet-flow : (m : Moment) → Flows opens d Internet m.header (step_internet d m).next
  step_internet-flow m =
      cond_both (is_unroutable m.header.src || is_unroutable m.header.dst) _ _ (λ (s : Step). Flows opens d Internet m.header s.next)
      (λ _. (refl, (tt, tt))) (λ _. to_owner-flow m.header (owner_of d m.header.dst))

  over_peering-flow : (x : PeerNo) (v w : VpcNo) (h : Header) → Flows opens d (Peer x v) h (over_peering d x v w h)
  over_peering-flow x v w h =
      cond_both (not (has_block d v h.src)) _ _ (Flows opens d (Peer x v) h) (λ _. (refl, (tt, tt)))
      (λ _. cond_both (not (has_block d w h.dst)) _ _ (Flows opens d (Peer x v) h) (λ _. (refl, (tt, tt))) (λ _. (past_none refl refl, itself)))

  by_pair-flow : (x : PeerNo) (v : VpcNo) (h : Header) (pair : Option (List ℕ × List ℕ)) → Flows opens d (Peer x v) h (by_pair d x v h pair)
  by_pair-flow x v h None = (refl, (tt, tt))
  by_pair-flow x v h (Some pair) = let row = vpc_at d v in over_peering-flow x v (vpc_no d (other_side row.id pair)) h

  -- by a table of a transit gateway, from an attachment or from a network that isn't described
  module _ (p : Place) (h : Header) (no_acls : asks_acls p ≡ false) where
    abbrev Routed : Next → Type 0
    Routed x = Flows opens d p h x

    past : (q : Place) → is_in_subnet q ≡ false → Routed (go q h)
    past q elsewhere = (past_none no_acls elsewhere, itself)

    to_first-flow : (a : AttNo) (s : Option SubnetNo) → Routed (to_first h a s)
    to_first-flow a None = (refl, (tt, tt))
    to_first-flow a (Some s) = past (TgwLeave a s) refl

    to_leave-flow : (a : AttNo) (entered : Option SubnetNo) → Routed (to_leave d h a entered)
    to_leave-flow a None = let row = attachment_at d a in to_first-flow a (first_described d row.subnets)
    to_leave-flow a (Some s) = past (TgwLeave a s) refl

    module _ (entered : Option SubnetNo) (t : TgwTableNo) where
      to_attachment-flow : (k : ℕ) (a : Option AttNo) → Routed (to_attachment d entered h t k a)
      to_attachment-flow k None = (refl, (tt, tt))
      to_attachment-flow k (Some a) = to_leave-flow a entered

      to_attached-flow : (k : ℕ) (id : List ℕ) (far : Option FarNo) → Routed (to_attached d entered h t k id far)
      to_attached-flow k id None = to_attachment-flow k (attachment_of_id d id)
      to_attached-flow k id (Some far) = past (FarOut far) refl

      by_attachment-flow : (k : ℕ) (id : Option (List ℕ)) → Routed (by_attachment d entered h t k id)
      by_attachment-flow k None = (refl, (tt, tt))
      by_attachment-flow k (Some id) = to_attached-flow k id (far_end_of_id d id)

      by_tgw_route-flow : (k : Option ℕ) → Routed (by_tgw_route d entered h t k)
      by_tgw_route-flow None = (refl, (tt, tt))
      by_tgw_route-flow (Some k) =
          let table = tgw_table_at d t in
          let r = slice_index_or table.routes k no_tgw_route in
          cond_both r.blackhole _ (by_attachment d entered h t k r.attachment) Routed (λ _. (refl, (tt, tt))) (λ _. by_attachment-flow k r.attachment)

  by_tgw_table-flow : (from : AttNo) (s : SubnetNo) (h : Header) (t : Option TgwTableNo) → Flows opens d (Tgw from s) h (by_tgw_table d from s h t)
  by_tgw_table-flow from s h None = (refl, (tt, tt))
  by_tgw_table-flow from s h (Some t) = let table = tgw_table_at d t in by_tgw_route-flow (Tgw from s) h refl (Some s) t (chosen_tgw_route table.routes h.dst)

  leave_by-flow : (a : AttNo) (entered : SubnetNo) (h : Header) (s : Option SubnetNo) → Flows opens d (TgwLeave a entered) h (leave_by a h s)
  leave_by-flow a entered h None = (refl, (tt, tt))
  leave_by-flow a entered h (Some s) = (past_none refl refl, itself)

  -- ---- networks that aren't described, and firewall endpoints

  over_half_peering-flow : (k : FarNo) (x : PeerNo) (h : Header) (beyond : List Block) (v : Option VpcNo) → Flows opens d (FarOut k) h (over_half_peering d k x h beyond v)
  over_half_peering-flow k x h beyond None = (refl, (tt, tt))
  over_half_peering-flow k x h beyond (Some v) =
      cond_both (not (has_block d v h.src)) _ _ (Flows opens d (FarOut k) h) (λ _. (refl, (tt, tt)))
      (λ _. cond_both (not (is_within beyond h.dst)) _ _ (Flows opens d (FarOut k) h) (λ _. (refl, (tt, tt))) (λ _. tt))

  to_service-flow : (k : FarNo) (h : Header) (v : Option VpcNo) → Flows opens d (FarOut k) h (to_service d k h v)
  to_service-flow k h None = (refl, (tt, tt))
  to_service-flow k h (Some v) = cond_both (has_block d v h.src) _ _ (Flows opens d (FarOut k) h) (λ _. tt) (λ _. (refl, (tt, tt)))

  out_by-flow : (k : FarNo) (f : Far) (h : Header) (kind : FarKind) → Flows opens d (FarOut k) h (out_by d k f h kind)
  out_by-flow k f h (kinds.PrivateGateway vpc) = tt
  out_by-flow k f h (kinds.Attachment vpc) = tt
  out_by-flow k f h (kinds.Peering requester accepter) = over_half_peering-flow k (peering_to d f) h (blocks_beyond d f) (vpc_beside d f)
  out_by-flow k f h (kinds.Endpoint vpc) = to_service-flow k h (vpc_beside d f)

  in_by_gateway-flow : (k : FarNo) (h : Header) (v : Option VpcNo) → Flows opens d (FarIn k) h (in_by_gateway k h v)
  in_by_gateway-flow k h None = (refl, (tt, tt))
  in_by_gateway-flow k h (Some v) = past (FarIn k) h refl (Enter v (through.Far k)) refl

  in_by_peering-flow : (k : FarNo) (x : PeerNo) (h : Header) (beyond : List Block) (v : Option VpcNo) → Flows opens d (FarIn k) h (in_by_peering d x h beyond v)
  in_by_peering-flow k x h beyond None = (refl, (tt, tt))
  in_by_peering-flow k x h beyond (Some v) =
      cond_both (not (is_within beyond h.src)) _ _ (Flows opens d (FarIn k) h) (λ _. (refl, (tt, tt)))
      (λ _. cond_both (not (has_block d v h.dst)) _ _ (Flows opens d (FarIn k) h) (λ _. (refl, (tt, tt))) (λ _. past (FarIn k) h refl (Enter v (through.Peering x)) refl))

  in_by_attachment-flow : (k : FarNo) (h : Header) (t : Option TgwTableNo) → Flows opens d (FarIn k) h (in_by_attachment d k h t)
  in_by_attachment-flow k h None = (refl, (tt, tt))
  in_by_attachment-flow k h (Some t) = let table = tgw_table_at d t in by_tgw_route-flow (FarIn k) h refl None t (chosen_tgw_route table.routes h.dst)

  in_by_endpoint-flow : (label : Label) (k : FarNo) (h : Header) (v : Option VpcNo) → Flows opens d (FarIn k) h (in_by_endpoint label k h v)
  in_by_endpoint-flow Opening k h v = (refl, (tt, tt))
  in_by_endpoint-flow Answer k h v = in_by_gateway-flow k h v

  in_by-flow : (label : Label) (k : FarNo) (f : Far) (h : Header) (kind : FarKind) → Flows opens d (FarIn k) h (in_by d label k f h kind)
  in_by-flow label k f h (kinds.PrivateGateway vpc) = in_by_gateway-flow k h (vpc_beside d f)
  in_by-flow label k f h (kinds.Attachment vpc) = in_by_attachment-flow k h (table_of_attachment_id d f.id)
  in_by-flow label k f h (kinds.Peering requester accepter) = in_by_peering-flow k (peering_to d f) h (blocks_beyond d f) (vpc_beside d f)
  in_by-flow label k f h (kinds.Endpoint vpc) = in_by_endpoint-flow label k h (vpc_beside d f)

  step_inspect-flow : (e : FirewallNo) (m : Moment) → Flows opens d (Inspect e) m.header (step_inspect d e m).next
  step_inspect-flow e m = cond_both (passes (boxes_behind d e) m.header) _ _ (Flows opens d (Inspect e) m.header) (λ _. (past_none refl refl, itself)) (λ _. (refl, (tt, tt)))

-- ---- all places

pub step_at-flow : (d : Description) (appliances : Appliances) (label : Label) (p : Place) (m : Moment) → Flows (IsOpenAmong label m.nats) d p m.header (step_at d appliances label p m).next
step_at-flow d appliances label (OutOf i) m = step_out-flow _ d label i m
step_at-flow d appliances label (Router s came) m = step_router-flow _ d s came m
step_at-flow d appliances label (Enter v by) m = enter_by_table-flow _ d v by m.header (entrance_table d v by)
step_at-flow d appliances label (Into i) m = step_into-flow _ d appliances label i m
step_at-flow d appliances label (IgwOut v) m = go_public-flow _ d v m.header (public_of d v m.header.src)
step_at-flow d appliances label Internet m = step_internet-flow _ d m
step_at-flow d appliances label (IgwIn v) m = go_private-flow _ d v m.header (private_of d v m.header.dst)
step_at-flow d appliances label (NatOut n) m = step_nat_out-flow d label n m
step_at-flow d appliances label (NatIn n) m = step_nat_in-flow d label n m
step_at-flow d appliances label (Peer x v) m = let row = peering_at d x in by_pair-flow _ d x v m.header row.pair
step_at-flow d appliances label (Tgw a s) m = by_tgw_table-flow _ d a s m.header (table_of_attachment d a)
step_at-flow d appliances label (TgwLeave a s) m = leave_by-flow _ d a s m.header (leave_subnet d a s)
step_at-flow d appliances label (FarOut k) m = let f = far_at d k in out_by-flow _ d k f m.header f.kind
step_at-flow d appliances label (FarIn k) m = let f = far_at d k in in_by-flow _ d label k f m.header f.kind
step_at-flow d appliances label (Inspect e) m = step_inspect-flow _ d e m

-- ---- the laws

Flows-keeps : (opens : Type 0) (d : Description) (p : Place) (h : Header) (x : Next) → opens → Flows opens d p h x → KeepsFlow h x
Flows-keeps opens d p h (go q k) o (on, flow) = (flow.proto o, flow.q o)
Flows-keeps opens d p h (arrive end) o flow = tt
Flows-keeps opens d p h (stop s) o flow = tt

pub open_keeps_flow : (d : Description) (appliances : Appliances) (m : Moment) → AllByRecursion IsTranslation m.nats → KeepsFlow m.header (step_of d appliances Opening m).next
open_keeps_flow d appliances m all = Flows-keeps _ d m.place m.header _ (refl, all) (step_at-flow d appliances Opening m.place m)

Flows-same : (opens : Type 0) (d : Description) (p : Place) (h : Header) (x : Next) → is_rewriting p ≡ false → Flows opens d p h x → SendsSame h x
Flows-same opens d p h (go q k) e (on, flow) = flow.same e
Flows-same opens d p h (arrive end) e flow = tt
Flows-same opens d p h (stop s) e flow = tt

pub header_stays : (d : Description) (appliances : Appliances) (label : Label) (m : Moment) → is_rewriting m.place ≡ false → SendsSame m.header (step_of d appliances label m).next
header_stays d appliances label m e = Flows-same _ d m.place m.header _ e (step_at-flow d appliances label m.place m)

Flows-stops : (opens : Type 0) (d : Description) (p : Place) (h : Header) (x : Next) → Flows opens d p h x → StopsItself x
Flows-stops opens d p h (go q k) flow = tt
Flows-stops opens d p h (arrive end) flow = tt
Flows-stops opens d p h (stop s) flow = flow.0

pub steps_stop_themselves : (d : Description) (appliances : Appliances) (label : Label) (m : Moment) → StopsItself (step_of d appliances label m).next
steps_stop_themselves d appliances label m = Flows-stops _ d m.place m.header _ (step_at-flow d appliances label m.place m)

Flows-leads : (opens : Type 0) (d : Description) (p : Place) (h : Header) (x : Next) → Flows opens d p h x → LeadsOn d p h x
Flows-leads opens d p h (go q k) (on, flow) = on
Flows-leads opens d p h (arrive end) flow = tt
Flows-leads opens d p h (stop s) flow = flow.1

pub steps_lead_on : (d : Description) (appliances : Appliances) (label : Label) (m : Moment) → LeadsOn d m.place m.header (step_of d appliances label m).next
steps_lead_on d appliances label m = Flows-leads _ d m.place m.header _ (step_at-flow d appliances label m.place m)

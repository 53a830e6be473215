-- The walks and verdicts of a network, and of the same one without the networks of which it tells nothing else.
use Rattle.std.proofs.Common.{Bool, List, None, Option, Some, [], ap, cond, false, inl, inr, option_and_then, refl, slice_index_or, subst, suc, sym, true, zero, ℕ, ◌++◌, ◌∙◌, ◌∷◌, ◌≡◌, ◌⊎◌}
use Rattle.std.proofs.lemmas.Bool.{false≢true}
use Rattle.vpc_base.proofs.Lemmas.{cond_both}
use Rattle.vpc_base.specs.Header.{reply_of}
use Rattle.vpc_base.specs.declared.headers.Label.TheVariants as labels
use Rattle.vpc_laws.proofs.Following.{step_at-leads}
use Rattle.vpc_laws.proofs.Following as following
use Rattle.vpc_laws.specs.Outside.{LeadsTo, may_follow}
use Rattle.vpc_laws.specs.Types.{AttNo, Description, End, EniNo, EnterBy, FarNo, FirewallNo, Foreign, Header, Hop, IgwNo, Label, NatLife, NatNo, Outcome, PeerNo, Place, Stop, SubnetNo, TableNo, Target, TgwTableNo, Verdict, VpcNo}
use Rattle.vpc_model.specs.Far.{far_end_of_id, far_of_id}
use Rattle.vpc_model.specs.Firewalls.{firewall_of, firewall_of_id, is_firewall_in}
use Rattle.vpc_model.specs.Step.Inspect.{firewall_subnet}
use Rattle.vpc_model.specs.Step.Router.{to_firewall, to_half_peering, to_other}
use Rattle.vpc_model.specs.Step.Transit.{to_attached, to_attachment, to_first, to_leave}
use Rattle.vpc_model.specs.Lookup.{attachment_at}
use Rattle.vpc_model.specs.Terms.{Appliances, Connection, Moment, Next, Step, Translation, Walk, alone, arrive, attachment_for, attachment_of_id, by_attachment, by_route, by_tgw_route, by_tgw_table, chosen_route, chosen_tgw_route, crossing, deliver_by, ended, eni_no, entering, gateway_of, go, has_vpc, host_of, igw_no, interface_at, is_attached, is_gateway, is_visited, leaving, nat_at, nat_no, nat_of, no_route, no_tgw_route, or_else, other_side, peer_no, peering_at, plain, same_end, start_of, step_at, step_of, stop, subnet_no, subnet_of, table_at, table_of, table_of_attachment, tgw_table_at, to_host, to_interface, to_internet, to_nat, to_peer, to_target, to_transit, to_zone, unless_stopped, verdict_of, verdict_of_arrival, verdict_of_reply, verdict_of_request, vpc_at, vpc_of_subnet, walk_of, walk_on, zone_subnet}
use Rattle.vpc_model.specs.Transit.{first_described}
use Rattle.vpc_model.specs.declared.outcomes.Outcome.TheVariants as outcomes
use Rattle.vpc_model.specs.declared.outcomes.Phase.TheVariants as phases
use Rattle.vpc_model.specs.declared.outcomes.Verdict.TheVariants as verdicts
use Rattle.vpc_model.specs.declared.places.End.TheVariants as ends
use Rattle.vpc_model.specs.declared.places.EnterBy.TheVariants as through
use Rattle.vpc_model.specs.declared.places.Place.TheVariants as places
use Rattle.vpc_model.specs.declared.rows.NatLife.TheVariants as lives
use Rattle.vpc_model.specs.declared.rows.Target.TheVariants as targets
use Rattle.vpc_model.specs.declared.stops.Foreign.TheVariants as foreign
use Rattle.vpc_model.specs.declared.stops.Stop.TheVariants as stops
use Rattle.outside_laws.specs.Without.{IsUnknown, TellsOnce, is_other_end, without_networks}

-- ---- places of the networks that are described

abbrev is_described_door : EnterBy → Bool
is_described_door through.Gateway = true
is_described_door (through.Peering x) = true
is_described_door (through.Far k) = false

abbrev is_inside : Place → Bool
is_inside (places.Enter v by) = is_described_door by
is_inside (places.FarOut k) = false
is_inside (places.FarIn k) = false
is_inside _ = true

-- a test that places of other networks don't pass
record IsInward (test : Place → Bool) : Type 0 where
  out : (k : FarNo) → test (places.FarOut k) ≡ false
  into : (k : FarNo) → test (places.FarIn k) ≡ false
  door : (v : VpcNo) (k : FarNo) → test (places.Enter v (through.Far k)) ≡ false

none : (test : Place → Bool) (q : Place) → test q ≡ false → test q ≡ true → is_inside q ≡ true
none test q fails passes = absurd (false≢true (sym fails ∙ passes))

inside : (test : Place → Bool) → IsInward test → (q : Place) → test q ≡ true → is_inside q ≡ true
inside test is (places.OutOf i) e = refl
inside test is (places.Router s came) e = refl
inside test is (places.Enter v through.Gateway) e = refl
inside test is (places.Enter v (through.Peering x)) e = refl
inside test is (places.Enter v (through.Far k)) e = none test (places.Enter v (through.Far k)) (is.door v k) e
inside test is (places.Into i) e = refl
inside test is (places.IgwOut v) e = refl
inside test is places.Internet e = refl
inside test is (places.IgwIn v) e = refl
inside test is (places.NatOut n) e = refl
inside test is (places.NatIn n) e = refl
inside test is (places.Peer x v) e = refl
inside test is (places.Tgw a s) e = refl
inside test is (places.TgwLeave a s) e = refl
inside test is (places.FarOut k) e = none test (places.FarOut k) (is.out k) e
inside test is (places.FarIn k) e = none test (places.FarIn k) (is.into k) e
inside test is (places.Inspect f) e = refl

leads-inside : (p : Place) → IsInward (may_follow p) → (x : Next) → following.Leads true p x → LeadsTo is_inside x
leads-inside p is (go q k) way = inside (may_follow p) is q way.0
leads-inside p is (arrive end) way = tt
leads-inside p is (stop s) way = tt

unless-inside : (o : Option Stop) (x : Next) → LeadsTo is_inside x → LeadsTo is_inside (unless_stopped o x)
unless-inside None x on = on
unless-inside (Some s) x on = tt

either : (b : Bool) (x y : Next) → LeadsTo is_inside x → LeadsTo is_inside y → LeadsTo is_inside (cond b x y)
either b x y one two = cond_both b x y (LeadsTo is_inside) (λ _. one) (λ _. two)

-- ---- steps

record IsUnknownNext (x : Next) : Type 0 where
  foreign : Foreign
  stops_there : x ≡ stop (stops.Unmodelled foreign)

-- what comes next isn't known of the second, or it is the same, inside
abbrev Or : Next → Next → Type 0
Or x y = IsUnknownNext y ⊎ ((x ≡ y) × LeadsTo is_inside y)

abbrev StepOr : Step → Step → Type 0
StepOr s t = IsUnknownNext t.next ⊎ ((s ≡ t) × LeadsTo is_inside t.next)

unknown : (x y : Next) (f : Foreign) → y ≡ stop (stops.Unmodelled f) → Or x y
unknown x y f is = inl (record { foreign = f; stops_there = is })

same : (x : Next) → LeadsTo is_inside x → Or x x
same x on = inr (refl, on)

either-or : (b : Bool) (w x y : Next) → LeadsTo is_inside w → Or x y → Or (cond b w x) (cond b w y)
either-or true w x y on or = same w on
either-or false w x y on or = or

plain-or : (m : Moment) (x y : Next) → Or x y → StepOr (plain m x) (plain m y)
plain-or m x y (inl u) = inl u
plain-or m x y (inr p) = inr (ap (plain m) p.0, p.1)

abbrev moment : Place → Header → List Connection → List Translation → Moment
moment p h conns nats = record { place = p; header = h; conns = conns; nats = nats }

module _ (d : Description) (once : TellsOnce d) where
  abbrev e : Description
  e = without_networks d

  -- ---- routers

  module _ (s : SubnetNo) (h : Header) where
    deliver-inside : (i : EniNo) (n : Option NatNo) → LeadsTo is_inside (deliver_by d i h n)
    deliver-inside i None = let row = interface_at d i in either (is_gateway row.kind) (stop (stops.NotAHost i)) (go (places.Into i) h) tt refl
    deliver-inside i (Some n) = refl

    to_host-inside : (i : Option EniNo) → LeadsTo is_inside (to_host d s h i)
    to_host-inside None = tt
    to_host-inside (Some i) = unless-inside (crossing d s (subnet_of d i) h) (deliver_by d i h (nat_of d i)) (deliver-inside i (nat_of d i))

    to_internet-inside : (g : IgwNo) → LeadsTo is_inside (to_internet d s h g)
    to_internet-inside g =
        let v = vpc_of_subnet d s in
        either (is_attached g (gateway_of d v)) (unless_stopped (leaving d s h) (go (places.IgwOut v) h)) (stop (stops.GatewayDetached g))
        (unless-inside (leaving d s h) (go (places.IgwOut v) h) refl) tt

    to_nat-inside : (n : NatNo) (life : NatLife) → LeadsTo is_inside (to_nat d s h n life)
    to_nat-inside n lives.Gone = tt
    to_nat-inside n lives.Unmodelled = tt
    to_nat-inside n (lives.Live subnet eni address) = unless-inside (crossing d s (subnet_no d subnet) h) (go (places.NatOut n) h) refl

    to_peer-or : (x : PeerNo) (pair : Option (List ℕ × List ℕ)) → Or (to_peer d s h x pair) (to_peer e s h x pair)
    to_peer-or x None = same (stop (stops.PeerNotActive x)) tt
    to_peer-or x (Some pair) =
        let v = vpc_of_subnet d s in
        let row = vpc_at d v in
        let peering = peering_at d x in
        either-or (has_vpc d (other_side row.id pair)) (unless_stopped (leaving d s h) (go (places.Peer x v) h))
        (to_half_peering d s h x (far_end_of_id d peering.id)) (stop (stops.Unmodelled (foreign.Peering x)))
        (unless-inside (leaving d s h) (go (places.Peer x v) h) refl)
        (unknown (to_half_peering d s h x (far_end_of_id d peering.id)) (stop (stops.Unmodelled (foreign.Peering x))) (foreign.Peering x) refl)

    to_zone-inside : (a : AttNo) (t : Option SubnetNo) → LeadsTo is_inside (to_zone d s h a t)
    to_zone-inside a None = tt
    to_zone-inside a (Some t) = unless-inside (or_else (leaving d s h) (entering d t h)) (go (places.Tgw a t) h) refl

    to_transit-inside : (t : TableNo) (k : ℕ) (a : Option AttNo) → LeadsTo is_inside (to_transit d s h t k a)
    to_transit-inside t k None = tt
    to_transit-inside t k (Some a) = to_zone-inside a (zone_subnet d a s)

    to_interface-inside : (j : EniNo) → LeadsTo is_inside (to_interface d s h j)
    to_interface-inside j =
        let row = interface_at d j in
        unless-inside (crossing d s (subnet_of d j) h) (cond (is_gateway row.kind) (stop (stops.NotAHost j)) (go (places.Into j) h))
        (either (is_gateway row.kind) (stop (stops.NotAHost j)) (go (places.Into j) h) tt refl)

    to_firewall-inside : (t : TableNo) (k : ℕ) (f : Option FirewallNo) → LeadsTo is_inside (to_firewall d s h t k f)
    to_firewall-inside t k None = tt
    to_firewall-inside t k (Some f) = unless-inside (crossing d s (firewall_subnet d f) h) (go (places.Inspect f) h) refl

    -- what no firewall endpoint has
    firewall-none : (id : List ℕ) → firewall_of_id d id ≡ None → firewall_of d (vpc_of_subnet d s) id ≡ None
    firewall-none id is = ap (λ (o : Option FirewallNo). option_and_then (λ (f : FirewallNo). cond (is_firewall_in d (vpc_of_subnet d s) f) (Some f) None) o) is

    to_other-or : (t : TableNo) (k : ℕ) (id : List ℕ) (far : Option FarNo) → far_of_id d id ≡ far → Or (to_other d s h t k id far) (to_other e s h t k id None)
    to_other-or t k id None is =
        let f = firewall_of d (vpc_of_subnet d s) id in
        same (to_firewall d s h t k f) (to_firewall-inside t k f)
    to_other-or t k id (Some far) is =
        unknown (to_other d s h t k id (Some far)) (to_other e s h t k id None) (foreign.Target t k)
        (ap (to_firewall d s h t k) (firewall-none id (once.firewalls id far is)))

    to_target-or : (t : TableNo) (k : ℕ) (target : Target) → Or (to_target d s h t k target) (to_target e s h t k target)
    to_target-or t k targets.Local =
        let i = host_of d (vpc_of_subnet d s) h.dst in
        same (to_host d s h i) (to_host-inside i)
    to_target-or t k (targets.Internet id) = let g = igw_no d id in same (to_internet d s h g) (to_internet-inside g)
    to_target-or t k (targets.Nat id) = let n = nat_no d id in let row = nat_at d n in same (to_nat d s h n row.life) (to_nat-inside n row.life)
    to_target-or t k (targets.Peer id) = let x = peer_no d id in let row = peering_at d x in to_peer-or x row.pair
    to_target-or t k (targets.Transit id) = let a = attachment_for d id s in same (to_transit d s h t k a) (to_transit-inside t k a)
    to_target-or t k (targets.Interface id) = let j = eni_no d id in same (to_interface d s h j) (to_interface-inside j)
    to_target-or t k (targets.Other id) = to_other-or t k id (far_of_id d id) refl

    by_route-or : (t : TableNo) (k : Option ℕ) → Or (by_route d s h t k) (by_route e s h t k)
    by_route-or t None = same (stop (stops.NoRoute t)) tt
    by_route-or t (Some k) =
        let table = table_at d t in
        let r = slice_index_or table.routes k no_route in
        either-or r.blackhole (stop (stops.Blackhole t k)) (to_target d s h t k r.target) (to_target e s h t k r.target) tt (to_target-or t k r.target)

  -- ---- transit gateways

  module _ (entered : Option SubnetNo) (h : Header) (t : TgwTableNo) where
    to_first-inside : (a : AttNo) (s : Option SubnetNo) → LeadsTo is_inside (to_first h a s)
    to_first-inside a None = tt
    to_first-inside a (Some s) = refl

    to_leave-inside : (a : AttNo) (s : Option SubnetNo) → LeadsTo is_inside (to_leave d h a s)
    to_leave-inside a None = let row = attachment_at d a in to_first-inside a (first_described d row.subnets)
    to_leave-inside a (Some s) = refl

    to_attachment-inside : (k : ℕ) (a : Option AttNo) → LeadsTo is_inside (to_attachment d entered h t k a)
    to_attachment-inside k None = tt
    to_attachment-inside k (Some a) = to_leave-inside a entered

    to_attached-or : (k : ℕ) (id : List ℕ) (far : Option FarNo) → far_end_of_id d id ≡ far → Or (to_attached d entered h t k id far) (to_attached e entered h t k id None)
    to_attached-or k id None is =
        let a = attachment_of_id d id in
        same (to_attachment d entered h t k a) (to_attachment-inside k a)
    to_attached-or k id (Some far) is =
        unknown (to_attached d entered h t k id (Some far)) (to_attached e entered h t k id None) (foreign.FarAttachment t k)
        (ap (to_attachment d entered h t k) (once.attachments id far is))

    by_attachment-or : (k : ℕ) (id : Option (List ℕ)) → Or (by_attachment d entered h t k id) (by_attachment e entered h t k id)
    by_attachment-or k None = same (stop (stops.Unmodelled (foreign.Table t))) tt
    by_attachment-or k (Some id) = to_attached-or k id (far_end_of_id d id) refl

    by_tgw_route-or : (k : Option ℕ) → Or (by_tgw_route d entered h t k) (by_tgw_route e entered h t k)
    by_tgw_route-or None = same (stop (stops.TgwNoRoute t)) tt
    by_tgw_route-or (Some k) =
        let table = tgw_table_at d t in
        let r = slice_index_or table.routes k no_tgw_route in
        either-or r.blackhole (stop (stops.TgwBlackhole t k)) (by_attachment d entered h t k r.attachment) (by_attachment e entered h t k r.attachment) tt
        (by_attachment-or k r.attachment)

  by_tgw_table-or : (a : AttNo) (entered : SubnetNo) (h : Header) (t : Option TgwTableNo) → Or (by_tgw_table d a entered h t) (by_tgw_table e a entered h t)
  by_tgw_table-or a entered h None = same (stop (stops.TgwNoTable a)) tt
  by_tgw_table-or a entered h (Some t) = let table = tgw_table_at d t in by_tgw_route-or (Some entered) h t (chosen_tgw_route table.routes h.dst)

  -- ---- all places inside

  module _ (appliances : Appliances) (label : Label) where
    -- a step that asks for none of them
    alike : (p : Place) (m : Moment) → IsInward (may_follow p) → step_at d appliances label p m ≡ step_at e appliances label p m
        → StepOr (step_at d appliances label p m) (step_at e appliances label p m)
    alike p m is one = let t = step_at e appliances label p m in inr (one, leads-inside p is t.next (step_at-leads e true (inl refl) appliances label p m))

    step_at-or : (p : Place) (m : Moment) → is_inside p ≡ true → StepOr (step_at d appliances label p m) (step_at e appliances label p m)
    step_at-or (places.OutOf i) m here = alike (places.OutOf i) m (record { out = λ k. refl; into = λ k. refl; door = λ v k. refl }) refl
    step_at-or (places.Router s came) m here =
        let t = table_of d s in
        let table = table_at d t in
        let k = chosen_route d table.routes m.header.dst in
        plain-or m (by_route d s m.header t k) (by_route e s m.header t k) (by_route-or s m.header t k)
    step_at-or (places.Enter v through.Gateway) m here = alike (places.Enter v through.Gateway) m (record { out = λ k. refl; into = λ k. refl; door = λ v k. refl }) refl
    step_at-or (places.Enter v (through.Peering x)) m here = alike (places.Enter v (through.Peering x)) m (record { out = λ k. refl; into = λ k. refl; door = λ v k. refl }) refl
    step_at-or (places.Enter v (through.Far k)) m here = absurd (false≢true here)
    step_at-or (places.Into i) m here = alike (places.Into i) m (record { out = λ k. refl; into = λ k. refl; door = λ v k. refl }) refl
    step_at-or (places.IgwOut v) m here = alike (places.IgwOut v) m (record { out = λ k. refl; into = λ k. refl; door = λ v k. refl }) refl
    step_at-or places.Internet m here = alike places.Internet m (record { out = λ k. refl; into = λ k. refl; door = λ v k. refl }) refl
    step_at-or (places.IgwIn v) m here = alike (places.IgwIn v) m (record { out = λ k. refl; into = λ k. refl; door = λ v k. refl }) refl
    step_at-or (places.NatOut n) m here = alike (places.NatOut n) m (record { out = λ k. refl; into = λ k. refl; door = λ v k. refl }) refl
    step_at-or (places.NatIn n) m here = alike (places.NatIn n) m (record { out = λ k. refl; into = λ k. refl; door = λ v k. refl }) refl
    step_at-or (places.Peer x v) m here = alike (places.Peer x v) m (record { out = λ k. refl; into = λ k. refl; door = λ v k. refl }) refl
    step_at-or (places.Tgw a s) m here =
        let t = table_of_attachment d a in
        plain-or m (by_tgw_table d a s m.header t) (by_tgw_table e a s m.header t) (by_tgw_table-or a s m.header t)
    step_at-or (places.TgwLeave a s) m here = alike (places.TgwLeave a s) m (record { out = λ k. refl; into = λ k. refl; door = λ v k. refl }) refl
    step_at-or (places.FarOut k) m here = absurd (false≢true here)
    step_at-or (places.FarIn k) m here = absurd (false≢true here)
    step_at-or (places.Inspect f) m here = alike (places.Inspect f) m (record { out = λ k. refl; into = λ k. refl; door = λ v k. refl }) refl

    -- ---- walks

    abbrev on : Description → ℕ → List Hop → Place → Header → Step → Walk
    on x n hops p k s = walk_on x appliances label n (hops ++ record { place = p; header = k; by = s.by } ∷ []) k s.next s.conns s.nats

    -- the second stops where it isn't known, or they are one
    abbrev WalkOr : Walk → Walk → Type 0
    WalkOr v w = ((f : Foreign) × (w.outcome ≡ outcomes.Stopped (stops.Unmodelled f))) ⊎ (v ≡ w)

    by-cond : (b : Bool) (x v w : Walk) → WalkOr v w → WalkOr (cond b x v) (cond b x w)
    by-cond true x v w or = inr refl
    by-cond false x v w or = or

    begins : (u v w : Walk) → u ≡ v → WalkOr v w → WalkOr u w
    begins u v w is (inl stopped) = inl stopped
    begins u v w is (inr one) = inr (is ∙ one)

    unknown-on : (n : ℕ) (hops : List Hop) (p : Place) (k : Header) (t : Step) → IsUnknownNext t.next
        → (f : Foreign) × (let w = on e n hops p k t in w.outcome ≡ outcomes.Stopped (stops.Unmodelled f))
    unknown-on n hops p k t u =
        (u.foreign, ap (λ (x : Next). (walk_on e appliances label n (hops ++ record { place = p; header = k; by = t.by } ∷ []) k x t.conns t.nats).outcome) u.stops_there)

    walk_on-or : (n : ℕ) (hops : List Hop) (h : Header) (x : Next) (conns : List Connection) (nats : List Translation) → LeadsTo is_inside x
        → WalkOr (walk_on d appliances label n hops h x conns nats) (walk_on e appliances label n hops h x conns nats)
    walk_on-or n hops h (arrive end) conns nats leads = inr refl
    walk_on-or n hops h (stop s) conns nats leads = inr refl
    walk_on-or zero hops h (go p k) conns nats leads = inr refl
    walk_on-or (suc n) hops h (go p k) conns nats leads =
        let m = moment p k conns nats in
        let s = step_of d appliances label m in
        let t = step_of e appliances label m in
        by-cond (is_visited hops p) (ended hops (outcomes.Stopped (stops.Loop p)) conns nats) (on d n hops p k s) (on e n hops p k t)
        (elim (step_at-or p m leads) [
          | inl u ↦ inl (unknown-on n hops p k t u)
          | inr one ↦
              begins (on d n hops p k s) (on d n hops p k t) (on e n hops p k t) (ap (on d n hops p k) one.0)
              (walk_on-or n (hops ++ record { place = p; header = k; by = t.by } ∷ []) k t.next t.conns t.nats one.1)
        ])

    walk_of-or : (m : Moment) → is_inside m.place ≡ true → WalkOr (walk_of d appliances label m) (walk_of e appliances label m)
    walk_of-or m here =
        let s = step_of d appliances label m in
        let t = step_of e appliances label m in
        elim (step_at-or m.place m here) [
          | inl u ↦ inl (unknown-on 63 [] m.place m.header t u)
          | inr one ↦
              begins (on d 63 [] m.place m.header s) (on d 63 [] m.place m.header t) (on e 63 [] m.place m.header t) (ap (on d 63 [] m.place m.header) one.0)
              (walk_on-or 63 (record { place = m.place; header = m.header; by = t.by } ∷ []) m.header t.next t.conns t.nats one.1)
        ]

  -- ---- verdicts

  start-inside : (end : End) → is_other_end end ≡ true → is_inside (start_of end) ≡ true
  start-inside (ends.Interface i) other = refl
  start-inside ends.Internet other = refl
  start-inside (ends.Far k) other = absurd (false≢true other)

  module _ (appliances : Appliances) (start goal : End) (h : Header) (from : is_other_end start ≡ true) (to : is_other_end goal ≡ true) where
    abbrev VerdictOr : Verdict → Verdict → Type 0
    VerdictOr v w = IsUnknown w ⊎ (v ≡ w)

    by-end : (b : Bool) (x v w : Verdict) → VerdictOr v w → VerdictOr (cond b v x) (cond b w x)
    by-end true x v w or = or
    by-end false x v w or = inr refl

    arrival-or : (request : Walk) (r : Option Header)
        → VerdictOr (verdict_of_arrival d appliances (alone start) goal h request r) (verdict_of_arrival e appliances (alone start) goal h request r)
    arrival-or request None = inr refl
    arrival-or request (Some r) =
        elim (walk_of-or appliances labels.Answer (moment (start_of goal) r request.conns request.nats) (start-inside goal to)) [
          | inl u ↦ inl (record { phase = phases.Reply; foreign = u.0; stops_there = ap (verdict_of_reply (alone start) h) u.1 })
          | inr one ↦ inr (ap (λ (w : Walk). verdict_of_reply (alone start) h w.outcome) one)
        ]

    request-or : (request : Walk) (o : Outcome)
        → VerdictOr (verdict_of_request d appliances (alone start) goal h request o) (verdict_of_request e appliances (alone start) goal h request o)
    request-or request (outcomes.Stopped s) = inr refl
    request-or request (outcomes.Arrived end k) =
        by-end (same_end end goal) (verdicts.Stopped phases.Request (stops.WrongPlace end)) (verdict_of_arrival d appliances (alone start) goal h request (reply_of k))
        (verdict_of_arrival e appliances (alone start) goal h request (reply_of k)) (arrival-or request (reply_of k))

    pub differs-where-unknown : VerdictOr (verdict_of d appliances start goal h) (verdict_of e appliances start goal h)
    differs-where-unknown =
        let m = moment (start_of start) h [] [] in
        let v = walk_of d appliances labels.Opening m in
        let w = walk_of e appliances labels.Opening m in
        elim (walk_of-or appliances labels.Opening m (start-inside start from)) [
          | inl u ↦ inl (record { phase = phases.Request; foreign = u.0; stops_there = ap (verdict_of_request e appliances (alone start) goal h w) u.1 })
          | inr one ↦
              subst (λ (x : Walk). VerdictOr (verdict_of_request d appliances (alone start) goal h v v.outcome) (verdict_of_request e appliances (alone start) goal h x x.outcome)) one
              (request-or v v.outcome)
        ]

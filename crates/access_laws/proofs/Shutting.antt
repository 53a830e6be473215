-- What internet gateways do with packets of a VPC whose subnets all have one mode.
use Rattle.std.proofs.Common.{Bool, None, Option, Some, ap, cond, false, find, is_none, is_some, option_and_then, option_map, refl, slice_index_or, subst, sym, true, ℕ, ◌==◌, ◌||◌, ◌∙◌, ◌≡◌, ◌⊎◌, inl, inr}
use Rattle.std.proofs.lemmas.Bool.{true≢false}
use Rattle.vpc_base.proofs.Lemmas.{cond_both, eq-eqb, eqb-true, find-member}
use Rattle.vpc_base.proofs.Members.{find-None}
use Rattle.vpc_laws.specs.Types.{Access, Description, EniNo, FirewallNo, Header, Label, NatNo, Place, Stop, TableNo, Target, VpcNo}
use Rattle.vpc_model.specs.Accepted.{IsAccepted}
use Rattle.vpc_model.specs.Firewalls.{entrance_table, firewall_of}
use Rattle.vpc_model.specs.Step.Enter.{enter_by_route, enter_by_table, enter_firewall, enter_interface, enter_target}
use Rattle.vpc_model.specs.Step.Inspect.{firewall_subnet}
use Rattle.vpc_model.specs.Terms.{Appliances, Moment, Next, access_of, attached_gateway, blocked, blocked_at, chosen_route, deliver, deliver_by, eni_no, enter_host, entering, gateway_of, go, go_private, go_public, host_of, interface_at, is_gateway, is_in_vpc, is_unroutable, nat_of, no_route, owner_of, pairs_in, plain, private_of, step_at, stop, stops_at, subnet_of, table_at, to_owner, unless_stopped}
use Rattle.vpc_model.specs.declared.places.EnterBy.TheVariants as through
use Rattle.vpc_model.specs.declared.places.Place.TheVariants as places
use Rattle.vpc_model.specs.declared.rows.Access.TheVariants as modes
use Rattle.vpc_model.specs.declared.rows.Target.TheVariants as targets
use Rattle.vpc_model.specs.declared.stops.Foreign.TheVariants as foreign
use Rattle.vpc_model.specs.declared.stops.Stop.TheVariants as stops
use Rattle.access_laws.proofs.Owning.{IsHost, host-of_pair, owner-pair, pairs_in-member}
use Rattle.access_laws.specs.Shut.{Ends, HaveMode, IsDiverted, IsSent, is_middlebox}

-- ---- what blocks an interface

-- the mode of an interface's subnet
mode-of : (d : Description) (v : VpcNo) (mode : Access) (i : EniNo) → HaveMode d v mode → is_in_vpc d v (interface_at d i) ≡ true → access_of d (subnet_of d i) ≡ mode
mode-of d v mode i have inside = have (subnet_of d i) inside

blocked-by : (d : Description) (v : VpcNo) (mode : Access) (i : EniNo) → HaveMode d v mode → is_in_vpc d v (interface_at d i) ≡ true
    → blocked d i ≡ cond (stops_at mode (is_some (nat_of d i))) (Some (stops.BlockPublicAccess (subnet_of d i))) None
blocked-by d v mode i have inside =
    ap (λ (m : Access). cond (stops_at m (is_some (nat_of d i))) (Some (stops.BlockPublicAccess (subnet_of d i))) None) (mode-of d v mode i have inside)

blocked-at : (d : Description) (v : VpcNo) (mode : Access) (own : ℕ) (h : IsHost d v own) → HaveMode d v mode
    → blocked_at d v own ≡ cond (stops_at mode (is_some (nat_of d h.host))) (Some (stops.BlockPublicAccess (subnet_of d h.host))) None
blocked-at d v mode own h have = ap (option_and_then (blocked d)) h.found ∙ blocked-by d v mode h.host have h.inside

-- ---- in neither direction

shut : (d : Description) (v : VpcNo) (own : ℕ) (next : Next) → IsHost d v own → HaveMode d v modes.BlockBidirectional → Ends (unless_stopped (blocked_at d v own) next)
shut d v own next h have =
    record {
      by = stops.BlockPublicAccess (subnet_of d h.host);
      stops_there = ap (λ (s : Option Stop). unless_stopped s next) (blocked-at d v modes.BlockBidirectional own h have);
    }

pub nothing-leaves : (d : Description) (v : VpcNo) (h : Header) (o : Option (ℕ × ℕ)) → HaveMode d v modes.BlockBidirectional
    → find (λ p. p.0 == h.src) (pairs_in d v) ≡ o → Ends (go_public d v h (option_map (λ p. p.1) o))
nothing-leaves d v h None have e = record { by = stops.NoPublic (attached_gateway d v); stops_there = refl }
nothing-leaves d v h (Some p) have e =
    let found = find-member (λ (p : ℕ × ℕ). p.0 == h.src) (pairs_in d v) p e in
    let host = subst (IsHost d v) (eqb-true p.0 h.src found.0) (host-of_pair d v p.0 p.1 (pairs_in-member d v p found.1)) in
    shut d v h.src (go places.Internet (record h { src = p.1 })) host have

-- what the internet sends goes to the owner of the destination
sent-by : (d : Description) (h k : Header) (v : VpcNo) (o : Option VpcNo) → to_owner d h o ≡ go (places.IgwIn v) k → (o ≡ Some v) × (h ≡ k)
sent-by d h k v None e = absurd cc
sent-by d h k v (Some w) e = by (is_none (gateway_of d w)) e
  where
    by : (b : Bool) → cond b (stop (stops.NoGateway w)) (go (places.IgwIn w) h) ≡ go (places.IgwIn v) k → (Some w ≡ Some v) × (h ≡ k)
    by true f = absurd cc
    by false f = (ap (λ (n : Next). owner n) f, ap (λ (n : Next). header n) f)
      where
        owner-at : Place → Option VpcNo
        owner-at (places.IgwIn x) = Some x
        owner-at _ = None

        owner : Next → Option VpcNo
        owner (go p l) = owner-at p
        owner _ = None

        header : Next → Header
        header (go p l) = l
        header _ = h

pub sent-on : (d : Description) (h k : Header) (v : VpcNo) (b : Bool) → cond b (stop stops.PrivateAddress) (to_owner d h (owner_of d h.dst)) ≡ go (places.IgwIn v) k
    → (owner_of d k.dst ≡ Some v)
sent-on d h k v true e = absurd cc
sent-on d h k v false e = let is = sent-by d h k v (owner_of d h.dst) e in subst (λ (l : Header). owner_of d l.dst ≡ Some v) is.1 is.0

-- the owner of the destination has an interface for it
pub record IsOwned (d : Description) (v : VpcNo) (public : ℕ) : Type 0 where
  pub own : ℕ
  pub is : private_of d v public ≡ Some own
  pub host : IsHost d v own

pub owned-by : (d : Description) (v : VpcNo) (public : ℕ) → IsAccepted d → owner_of d public ≡ Some v → IsOwned d v public
owned-by d v public accepted owned = by (find (λ (p : ℕ × ℕ). p.1 == public) (pairs_in d v)) refl
  where
    by : (o : Option (ℕ × ℕ)) → find (λ (p : ℕ × ℕ). p.1 == public) (pairs_in d v) ≡ o → IsOwned d v public
    by None e =
        let pair = owner-pair d v public accepted owned in
        let missed : (public == public) ≡ false = find-None (λ (p : ℕ × ℕ). p.1 == public) (pairs_in d v) (pair.0, public) e pair.1 in
        absurd (true≢false (sym (eq-eqb public public refl) ∙ missed))
    by (Some p) e =
        let found = find-member (λ (p : ℕ × ℕ). p.1 == public) (pairs_in d v) p e in
        record { own = p.0; is = ap (option_map (λ (p : ℕ × ℕ). p.0)) e; host = host-of_pair d v p.0 p.1 (pairs_in-member d v p found.1) }

pub nothing-enters : (d : Description) (v : VpcNo) (h : Header) → HaveMode d v modes.BlockBidirectional → IsOwned d v h.dst → Ends (go_private d v h (private_of d v h.dst))
nothing-enters d v h have owned =
    subst (λ (o : Option ℕ). Ends (go_private d v h o)) (sym owned.is)
    (shut d v owned.own (go (places.Enter v through.Gateway) (record h { dst = owned.own })) owned.host have)

-- ---- outward alone

-- where an open is handed to that comes in
abbrev pub IsHandedOver : NatNo → Header → Next → Type 0
IsHandedOver n h x = x ≡ go (places.NatIn n) h

passes : (d : Description) (v : VpcNo) (h k : Header) (own : ℕ) (host : IsHost d v own) → HaveMode d v modes.BlockIngress
    → unless_stopped (blocked_at d v own) (go (places.Enter v through.Gateway) (record h { dst = own })) ≡ go (places.Enter v through.Gateway) k
    → (n : NatNo) × (nat_of d host.host ≡ Some n) × (k.dst ≡ own)
passes d v h k own host have e =
    by (nat_of d host.host) refl (sym (ap (λ (s : Option Stop). unless_stopped s (go (places.Enter v through.Gateway) (record h { dst = own }))) (blocked-at d v modes.BlockIngress own host have)) ∙ e)
  where
    by : (o : Option NatNo) → nat_of d host.host ≡ o
        → unless_stopped (cond (stops_at modes.BlockIngress (is_some (nat_of d host.host))) (Some (stops.BlockPublicAccess (subnet_of d host.host))) None) (go (places.Enter v through.Gateway) (record h { dst = own })) ≡ go (places.Enter v through.Gateway) k
        → (n : NatNo) × (nat_of d host.host ≡ Some n) × (k.dst ≡ own)
    by None is f = let shut = rw is at f in absurd cc
    by (Some n) is f = let open_way = rw is at f in (n, is, sym (ap (λ (x : Next). destination x) open_way))
      where
        destination : Next → ℕ
        destination (go p l) = l.dst
        destination _ = own

-- an open that came in by the gateway is stopped, handed over, or sent through a middlebox
abbrev pub IsHandled : Description → VpcNo → Header → Next → Type 0
IsHandled d v h x = Ends x ⊎ (((n : NatNo) × IsHandedOver n h x) ⊎ IsDiverted d v h x)

-- to whom the destination belongs
to-host : (d : Description) (v : VpcNo) (h k : Header) → HaveMode d v modes.BlockIngress → IsOwned d v h.dst
    → go_private d v h (private_of d v h.dst) ≡ go (places.Enter v through.Gateway) k
    → IsHandled d v k (enter_host d v k (host_of d v k.dst))
to-host d v h k have owned e =
    let own = owned.own in
    let host = owned.host in
    let i = host.host in
    let passed = passes d v h k own host have (sym (ap (go_private d v h) owned.is) ∙ e) in
    let there : host_of d v k.dst ≡ Some i = ap (host_of d v) passed.2 ∙ host.found in
    subst (λ (o : Option EniNo). IsHandled d v k (enter_host d v k o)) (sym there) (by (entering d (subnet_of d i) k) passed.0 passed.1)
  where
    by : (s : Option Stop) (n : NatNo) → nat_of d owned.host.host ≡ Some n → IsHandled d v k (unless_stopped s (deliver d owned.host.host k))
    by (Some s) n is = inl (record { by = s; stops_there = refl })
    by None n is = inr (inl (n, ap (deliver_by d owned.host.host k) is))

module _ (d : Description) (v : VpcNo) (h : Header) where
  abbrev Handled : Next → Type 0
  Handled x = IsHandled d v h x

  stopped : (s : Stop) → Handled (stop s)
  stopped s = inl (record { by = s; stops_there = refl })

  unless-handled : (s : Option Stop) (x : Next) → Handled x → Handled (unless_stopped s x)
  unless-handled None x handled = handled
  unless-handled (Some s) x handled = stopped s

  module _ (t : TableNo) (of_gateway : entrance_table d v through.Gateway ≡ Some t) (local : Handled (enter_host d v h (host_of d v h.dst))) where
    diverted : (box : Place) → is_middlebox box ≡ true → Handled (go box h)
    diverted box is = inr (inr (record { table = t; box = box; of_gateway = of_gateway; is_box = is; sends = refl }))

    to-interface : (j : EniNo) → Handled (enter_interface d h j)
    to-interface j =
        let e = interface_at d j in
        let next = cond (is_gateway e.kind) (stop (stops.NotAHost j)) (go (places.Into j) h) in
        unless-handled (entering d (subnet_of d j) h) next
        (cond_both (is_gateway e.kind) (stop (stops.NotAHost j)) (go (places.Into j) h) Handled (λ _. stopped (stops.NotAHost j)) (λ _. diverted (places.Into j) refl))

    to-firewall : (k : ℕ) (e : Option FirewallNo) → Handled (enter_firewall d h t k e)
    to-firewall k None = stopped (stops.Unmodelled (foreign.Target t k))
    to-firewall k (Some e) = unless-handled (entering d (firewall_subnet d e) h) (go (places.Inspect e) h) (diverted (places.Inspect e) refl)

    by-target : (k : ℕ) (target : Target) → Handled (enter_target d v h t k target)
    by-target k targets.Local = local
    by-target k (targets.Interface id) = to-interface (eni_no d id)
    by-target k (targets.Other id) = to-firewall k (firewall_of d v id)
    by-target k (targets.Internet id) = stopped (stops.Unmodelled (foreign.Target t k))
    by-target k (targets.Nat id) = stopped (stops.Unmodelled (foreign.Target t k))
    by-target k (targets.Transit id) = stopped (stops.Unmodelled (foreign.Target t k))
    by-target k (targets.Peer id) = stopped (stops.Unmodelled (foreign.Target t k))

    by-route : (k : Option ℕ) → Handled (enter_by_route d v h t k)
    by-route None = stopped (stops.NoRoute t)
    by-route (Some k) =
        let table = table_at d t in
        let r = slice_index_or table.routes k no_route in
        cond_both r.blackhole (stop (stops.Blackhole t k)) (enter_target d v h t k r.target) Handled (λ _. stopped (stops.Blackhole t k)) (λ _. by-target k r.target)

  by-table : (t : Option TableNo) → entrance_table d v through.Gateway ≡ t → Handled (enter_host d v h (host_of d v h.dst)) → Handled (enter_by_table d v h t)
  by-table None of_gateway local = local
  by-table (Some t) of_gateway local = let table = table_at d t in by-route t of_gateway local (chosen_route d table.routes h.dst)

pub handed-over : (d : Description) (v : VpcNo) (h k : Header) → HaveMode d v modes.BlockIngress → IsOwned d v h.dst
    → go_private d v h (private_of d v h.dst) ≡ go (places.Enter v through.Gateway) k
    → IsHandled d v k (enter_by_table d v k (entrance_table d v through.Gateway))
handed-over d v h k have owned e = by-table d v k (entrance_table d v through.Gateway) refl (to-host d v h k have owned e)

-- ---- what the internet sends

abbrev step-next : Description → Moment → Bool → Next
step-next d m b = cond b (stop stops.PrivateAddress) (to_owner d m.header (owner_of d m.header.dst))

next-of : (d : Description) (m : Moment) (b : Bool) → (cond b (plain m (stop stops.PrivateAddress)) (plain m (to_owner d m.header (owner_of d m.header.dst)))).next ≡ step-next d m b
next-of d m true = refl
next-of d m false = refl

pub came-owned : (d : Description) (appliances : Appliances) (label : Label) (v : VpcNo) (sent came : Moment) → IsAccepted d → IsSent d appliances label v sent came → IsOwned d v came.header.dst
came-owned d appliances label v sent came accepted is =
    let h = sent.header in
    let b = is_unroutable h.src || is_unroutable h.dst in
    let next = sym (next-of d sent b) ∙ sym (ap (λ (p : Place). (step_at d appliances label p sent).next) is.from) ∙ is.next in
    owned-by d v came.header.dst accepted (sent-on d h came.header v b next)

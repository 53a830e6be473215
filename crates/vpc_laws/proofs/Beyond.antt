-- Networks that aren't described and firewall endpoints stand in walks where they may, and nowhere if no row tells of them.
use Rattle.std.proofs.Common.{Bool, List, None, Option, Some, [], ap, arith, drop, false, inl, inr, length, map, not, option_and_then, option_map, bytes_eq, cond, position, refl, subst, sym, take, true, ℕ, ◌&&◌, ◌-◌, ◌∙◌, ◌∷◌, ◌≡◌}
use Rattle.std.specs.List.{AllByRecursion}
use Rattle.vpc_base.proofs.Lemmas.{both_ways, cond_both, false≢true, position-nowhere}
use Rattle.std.proofs.lemmas.Bool.{not-true}
use Rattle.vpc_base.proofs.Members.{list_any-none}
use Rattle.vpc_base.specs.declared.headers.Dir.TheVariants.{Inward}
use Rattle.vpc_base.specs.declared.headers.Label.TheVariants.{Opening}
use Rattle.vpc_laws.proofs.Flow.{taken_by}
use Rattle.vpc_laws.proofs.Following.{Leads, step_at-leads}
use Rattle.vpc_laws.proofs.Gateways.{at-place}
use Rattle.vpc_laws.proofs.Stepping.{walks_are_of_steps}
use Rattle.vpc_laws.specs.Outside.{EndsAt, IsWithoutThem, LeadsTo, OpensStayInside, TellsNothingBeyond, is_behind_network, is_beyond, is_far_in, is_far_out, may_follow}
use Rattle.vpc_laws.specs.Terms.{Follows, IsNext, hop_of}
use Rattle.vpc_laws.specs.Types.{Block, Box5, By, Description, EniNo, Far, FarKind, FarNo, FirewallEndpoint, FirewallNo, Header, Hop, Label, PeerNo, Place, RouteTable, TableNo, VpcNo}
use Rattle.vpc_model.specs.Far.{blocks_beyond, far_end_of_id, far_of_id, is_far_end, is_within, peering_to, vpc_beside}
use Rattle.vpc_model.specs.Firewalls.{edge_table, entrance, firewall_of, is_firewall_in}
use Rattle.vpc_model.specs.Lookup.{far_at}
use Rattle.vpc_model.specs.Step.Far.{out_by, over_half_peering, to_service}
use Rattle.vpc_model.specs.Step.Router.{to_firewall, to_half_peering, to_other}
use Rattle.vpc_model.specs.Step.Transit.{to_attached}
use Rattle.vpc_model.specs.Terms.{Appliances, Connection, Moment, Next, Step, arrive, boxes_at, go, has_address, has_block, in_passing, interface_at, is_listed, passing_of, peering_at, step_into, step_of, stop, vpc_of_subnet, walk_of}
use Rattle.vpc_model.specs.declared.places.End.TheVariants as ends
use Rattle.vpc_model.specs.declared.places.Place.TheVariants as places
use Rattle.vpc_model.specs.declared.rows.FarKind.TheVariants as kinds
use Rattle.vpc_model.specs.declared.stops.Stop.TheVariants as stops

-- ---- which place comes after which

follows-by : (p : Place) (x : Next) → Leads true p x → LeadsTo (may_follow p) x
follows-by p (go q k) way = way.0
follows-by p (arrive end) way = tt
follows-by p (stop s) way = tt

pub steps_follow : (d : Description) (appliances : Appliances) (label : Label) (m : Moment) → let s = step_of d appliances label m in LeadsTo (may_follow m.place) s.next
steps_follow d appliances label m = let s = step_of d appliances label m in follows-by m.place s.next (step_at-leads d true (inl refl) appliances label m.place m)

-- nothing leads to where packets come in from a network
never_in : (p : Place) (k : FarNo) → may_follow p (places.FarIn k) ≡ false
never_in (places.OutOf i) k = refl
never_in (places.Router s came) k = refl
never_in (places.Enter v by) k = refl
never_in (places.Into i) k = refl
never_in (places.IgwOut v) k = refl
never_in places.Internet k = refl
never_in (places.IgwIn v) k = refl
never_in (places.NatOut n) k = refl
never_in (places.NatIn n) k = refl
never_in (places.Peer x v) k = refl
never_in (places.Tgw a s) k = refl
never_in (places.TgwLeave a s) k = refl
never_in (places.FarOut l) k = refl
never_in (places.FarIn l) k = refl
never_in (places.Inspect e) k = refl

follows-not_in : (p q : Place) → may_follow p q ≡ true → not (is_far_in q) ≡ true
follows-not_in p (places.FarIn k) e = absurd (both_ways (may_follow p (places.FarIn k)) (never_in p k) e)
follows-not_in p _ e = refl

-- nothing comes after where packets go out to a network
follows-not_out : (p q : Place) → may_follow p q ≡ true → is_far_out p ≡ false
follows-not_out (places.FarOut k) q e = absurd (false≢true e)
follows-not_out _ q e = refl

not_in-by : (p : Place) (x : Next) → LeadsTo (may_follow p) x → LeadsTo (λ q. not (is_far_in q)) x
not_in-by p (go q k) e = follows-not_in p q e
not_in-by p (arrive end) e = tt
not_in-by p (stop s) e = tt

pub no_step_comes_in : (d : Description) (appliances : Appliances) (label : Label) (m : Moment) → let s = step_of d appliances label m in LeadsTo (λ p. not (is_far_in p)) s.next
no_step_comes_in d appliances label m = let s = step_of d appliances label m in not_in-by m.place s.next (steps_follow d appliances label m)

-- ---- out

over_half_peering-ends : (d : Description) (k : FarNo) (x : PeerNo) (h : Header) (beyond : List Block) (v : Option VpcNo) → EndsAt k (over_half_peering d k x h beyond v)
over_half_peering-ends d k x h beyond None = tt
over_half_peering-ends d k x h beyond (Some v) =
    cond_both (not (has_block d v h.src)) _ _ (EndsAt k) (λ _. tt) (λ _. cond_both (not (is_within beyond h.dst)) _ (arrive (ends.Far k)) (EndsAt k) (λ _. tt) (λ _. refl))

to_service-ends : (d : Description) (k : FarNo) (h : Header) (v : Option VpcNo) → EndsAt k (to_service d k h v)
to_service-ends d k h None = tt
to_service-ends d k h (Some v) = cond_both (has_block d v h.src) (arrive (ends.Far k)) _ (EndsAt k) (λ _. refl) (λ _. tt)

out_by-ends : (d : Description) (k : FarNo) (f : Far) (h : Header) (kind : FarKind) → EndsAt k (out_by d k f h kind)
out_by-ends d k f h (kinds.PrivateGateway vpc) = refl
out_by-ends d k f h (kinds.Attachment vpc) = refl
out_by-ends d k f h (kinds.Peering requester accepter) = over_half_peering-ends d k (peering_to d f) h (blocks_beyond d f) (vpc_beside d f)
out_by-ends d k f h (kinds.Endpoint vpc) = to_service-ends d k h (vpc_beside d f)

pub no_step_goes_beyond : (d : Description) (appliances : Appliances) (label : Label) (m : Moment) (k : FarNo) → m.place ≡ places.FarOut k → let s = step_of d appliances label m in EndsAt k s.next
no_step_goes_beyond d appliances label m k here =
    let f = far_at d k in
    at-place d appliances label m (places.FarOut k) (λ (s : Step). EndsAt k s.next) here (out_by-ends d k f m.header f.kind)

-- ---- walks

module _ (d : Description) (appliances : Appliances) (label : Label) where
  abbrev hops_of : List Moment → List Hop
  hops_of ms = map (hop_of d appliances label) ms

  next-follows : (m n : Moment) → IsNext d appliances label m n → may_follow m.place n.place ≡ true
  next-follows m n next = subst (LeadsTo (may_follow m.place)) next.goes (steps_follow d appliances label m)

  later-not_in : (m : Moment) (rest : List Moment) → Follows d appliances label m rest → AllByRecursion (λ (h : Hop). is_far_in h.place ≡ false) (hops_of rest)
  later-not_in m [] follows = tt
  later-not_in m (n ∷ rest) follows = (not-true (is_far_in n.place) (follows-not_in m.place n.place (next-follows m n follows.0)), later-not_in n rest follows.1)

  before-not_out : (m : Moment) (rest : List Moment) → Follows d appliances label m rest → AllByRecursion (λ (h : Hop). is_far_out h.place ≡ false) (take (length (hops_of rest)) (hops_of (m ∷ rest)))
  before-not_out m [] follows = tt
  before-not_out m (n ∷ rest) follows = (follows-not_out m.place n.place (next-follows m n follows.0), before-not_out n rest follows.1)

  -- all hops but the first, and all but the last
  abbrev StandAtEnds : List Hop → Type 0
  StandAtEnds hops = AllByRecursion (λ (h : Hop). is_far_in h.place ≡ false) (drop 1 hops) × AllByRecursion (λ (h : Hop). is_far_out h.place ≡ false) (take (length hops - 1) hops)

  pub networks_stand_at_ends : (m : Moment) → StandAtEnds (walk_of d appliances label m).hops
  networks_stand_at_ends m =
      let is = walks_are_of_steps d appliances label m in
      let hops = hops_of (m ∷ is.rest) in
      let shorter : length (hops_of is.rest) ≡ length hops - 1 = omega arith in
      subst StandAtEnds (sym is.hops)
      (later-not_in m is.rest is.follows, subst (λ n. AllByRecursion (λ (h : Hop). is_far_out h.place ≡ false) (take n hops)) shorter (before-not_out m is.rest is.follows))

-- ---- in

pub networks_enter_by_doors : (d : Description) (appliances : Appliances) (label : Label) (m : Moment) (k : FarNo) → m.place ≡ places.FarIn k → let s = step_of d appliances label m in LeadsTo is_behind_network s.next
networks_enter_by_doors d appliances label m k here =
    let s = step_of d appliances label m in subst (λ p. LeadsTo (may_follow p) s.next) here (steps_follow d appliances label m)

delivered-by : (d : Description) (appliances : Appliances) (i : EniNo) (m : Moment) (by : Option By) (conns : List Connection) → boxes_at appliances i ≡ None → LeadsTo (λ p. false) (in_passing d appliances i m (record { by = by; conns = conns })).next
delivered-by d appliances i m None conns none = tt
delivered-by d appliances i m (Some by) conns none = subst (λ (boxes : Option (List Box5)). LeadsTo (λ p. false) (taken_by d i m.header boxes)) (sym none) tt

step_into-delivered : (d : Description) (appliances : Appliances) (i : EniNo) (m : Moment) → boxes_at appliances i ≡ None → LeadsTo (λ p. false) (step_into d appliances Opening i m).next
step_into-delivered d appliances i m none =
    let e = interface_at d i in
    let passing = passing_of d Opening i Inward m.header m.conns in
    cond_both e.idle _ _ (λ (s : Step). LeadsTo (λ p. false) s.next) (λ _. tt)
    (λ _. cond_both (e.checked && not (has_address e m.header.dst)) _ _ (λ (s : Step). LeadsTo (λ p. false) s.next) (λ _. tt) (λ _. delivered-by d appliances i m passing.by passing.conns none))

pub opens_stay_inside : (d : Description) (appliances : Appliances) → OpensStayInside d appliances
opens_stay_inside d appliances = record {
  entered = λ m v by here. let s = step_of d appliances Opening m in subst (λ p. LeadsTo (may_follow p) s.next) here (steps_follow d appliances Opening m);
  refused = λ m n here. at-place d appliances Opening m (places.NatIn n) (λ (s : Step). s.next ≡ stop (stops.NatUnsolicited n)) here refl;
  delivered = λ m i here none. at-place d appliances Opening m (places.Into i) (λ (s : Step). LeadsTo (λ p. false) s.next) here (step_into-delivered d appliances i m none);
}

-- ---- where no row tells of them

far_of_id-none : (d : Description) (id : List ℕ) → TellsNothingBeyond d → far_of_id d id ≡ None
far_of_id-none d id tells =
    let make : ℕ → FarNo = λ k. record { 0 = k } in
    ap (λ (rows : List Far). option_map make (position (λ (f : Far). bytes_eq f.id id) rows)) tells.fars

far_end-none : (d : Description) (id : List ℕ) → TellsNothingBeyond d → far_end_of_id d id ≡ None
far_end-none d id tells = ap (λ (k : Option FarNo). option_and_then (λ (k : FarNo). cond (is_far_end d (far_at d k)) (Some k) None) k) (far_of_id-none d id tells)

firewall-none : (d : Description) (v : VpcNo) (id : List ℕ) → TellsNothingBeyond d → firewall_of d v id ≡ None
firewall-none d v id tells =
    let make : ℕ → FirewallNo = λ k. record { 0 = k } in
    ap (λ (rows : List FirewallEndpoint). option_and_then (λ (e : FirewallNo). cond (is_firewall_in d v e) (Some e) None) (option_map make (position (λ (e : FirewallEndpoint). bytes_eq e.id id) rows))) tells.firewalls

edge_table-none : (d : Description) (id : List ℕ) → TellsNothingBeyond d → edge_table d id ≡ None
edge_table-none d id tells =
    let make : ℕ → TableNo = λ k. record { 0 = k } in
    ap (λ (k : Option ℕ). option_map make k) (position-nowhere (λ (t : RouteTable). is_listed id t.gateways) d.tables (list_any-none (λ (t : RouteTable). is_listed id t.gateways) d.tables (λ t has. ap (is_listed id) (tells.tables t has))))

entrance-none : (d : Description) (id : Option (List ℕ)) → TellsNothingBeyond d → option_and_then (edge_table d) id ≡ None
entrance-none d None tells = refl
entrance-none d (Some id) tells = edge_table-none d id tells

pub nothing_beyond : (d : Description) → TellsNothingBeyond d → IsWithoutThem d
nothing_beyond d tells = record {
  routes = λ s h t k id.
      ap (to_other d s h t k id) (far_of_id-none d id tells) ∙ ap (to_firewall d s h t k) (firewall-none d (vpc_of_subnet d s) id tells);
  peerings = λ s h x. let row = peering_at d x in ap (to_half_peering d s h x) (far_end-none d row.id tells);
  attachments = λ entered h t k id. ap (to_attached d entered h t k id) (far_end-none d id tells);
  entrances = λ v by. entrance-none d (entrance d v by) tells;
}

and-not : (b : Bool) → (b && true) ≡ false → not b ≡ true
and-not true e = absurd (false≢true (sym e))
and-not false e = refl

within-by : (p : Place) (x : Next) → Leads false p x → LeadsTo (λ q. not (is_beyond q)) x
within-by p (go q k) way = and-not (is_beyond q) way.1
within-by p (arrive end) way = tt
within-by p (stop s) way = tt

pub no_step_goes_there : (d : Description) (appliances : Appliances) (label : Label) (m : Moment) → TellsNothingBeyond d → let s = step_of d appliances label m in LeadsTo (λ p. not (is_beyond p)) s.next
no_step_goes_there d appliances label m tells =
    let s = step_of d appliances label m in within-by m.place s.next (step_at-leads d false (inr (nothing_beyond d tells)) appliances label m.place m)

hops-within : (d : Description) (appliances : Appliances) (label : Label) (m : Moment) (rest : List Moment) → TellsNothingBeyond d → is_beyond m.place ≡ false → Follows d appliances label m rest
    → AllByRecursion (λ (h : Hop). is_beyond h.place ≡ false) (map (hop_of d appliances label) (m ∷ rest))
hops-within d appliances label m [] tells here follows = (here, tt)
hops-within d appliances label m (n ∷ rest) tells here (next, follows) =
    let there = not-true (is_beyond n.place) (subst (LeadsTo (λ p. not (is_beyond p))) next.goes (no_step_goes_there d appliances label m tells)) in
    (here, hops-within d appliances label n rest tells there follows)

pub no_walk_goes_there : (d : Description) (appliances : Appliances) (label : Label) (m : Moment) → TellsNothingBeyond d → is_beyond m.place ≡ false
    → let w = walk_of d appliances label m in AllByRecursion (λ h. is_beyond h.place ≡ false) w.hops
no_walk_goes_there d appliances label m tells here =
    let is = walks_are_of_steps d appliances label m in
    subst (AllByRecursion (λ (h : Hop). is_beyond h.place ≡ false)) (sym is.hops) (hops-within d appliances label m is.rest tells here is.follows)

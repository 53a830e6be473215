-- In an accepted description steps lead to sound places, and their stops and rules can be told.
use Rattle.std.proofs.Common.{Bool, Contains, List, None, Option, Some, [], arith, bytes_eq, cond, false, find, flat_map, inl, inr, is_none, is_some, leb, length, ltb, map, not, option_and_then, option_map, position, refl, slice_index_or, subst, sym, true, unwrap_or, ℕ, ◌&&◌, ◌+◌, ◌==◌, ◌||◌, ◌∙◌, ◌∷◌, ◌≡◌}
use Rattle.vpc_base.proofs.Lemmas.{Contains-cases, Contains-here, Contains-none, and_from, and_parts, both_ways, bytes_self, cases_Bool, cond_both, false≢true, find-member, flat_map-member, le-leb, ltb-true, member-list_any, or_cases, position-at, row-member, same_bytes}
use Rattle.vpc_base.specs.declared.headers.Dir.TheVariants.{Inward, Outward}
use Rattle.vpc_base.specs.declared.headers.Label.TheVariants.{Answer, Opening}
use Rattle.vpc_laws.specs.Types.{Association, AttNo, Attachment, Block, Box5, By, Description, Dir, EniNo, EnterBy, Far, FarKind, FarNo, FirewallEndpoint, FirewallNo, Group, GroupNo, Header, IgwNo, Interface, InternetGateway, Label, NatGateway, NatLife, NatNo, PeerNo, Place, RouteTable, RuleRef, Stop, SubnetNo, TableNo, Target, TgwRoute, TgwTable, TgwTableNo, Vpc, VpcNo}
use Rattle.vpc_model.specs.declared.outcomes.By.TheVariants as bys
use Rattle.vpc_model.specs.declared.places.End.TheVariants as ends
use Rattle.vpc_model.specs.declared.stops.Foreign.TheVariants as foreign
use Rattle.vpc_model.specs.declared.rows.FarKind.TheVariants as kinds
use Rattle.vpc_model.specs.declared.rows.NatLife.TheVariants as lives
use Rattle.vpc_model.specs.declared.places.EnterBy.TheVariants as through
use Rattle.vpc_model.specs.declared.places.Place.TheVariants as places
use Rattle.vpc_model.specs.declared.stops.Stop.TheVariants as stops
use Rattle.vpc_model.specs.declared.rows.Target.TheVariants as targets
use Rattle.vpc_model.specs.Terms.{Appliances, Connection, IsAccepted, Moment, Next, Step, Translation, acl_at, acl_of, acl_verdict, arrive, attachment_at, attachment_for, attachment_of_id, beats, beats_tgw, blocked, blocked_at, boxes_at, by_attachment, by_pair, by_route, by_tgw_route, by_tgw_table, chosen_route, chosen_tgw_route, crossing, deliver, deliver_by, eni_no, enter_host, entering, first_rule_of, first_subnet, forwarded, from_inward, from_nat, gateway_of, go, go_private, go_public, group_at, group_of_id, has_address, has_block, has_foreign_text, has_gateway, has_rule, has_subnet, has_text, has_vpc, host_of, igw_no, in_passing, interface_at, inward, is_attached, is_attachment, is_blocked, is_candidate, is_end, is_eni, is_eni_of, is_entry, is_full, is_gateway, is_group, is_igw, is_in_vpc, is_in_zone, is_listed, is_live, is_nat, is_origin, is_peering, is_route, is_rule, is_side, is_sound, is_subnet, is_subnet_of, is_table, is_tgw_route, is_tgw_table, is_translatable, is_unbeaten, is_unroutable, is_vpc, joins, leave_by, leave_subnet, leaving, nat_at, nat_no, nat_of, new_translation, no_group, no_interface, no_permission, no_route, no_tgw_route, or_else, other_side, out_passing, own_address, own_subnet, owned_by, owner_of, pairs_of, passes, passing_of, peer_no, peering_at, permission_allows, permissions_of, private_of, public_of, rule_of_group, step_at, step_internet, step_into, step_nat_in, step_nat_out, step_of, step_out, stop, subnet_at, subnet_no, subnet_of, table_at, table_of, table_of_attachment, tgw_table_at, tgw_table_of_id, to_attachment, to_host, to_interface, to_internet, to_nat, to_owner, to_peer, to_target, to_transit, to_zone, translate, translation_of, unless_stopped, vpc_at, vpc_no, vpc_of_interface, vpc_of_rules, vpc_of_subnet, zone_subnet}
use Rattle.prefix_text.specs.Block.{holds}
use Rattle.vpc_laws.specs.Terms.{AsksGroups, HasAllNamed, HasTarget, IdsHaveNumbers, LeadsWell, LetsPass, NumbersAreInRange, own_connection}
use Rattle.vpc_laws.proofs.Accepting.{accepted_has_all_named}
use Rattle.vpc_laws.proofs.Flow.{taken_by}
use Rattle.vpc_laws.proofs.Numbering.{accepted_numbers_are_in_range, ids_are_found}
use Rattle.vpc_laws.proofs.Passing.{packets_pass_by_groups}
use Rattle.vpc_model.specs.Far.{blocks_beyond, described_vpc, far_end_of_id, far_of_id, is_far_end, is_half, is_within, peering_to, table_of_attachment_id, vpc_beside, vpc_of_pair}
use Rattle.vpc_model.specs.Firewalls.{boxes_behind, edge_table, entrance, entrance_table, firewall_of, firewall_of_id, is_firewall_in, is_followed}
use Rattle.vpc_model.specs.Lookup.{far_at, firewall_at, has_peering, no_attachment, no_far, no_firewall, no_igw, no_nat, no_subnet, no_table, no_tgw_table, no_vpc}
use Rattle.vpc_model.specs.Sound.{is_far, is_firewall}
use Rattle.vpc_model.specs.Step.Enter.{enter_by_route, enter_by_table, enter_firewall, enter_interface, enter_target}
use Rattle.vpc_model.specs.Step.Far.{in_by, in_by_attachment, in_by_endpoint, in_by_gateway, in_by_peering, out_by, over_half_peering, to_service}
use Rattle.vpc_model.specs.Step.Inspect.{firewall_subnet, step_inspect}
use Rattle.vpc_model.specs.Step.Router.{is_beside, to_endpoint, to_far, to_firewall, to_half_peering, to_network_by, to_other, to_private_gateway}
use Rattle.vpc_model.specs.Step.Transit.{to_attached, to_first, to_leave}
use Rattle.vpc_model.specs.Transit.{first_described}

-- what is known of a description
pub record IsKnown (d : Description) : Type 0 where
  pub named : HasAllNamed d
  pub ids : IdsHaveNumbers d
  pub range : NumbersAreInRange d

-- ---- numbers that look-ups find

-- what a look-up finds passes a test
abbrev pub IfFound : {N : Type 0} → (N → Bool) → Option N → Type 0
IfFound test None = Unit {0}
IfFound test (Some n) = test n ≡ true

found-by : {X N : Type 0} (make : ℕ → N) (test : N → Bool) (p : X → Bool) (xs : List X) (d : X) → ((k : ℕ) → ltb k (length xs) ≡ true → p (slice_index_or xs k d) ≡ true → test (make k) ≡ true)
    → (o : Option ℕ) → position p xs ≡ o → IfFound test (option_map make o)
found-by make test p xs d good None e = tt
found-by make test p xs d good (Some k) e = let at = position-at p xs k d e in good k at.0 at.1

if_found-else : {N : Type 0} (test : N → Bool) (a b : Option N) → IfFound test a → IfFound test b → IfFound test (or_else a b)
if_found-else test None b at_a at_b = at_b
if_found-else test (Some n) b at_a at_b = at_a

host-found : (d : Description) (v : VpcNo) (a : ℕ) → IfFound (is_eni d) (host_of d v a)
host-found d v a =
    let p : Interface → Bool = λ e. has_address e a && is_in_vpc d v e in
    let make : ℕ → EniNo = λ k. record { 0 = k } in
    found-by make (is_eni d) p d.interfaces no_interface (λ k inside _. inside) (position p d.interfaces) refl

gateway-found : (d : Description) (v : VpcNo) → IfFound (is_igw d) (gateway_of d v)
gateway-found d v =
    let row = vpc_at d v in
    let p : InternetGateway → Bool = λ g. is_listed row.id g.vpcs in
    let make : ℕ → IgwNo = λ k. record { 0 = k } in
    found-by make (is_igw d) p d.igws no_igw (λ k inside _. inside) (position p d.igws) refl

is_eni_of-live : (id : List ℕ) (life : NatLife) → is_eni_of id life ≡ true → is_live life ≡ true
is_eni_of-live id lives.Gone e = absurd (false≢true e)
is_eni_of-live id lives.Unmodelled e = absurd (false≢true e)
is_eni_of-live id (lives.Live subnet eni address) e = refl

-- a NAT gateway that is described and live
abbrev is_working : Description → NatNo → Bool
is_working d n = let row = nat_at d n in is_nat d n && is_live row.life

nat-found : (d : Description) (i : EniNo) → IfFound (is_working d) (nat_of d i)
nat-found d i =
    let e = interface_at d i in
    let p : NatGateway → Bool = λ n. is_eni_of e.id n.life in
    let make : ℕ → NatNo = λ k. record { 0 = k } in
    found-by make (is_working d) p d.nats no_nat
    (λ k inside passes. let row = slice_index_or d.nats k no_nat in and_from (ltb k (length d.nats)) (is_live row.life) inside (is_eni_of-live e.id row.life passes)) (position p d.nats) refl

-- a subnet of a list is described where each id of the list is
listed-found : (d : Description) → IsKnown d → (vpc : List ℕ) (id : List ℕ) → is_subnet_of d vpc id ≡ true → is_subnet d (subnet_no d id) ≡ true
listed-found d known vpc id e =
    let ids = known.ids in
    let row = subnet_at d (subnet_no d id) in
    let parts = and_parts (has_subnet d id) (bytes_eq row.vpc vpc) e in
    (ids.subnet id parts.0).0

attached-subnet : (d : Description) → IsKnown d → (a : AttNo) → is_attachment d a ≡ true → (let att = attachment_at d a in has_vpc d att.vpc ≡ true) → (id : List ℕ) → (let att = attachment_at d a in Contains att.subnets id) → is_subnet d (subnet_no d id) ≡ true
attached-subnet d known a inside there id has =
    let named = known.named in
    let att = attachment_at d a in
    listed-found d known att.vpc id (named.subnet_of_attachment att id (row-member d.attachments a.0 no_attachment inside) there has)

zone-by : (d : Description) → IsKnown d → (a : AttNo) → is_attachment d a ≡ true → (let att = attachment_at d a in has_vpc d att.vpc ≡ true) → (zone : List ℕ) (o : Option (List ℕ))
    → (let att = attachment_at d a in find (is_in_zone d zone) att.subnets ≡ o) → IfFound (is_subnet d) (option_map (subnet_no d) o)
zone-by d known a inside there zone None e = tt
zone-by d known a inside there zone (Some id) e =
    let att = attachment_at d a in
    attached-subnet d known a inside there id (find-member (is_in_zone d zone) att.subnets id e).1

pub zone-found : (d : Description) → IsKnown d → (a : AttNo) (s : SubnetNo) → is_attachment d a ≡ true → (let att = attachment_at d a in has_vpc d att.vpc ≡ true) → IfFound (is_subnet d) (zone_subnet d a s)
zone-found d known a s inside there = let row = subnet_at d s in let att = attachment_at d a in zone-by d known a inside there row.zone (find (is_in_zone d row.zone) att.subnets) refl

-- an attachment that is described, and whose VPC is
abbrev pub is_inner : Description → AttNo → Bool
is_inner d a = let att = attachment_at d a in is_attachment d a && has_vpc d att.vpc

pub attachment-found : (d : Description) (id : List ℕ) (s : SubnetNo) → (let row = subnet_at d s in has_vpc d row.vpc ≡ true) → IfFound (is_inner d) (attachment_for d id s)
attachment-found d id s there =
    let row = subnet_at d s in
    let p : Attachment → Bool = λ a. bytes_eq a.gateway id && bytes_eq a.vpc row.vpc in
    let make : ℕ → AttNo = λ k. record { 0 = k } in
    found-by make (is_inner d) p d.attachments no_attachment
    (λ k inside passes.
    let att = slice_index_or d.attachments k no_attachment in
    let parts = and_parts (bytes_eq att.gateway id) (bytes_eq att.vpc row.vpc) passes in
    and_from (ltb k (length d.attachments)) (has_vpc d att.vpc) inside (subst (λ v. has_vpc d v ≡ true) (sym (same_bytes att.vpc row.vpc parts.1)) there)) (position p d.attachments) refl

attachment_of_id-found : (d : Description) (id : List ℕ) → IfFound (is_attachment d) (attachment_of_id d id)
attachment_of_id-found d id =
    let p : Attachment → Bool = λ a. bytes_eq a.id id in
    let make : ℕ → AttNo = λ k. record { 0 = k } in
    found-by make (is_attachment d) p d.attachments no_attachment (λ k inside _. inside) (position p d.attachments) refl

tgw_table-found : (d : Description) (id : List ℕ) → IfFound (is_tgw_table d) (tgw_table_of_id d id)
tgw_table-found d id =
    let p : TgwTable → Bool = λ t. bytes_eq t.id id in
    let make : ℕ → TgwTableNo = λ k. record { 0 = k } in
    found-by make (is_tgw_table d) p d.tgw_tables no_tgw_table (λ k inside _. inside) (position p d.tgw_tables) refl

and_then-found : {M N : Type 0} (test : N → Bool) (f : M → Option N) → ((m : M) → IfFound test (f m)) → (o : Option M) → IfFound test (option_and_then f o)
and_then-found test f good None = tt
and_then-found test f good (Some m) = good m

first_subnet-found : (d : Description) → IsKnown d → (a : AttNo) → is_attachment d a ≡ true → (let att = attachment_at d a in has_vpc d att.vpc ≡ true) → (ids : List (List ℕ)) → (let att = attachment_at d a in att.subnets ≡ ids) → IfFound (is_subnet d) (first_subnet d ids)
first_subnet-found d known a inside there [] e = tt
first_subnet-found d known a inside there (id ∷ ids) e = attached-subnet d known a inside there id (subst (λ l. Contains l id) (sym e) (Contains-here id ids))

pub leave-found : (d : Description) → IsKnown d → (a : AttNo) (s : SubnetNo) → is_attachment d a ≡ true → IfFound (is_subnet d) (leave_subnet d a s)
leave-found d known a s inside =
    let att = attachment_at d a in
    cond_both (has_vpc d att.vpc) (or_else (zone_subnet d a s) (first_subnet d att.subnets)) None (IfFound (is_subnet d))
    (λ there. if_found-else (is_subnet d) (zone_subnet d a s) (first_subnet d att.subnets) (zone-found d known a s inside there) (first_subnet-found d known a inside there att.subnets refl)) (λ _. tt)

first_described-found : (d : Description) → IsKnown d → (ids : List (List ℕ)) → IfFound (is_subnet d) (first_described d ids)
first_described-found d known [] = tt
first_described-found d known (id ∷ ids) =
    let numbers = known.ids in
    cond_both (has_subnet d id) (Some (subnet_no d id)) None (IfFound (is_subnet d)) (λ there. (numbers.subnet id there).0) (λ _. tt)

-- ---- networks that aren't described

far_of_id-found : (d : Description) (id : List ℕ) → IfFound (is_far d) (far_of_id d id)
far_of_id-found d id =
    let p : Far → Bool = λ f. bytes_eq f.id id in
    let make : ℕ → FarNo = λ k. record { 0 = k } in
    found-by make (is_far d) p d.fars no_far (λ k inside _. inside) (position p d.fars) refl

-- a network that is an end
abbrev is_outside : Description → FarNo → Bool
is_outside d k = is_end d (ends.Far k)

end_by-found : (d : Description) (k : Option FarNo) → IfFound (is_far d) k → IfFound (is_outside d) (option_and_then (λ (k : FarNo). cond (is_far_end d (far_at d k)) (Some k) None) k)
end_by-found d None found = tt
end_by-found d (Some k) found =
    cond_both (is_far_end d (far_at d k)) (Some k) None (IfFound (is_outside d)) (λ ends. and_from (is_far d k) (is_far_end d (far_at d k)) found ends) (λ _. tt)

far_end-found : (d : Description) (id : List ℕ) → IfFound (is_outside d) (far_end_of_id d id)
far_end-found d id = end_by-found d (far_of_id d id) (far_of_id-found d id)

described-found : (d : Description) → IsKnown d → (vpc : Option (List ℕ)) → IfFound (is_vpc d) (described_vpc d vpc)
described-found d known None = tt
described-found d known (Some vpc) = let ids = known.ids in cond_both (has_vpc d vpc) (Some (vpc_no d vpc)) None (IfFound (is_vpc d)) (λ there. (ids.vpc vpc there).0) (λ _. tt)

pair-found : (d : Description) → IsKnown d → (pair : Option (List ℕ × List ℕ)) → IfFound (is_vpc d) (vpc_of_pair d pair)
pair-found d known None = tt
pair-found d known (Some pair) =
    let ids = known.ids in
    cond_both (has_vpc d pair.0) (Some (vpc_no d pair.0)) (described_vpc d (Some pair.1)) (IfFound (is_vpc d)) (λ there. (ids.vpc pair.0 there).0) (λ _. described-found d known (Some pair.1))

beside-by : (d : Description) → IsKnown d → (id : List ℕ) (kind : FarKind) → IfFound (is_vpc d) (vpc_beside d (record { id = id; kind = kind }))
beside-by d known id (kinds.PrivateGateway vpc) = described-found d known vpc
beside-by d known id (kinds.Attachment vpc) = tt
beside-by d known id (kinds.Peering requester accepter) = let x = peering_at d (peer_no d id) in pair-found d known x.pair
beside-by d known id (kinds.Endpoint vpc) = described-found d known (Some vpc)

beside-found : (d : Description) → IsKnown d → (f : Far) → IfFound (is_vpc d) (vpc_beside d f)
beside-found d known f = beside-by d known f.id f.kind

-- by what leads there it is an end
is_end-by : (d : Description) (k : FarNo) (kind : FarKind) → is_far d k ≡ true → (let f = far_at d k in f.kind ≡ kind) → (let f = far_at d k in is_far_end d (record { id = f.id; kind = kind }) ≡ true) → is_outside d k ≡ true
is_end-by d k kind inside is ends =
    let f = far_at d k in
    and_from (is_far d k) (is_far_end d f) inside (subst (λ (x : FarKind). is_far_end d (record { id = f.id; kind = x }) ≡ true) (sym is) ends)

-- a peering that leads to an end is described
peering-found : (d : Description) → IsKnown d → (f : Far) (requester accepter : List Block) → is_far_end d f ≡ true → f.kind ≡ kinds.Peering requester accepter → is_peering d (peering_to d f) ≡ true
peering-found d known f requester accepter ends is =
    let ids = known.ids in
    let row = peering_at d (peer_no d f.id) in
    let half : (has_peering d f.id && is_half d row.pair) ≡ true = subst (λ (x : FarKind). is_far_end d (record { id = f.id; kind = x }) ≡ true) is ends in
    (ids.peering f.id (and_parts (has_peering d f.id) (is_half d row.pair) half).0).0

beside-described : (d : Description) (v : VpcNo) (vpc : List ℕ) → is_beside v (described_vpc d (Some vpc)) ≡ true → has_vpc d vpc ≡ true
beside-described d v vpc beside =
    elim (cases_Bool (has_vpc d vpc)) [
      | inl there ↦ there
      | inr lacks ↦ let none : false ≡ true = (rw lacks at beside) in absurd (false≢true none)
    ]

attachment_id-table : (d : Description) (id : List ℕ) → IfFound (is_tgw_table d) (table_of_attachment_id d id)
attachment_id-table d id =
    and_then-found (is_tgw_table d) (λ (x : Association). tgw_table_of_id d x.table) (λ x. tgw_table-found d x.table) (find (λ (x : Association). bytes_eq x.attachment id) d.associations)

-- ---- firewall endpoints, and the tables of gateways

-- a firewall endpoint that is followed, of a described VPC
abbrev is_watching : Description → FirewallNo → Bool
is_watching d e = is_sound d (places.Inspect e)

firewall_of_id-found : (d : Description) (id : List ℕ) → IfFound (is_firewall d) (firewall_of_id d id)
firewall_of_id-found d id =
    let p : FirewallEndpoint → Bool = λ e. bytes_eq e.id id in
    let make : ℕ → FirewallNo = λ k. record { 0 = k } in
    found-by make (is_firewall d) p d.firewalls no_firewall (λ k inside _. inside) (position p d.firewalls) refl

vpc-there : (d : Description) (v : VpcNo) → is_vpc d v ≡ true → let row = vpc_at d v in has_vpc d row.id ≡ true
vpc-there d v inside = let row = vpc_at d v in member-list_any (λ (x : Vpc). bytes_eq x.id row.id) d.vpcs row (row-member d.vpcs v.0 no_vpc inside) (bytes_self row.id)

firewall_by-found : (d : Description) (v : VpcNo) (e : Option FirewallNo) → is_vpc d v ≡ true → IfFound (is_firewall d) e → IfFound (is_watching d) (option_and_then (λ (e : FirewallNo). cond (is_firewall_in d v e) (Some e) None) e)
firewall_by-found d v None inside found = tt
firewall_by-found d v (Some e) inside found =
    let row = firewall_at d e in
    let vpc = vpc_at d v in
    cond_both (is_firewall_in d v e) (Some e) None (IfFound (is_watching d))
    (λ lies.
    let parts = and_parts (bytes_eq row.vpc vpc.id) (is_followed d row) lies in
    let there = subst (λ id. has_vpc d id ≡ true) (sym (same_bytes row.vpc vpc.id parts.0)) (vpc-there d v inside) in
    and_from (is_firewall d e) (is_followed d row && has_vpc d row.vpc) found (and_from (is_followed d row) (has_vpc d row.vpc) parts.1 there))
    (λ _. tt)

firewall-found : (d : Description) (v : VpcNo) (id : List ℕ) → is_vpc d v ≡ true → IfFound (is_watching d) (firewall_of d v id)
firewall-found d v id inside = firewall_by-found d v (firewall_of_id d id) inside (firewall_of_id-found d id)

firewall-subnet : (d : Description) → IsKnown d → (e : FirewallNo) → is_watching d e ≡ true → is_subnet d (firewall_subnet d e) ≡ true
firewall-subnet d known e works =
    let named = known.named in
    let row = firewall_at d e in
    let outer = and_parts (is_firewall d e) (is_followed d row && has_vpc d row.vpc) works in
    let inner = and_parts (is_followed d row) (has_vpc d row.vpc) outer.1 in
    listed-found d known row.vpc row.subnet (named.subnet_of_firewall row (row-member d.firewalls e.0 no_firewall outer.0) inner.0 inner.1)

edge_table-found : (d : Description) (id : List ℕ) → IfFound (is_table d) (edge_table d id)
edge_table-found d id =
    let p : RouteTable → Bool = λ t. is_listed id t.gateways in
    let make : ℕ → TableNo = λ k. record { 0 = k } in
    found-by make (is_table d) p d.tables no_table (λ k inside _. inside) (position p d.tables) refl

entrance_table-found : (d : Description) (v : VpcNo) (by : EnterBy) → IfFound (is_table d) (entrance_table d v by)
entrance_table-found d v by = and_then-found (is_table d) (edge_table d) (edge_table-found d) (entrance d v by)

-- ---- crossing and delivering

-- a stop that has a text, if there is one
abbrev IfStopped : Description → Option Stop → Type 0
IfStopped d s = IfFound (has_text d) s

leaving-told : (d : Description) → IsKnown d → (s : SubnetNo) (h : Header) → is_subnet d s ≡ true → IfStopped d (leaving d s h)
leaving-told d known s h inside =
    let range = known.range in
    let a = acl_at d (acl_of d s) in
    let verdict = acl_verdict a.rows Outward h in
    cond_both verdict.0 None (Some (stops.AclOut (acl_of d s) verdict.1)) (IfStopped d) (λ _. tt) (λ _. range.acl_of_subnet s inside)

entering-told : (d : Description) → IsKnown d → (s : SubnetNo) (h : Header) → is_subnet d s ≡ true → IfStopped d (entering d s h)
entering-told d known s h inside =
    let range = known.range in
    let a = acl_at d (acl_of d s) in
    let verdict = acl_verdict a.rows Inward h in
    cond_both verdict.0 None (Some (stops.AclIn (acl_of d s) verdict.1)) (IfStopped d) (λ _. tt) (λ _. range.acl_of_subnet s inside)

both-told : (d : Description) → IsKnown d → (s t : SubnetNo) (h : Header) → is_subnet d s ≡ true → is_subnet d t ≡ true → IfStopped d (or_else (leaving d s h) (entering d t h))
both-told d known s t h inside within = if_found-else (has_text d) (leaving d s h) (entering d t h) (leaving-told d known s h inside) (entering-told d known t h within)

crossing-told : (d : Description) → IsKnown d → (s t : SubnetNo) (h : Header) → is_subnet d s ≡ true → is_subnet d t ≡ true → IfStopped d (crossing d s t h)
crossing-told d known s t h inside within = cond_both (s.0 == t.0) None (or_else (leaving d s h) (entering d t h)) (IfStopped d) (λ _. tt) (λ _. both-told d known s t h inside within)

unless-well : (d : Description) (s : Option Stop) (x : Next) → IfStopped d s → LeadsWell d x → LeadsWell d (unless_stopped s x)
unless-well d None x told well = well
unless-well d (Some s) x told well = told

into-well : (d : Description) (i : EniNo) (h : Header) → is_eni d i ≡ true → let e = interface_at d i in LeadsWell d (cond (is_gateway e.kind) (stop (stops.NotAHost i)) (go (places.Into i) h))
into-well d i h inside = let e = interface_at d i in cond_both (is_gateway e.kind) (stop (stops.NotAHost i)) (go (places.Into i) h) (LeadsWell d) (λ _. inside) (λ _. inside)

deliver_by-well : (d : Description) (i : EniNo) (h : Header) (n : Option NatNo) → is_eni d i ≡ true → IfFound (is_working d) n → LeadsWell d (deliver_by d i h n)
deliver_by-well d i h (Some n) inside works = works
deliver_by-well d i h None inside works = into-well d i h inside

deliver-well : (d : Description) (i : EniNo) (h : Header) → is_eni d i ≡ true → LeadsWell d (deliver d i h)
deliver-well d i h inside = deliver_by-well d i h (nat_of d i) inside (nat-found d i)

-- ---- routers

to_host-well : (d : Description) → IsKnown d → (s : SubnetNo) (h : Header) (i : Option EniNo) → is_subnet d s ≡ true → IfFound (is_eni d) i → LeadsWell d (to_host d s h i)
to_host-well d known s h None inside found = let range = known.range in range.vpc_of_subnet s inside
to_host-well d known s h (Some i) inside found =
    let range = known.range in
    unless-well d (crossing d s (subnet_of d i) h) (deliver d i h) (crossing-told d known s (subnet_of d i) h inside (range.subnet_of_interface i found)) (deliver-well d i h found)

attached-some : (g : IgwNo) (o : Option IgwNo) → is_attached g o ≡ true → is_some o ≡ true
attached-some g None e = absurd (false≢true e)
attached-some g (Some attached) e = refl

to_internet-well : (d : Description) → IsKnown d → (s : SubnetNo) (h : Header) (g : IgwNo) → is_subnet d s ≡ true → is_igw d g ≡ true → LeadsWell d (to_internet d s h g)
to_internet-well d known s h g inside within =
    let range = known.range in
    let v = vpc_of_subnet d s in
    cond_both (is_attached g (gateway_of d v)) (unless_stopped (leaving d s h) (go (places.IgwOut v) h)) (stop (stops.GatewayDetached g)) (LeadsWell d)
    (λ attached. unless-well d (leaving d s h) (go (places.IgwOut v) h) (leaving-told d known s h inside)
    (and_from (is_vpc d v) (is_some (gateway_of d v)) (range.vpc_of_subnet s inside) (attached-some g (gateway_of d v) attached)))
    (λ _. within)

nat-subnet : (d : Description) → IsKnown d → (n : NatNo) → is_nat d n ≡ true → (subnet eni : List ℕ) (address : ℕ) → (let row = nat_at d n in row.life ≡ lives.Live subnet eni address) → is_subnet d (subnet_no d subnet) ≡ true
nat-subnet d known n inside subnet eni address is =
    let named = known.named in
    let ids = known.ids in
    let row = nat_at d n in
    (ids.subnet subnet (named.place_of_nat row subnet eni address (row-member d.nats n.0 no_nat inside) is).0).0

to_nat-well : (d : Description) → IsKnown d → (s : SubnetNo) (h : Header) (n : NatNo) (life : NatLife) → is_subnet d s ≡ true → is_nat d n ≡ true → (let row = nat_at d n in row.life ≡ life) → LeadsWell d (to_nat d s h n life)
to_nat-well d known s h n lives.Gone inside within is = within
to_nat-well d known s h n lives.Unmodelled inside within is = within
to_nat-well d known s h n (lives.Live subnet eni address) inside within is =
    let row = nat_at d n in
    unless-well d (crossing d s (subnet_no d subnet) h) (go (places.NatOut n) h)
    (crossing-told d known s (subnet_no d subnet) h inside (nat-subnet d known n within subnet eni address is))
    (and_from (is_nat d n) (is_live row.life) within (subst (λ l. is_live l ≡ true) (sym is) refl))

pair-joins : (d : Description) (v : List ℕ) (pair : List ℕ × List ℕ) → has_vpc d v ≡ true → is_side v (Some pair) ≡ true → has_vpc d (other_side v pair) ≡ true → joins d v (Some pair) ≡ true
pair-joins d v pair there side other =
    and_from (bytes_eq pair.0 v || bytes_eq pair.1 v) (has_vpc d pair.0 && has_vpc d pair.1) side
    (elim (cases_Bool (bytes_eq pair.0 v)) [
      | inl first ↦
          let far : has_vpc d pair.1 ≡ true = (rw first at other) in
          and_from (has_vpc d pair.0) (has_vpc d pair.1) (subst (λ w. has_vpc d w ≡ true) (sym (same_bytes pair.0 v first)) there) far
      | inr second ↦
          let far : has_vpc d pair.0 ≡ true = (rw second at other) in
          let near : bytes_eq pair.1 v ≡ true = elim (or_cases (bytes_eq pair.0 v) (bytes_eq pair.1 v) side) [ inl first ↦ absurd (both_ways (bytes_eq pair.0 v) second first) | inr one ↦ one ] in
          and_from (has_vpc d pair.0) (has_vpc d pair.1) far (subst (λ w. has_vpc d w ≡ true) (sym (same_bytes pair.1 v near)) there)
    ])

-- the id of a subnet's VPC
abbrev vpc_id : Description → SubnetNo → List ℕ
vpc_id d s = let row = vpc_at d (vpc_of_subnet d s) in row.id

subnet-vpc : (d : Description) → IsKnown d → (s : SubnetNo) → is_subnet d s ≡ true → let row = subnet_at d s in (has_vpc d row.vpc ≡ true) × (vpc_id d s ≡ row.vpc)
subnet-vpc d known s inside =
    let named = known.named in
    let ids = known.ids in
    let row = subnet_at d s in
    let there = named.vpc_of_subnet row (row-member d.subnets s.0 no_subnet inside) in
    (there, (ids.vpc row.vpc there).1)

to_far-well : (d : Description) → IsKnown d → (s : SubnetNo) (h : Header) (k : FarNo) → is_subnet d s ≡ true → is_outside d k ≡ true → LeadsWell d (to_far d s h k)
to_far-well d known s h k inside there = unless-well d (leaving d s h) (go (places.FarOut k) h) (leaving-told d known s h inside) there

to_half_peering-well : (d : Description) → IsKnown d → (s : SubnetNo) (h : Header) (x : PeerNo) (k : Option FarNo) → is_subnet d s ≡ true → is_peering d x ≡ true → IfFound (is_outside d) k → LeadsWell d (to_half_peering d s h x k)
to_half_peering-well d known s h x None inside within found = within
to_half_peering-well d known s h x (Some k) inside within found = to_far-well d known s h k inside found

to_peer-well : (d : Description) → IsKnown d → (s : SubnetNo) (h : Header) (x : PeerNo) (pair : Option (List ℕ × List ℕ)) → is_subnet d s ≡ true → is_peering d x ≡ true → (let row = peering_at d x in row.pair ≡ pair)
    → is_side (vpc_id d s) pair ≡ true → LeadsWell d (to_peer d s h x pair)
to_peer-well d known s h x None inside within is side = within
to_peer-well d known s h x (Some pair) inside within is side =
    let range = known.range in
    let v = vpc_of_subnet d s in
    let vpc = subnet-vpc d known s inside in
    let row = peering_at d x in
    cond_both (has_vpc d (other_side (vpc_id d s) pair)) (unless_stopped (leaving d s h) (go (places.Peer x v) h)) (to_half_peering d s h x (far_end_of_id d row.id)) (LeadsWell d)
    (λ far. unless-well d (leaving d s h) (go (places.Peer x v) h) (leaving-told d known s h inside)
    (and_from (is_peering d x) (is_vpc d v && joins d (vpc_id d s) row.pair) within
    (and_from (is_vpc d v) (joins d (vpc_id d s) row.pair) (range.vpc_of_subnet s inside)
    (subst (λ p. joins d (vpc_id d s) p ≡ true) (sym is) (pair-joins d (vpc_id d s) pair (subst (λ w. has_vpc d w ≡ true) (sym vpc.1) vpc.0) side far)))))
    (λ _. to_half_peering-well d known s h x (far_end_of_id d row.id) inside within (far_end-found d row.id))

to_zone-well : (d : Description) → IsKnown d → (s : SubnetNo) (h : Header) (a : AttNo) (t : Option SubnetNo) → is_subnet d s ≡ true → is_attachment d a ≡ true → IfFound (is_subnet d) t → LeadsWell d (to_zone d s h a t)
to_zone-well d known s h a None inside within found = within
to_zone-well d known s h a (Some t) inside within found =
    unless-well d (or_else (leaving d s h) (entering d t h)) (go (places.Tgw a t) h) (both-told d known s t h inside found) (and_from (is_attachment d a) (is_subnet d t) within found)

to_transit-well : (d : Description) → IsKnown d → (s : SubnetNo) (h : Header) (t : TableNo) (k : ℕ) (a : Option AttNo) → is_subnet d s ≡ true → is_route d t k ≡ true → IfFound (is_inner d) a → LeadsWell d (to_transit d s h t k a)
to_transit-well d known s h t k None inside route found = route
to_transit-well d known s h t k (Some a) inside route found =
    let att = attachment_at d a in
    let parts = and_parts (is_attachment d a) (has_vpc d att.vpc) found in
    to_zone-well d known s h a (zone_subnet d a s) inside parts.0 (zone-found d known a s parts.0 parts.1)

to_interface-well : (d : Description) → IsKnown d → (s : SubnetNo) (h : Header) (j : EniNo) → is_subnet d s ≡ true → is_eni d j ≡ true → LeadsWell d (to_interface d s h j)
to_interface-well d known s h j inside within =
    let range = known.range in
    let e = interface_at d j in
    unless-well d (crossing d s (subnet_of d j) h) (cond (is_gateway e.kind) (stop (stops.NotAHost j)) (go (places.Into j) h))
    (crossing-told d known s (subnet_of d j) h inside (range.subnet_of_interface j within)) (into-well d j h within)

to_private_gateway-well : (d : Description) → IsKnown d → (s : SubnetNo) (h : Header) (k : FarNo) (attached : Bool) → is_subnet d s ≡ true → is_outside d k ≡ true → LeadsWell d (to_private_gateway d s h k attached)
to_private_gateway-well d known s h k attached inside there =
    cond_both attached (to_far d s h k) (stop (stops.FarDetached k)) (LeadsWell d) (λ _. to_far-well d known s h k inside there) (λ _. there)

to_endpoint-well : (d : Description) → IsKnown d → (s : SubnetNo) (h : Header) (t : TableNo) (k : ℕ) (far : FarNo) (lies : Bool) → is_subnet d s ≡ true → is_route d t k ≡ true → (lies ≡ true → is_outside d far ≡ true) → LeadsWell d (to_endpoint d s h t k far lies)
to_endpoint-well d known s h t k far lies inside route there =
    cond_both lies (to_far d s h far) (stop (stops.Unmodelled (foreign.Target t k))) (LeadsWell d) (λ here. to_far-well d known s h far inside (there here)) (λ _. route)

to_network_by-well : (d : Description) → IsKnown d → (s : SubnetNo) (h : Header) (t : TableNo) (k : ℕ) (far : FarNo) (kind : FarKind) → is_subnet d s ≡ true → is_route d t k ≡ true → is_far d far ≡ true → (let f = far_at d far in f.kind ≡ kind)
    → LeadsWell d (to_network_by d s h t k far kind)
to_network_by-well d known s h t k far (kinds.PrivateGateway vpc) inside route within is =
    to_private_gateway-well d known s h far (is_beside (vpc_of_subnet d s) (vpc_beside d (far_at d far))) inside (is_end-by d far (kinds.PrivateGateway vpc) within is refl)
to_network_by-well d known s h t k far (kinds.Endpoint vpc) inside route within is =
    let v = vpc_of_subnet d s in
    let f = far_at d far in
    to_endpoint-well d known s h t k far (is_beside v (vpc_beside d f)) inside route
    (λ beside. is_end-by d far (kinds.Endpoint vpc) within is (beside-described d v vpc (subst (λ (x : FarKind). is_beside v (vpc_beside d (record { id = f.id; kind = x })) ≡ true) is beside)))
to_network_by-well d known s h t k far (kinds.Attachment vpc) inside route within is = route
to_network_by-well d known s h t k far (kinds.Peering requester accepter) inside route within is = route

to_firewall-well : (d : Description) → IsKnown d → (s : SubnetNo) (h : Header) (t : TableNo) (k : ℕ) (e : Option FirewallNo) → is_subnet d s ≡ true → is_route d t k ≡ true → IfFound (is_watching d) e → LeadsWell d (to_firewall d s h t k e)
to_firewall-well d known s h t k None inside route found = route
to_firewall-well d known s h t k (Some e) inside route found =
    unless-well d (crossing d s (firewall_subnet d e) h) (go (places.Inspect e) h) (crossing-told d known s (firewall_subnet d e) h inside (firewall-subnet d known e found)) found

to_other-well : (d : Description) → IsKnown d → (s : SubnetNo) (h : Header) (t : TableNo) (k : ℕ) (id : List ℕ) (far : Option FarNo) → is_subnet d s ≡ true → is_route d t k ≡ true → IfFound (is_far d) far → LeadsWell d (to_other d s h t k id far)
to_other-well d known s h t k id None inside route found =
    let range = known.range in
    let v = vpc_of_subnet d s in
    to_firewall-well d known s h t k (firewall_of d v id) inside route (firewall-found d v id (range.vpc_of_subnet s inside))
to_other-well d known s h t k id (Some far) inside route found = let row = far_at d far in to_network_by-well d known s h t k far row.kind inside route found refl

to_target-well : (d : Description) → IsKnown d → (s : SubnetNo) (h : Header) (t : TableNo) (k : ℕ) (target : Target) → is_subnet d s ≡ true → is_route d t k ≡ true → HasTarget d (vpc_id d s) target → LeadsWell d (to_target d s h t k target)
to_target-well d known s h t k targets.Local inside route has = to_host-well d known s h (host_of d (vpc_of_subnet d s) h.dst) inside (host-found d (vpc_of_subnet d s) h.dst)
to_target-well d known s h t k (targets.Internet id) inside route has = let ids = known.ids in to_internet-well d known s h (igw_no d id) inside (ids.gateway id has).0
to_target-well d known s h t k (targets.Nat id) inside route has = let ids = known.ids in let row = nat_at d (nat_no d id) in to_nat-well d known s h (nat_no d id) row.life inside (ids.nat id has.0).0 refl
to_target-well d known s h t k (targets.Peer id) inside route has = let ids = known.ids in let row = peering_at d (peer_no d id) in to_peer-well d known s h (peer_no d id) row.pair inside (ids.peering id has.0).0 refl has.1
to_target-well d known s h t k (targets.Transit id) inside route has = to_transit-well d known s h t k (attachment_for d id s) inside route (attachment-found d id s (subnet-vpc d known s inside).0)
to_target-well d known s h t k (targets.Interface id) inside route has = let ids = known.ids in to_interface-well d known s h (eni_no d id) inside (ids.interface id has.0).0
to_target-well d known s h t k (targets.Other id) inside route has = to_other-well d known s h t k id (far_of_id d id) inside route (far_of_id-found d id)

by_route-well : (d : Description) → IsKnown d → (s : SubnetNo) (h : Header) (k : Option ℕ) → is_subnet d s ≡ true → IfFound (is_route d (table_of d s)) k → LeadsWell d (by_route d s h (table_of d s) k)
by_route-well d known s h None inside found = let range = known.range in range.table_of_subnet s inside
by_route-well d known s h (Some k) inside found =
    let named = known.named in
    let range = known.range in
    let t = table_of d s in
    let table = table_at d t in
    let r = slice_index_or table.routes k no_route in
    let parts = and_parts (is_table d t) (ltb k (length table.routes)) found in
    cond_both r.blackhole (stop (stops.Blackhole t k)) (to_target d s h t k r.target) (LeadsWell d) (λ _. and_from (is_route d t k) (is_table d t) found parts.0)
    (λ alive. to_target-well d known s h t k r.target inside found
    (subst (λ v. HasTarget d v r.target) (range.vpc_of_table s inside ∙ sym (subnet-vpc d known s inside).1)
    (named.target_of_route table r (row-member d.tables t.0 no_table parts.0) (row-member table.routes k no_route parts.1) alive)))

chosen-found : (d : Description) (t : TableNo) → is_table d t ≡ true → (a : ℕ) (o : Option ℕ) → (let table = table_at d t in chosen_route d table.routes a ≡ o) → IfFound (is_route d t) o
chosen-found d t within a None e = tt
chosen-found d t within a (Some k) e =
    let table = table_at d t in
    and_from (is_table d t) (ltb k (length table.routes)) within (position-at (is_unbeaten (is_candidate d table.routes a) (beats d a) table.routes) table.routes k no_route e).0

route-found : (d : Description) → IsKnown d → (s : SubnetNo) → is_subnet d s ≡ true → (a : ℕ) (o : Option ℕ) → (let table = table_at d (table_of d s) in chosen_route d table.routes a ≡ o) → IfFound (is_route d (table_of d s)) o
route-found d known s inside a o e = let range = known.range in chosen-found d (table_of d s) (range.table_of_subnet s inside) a o e

-- ---- gateways

enter_host-well : (d : Description) → IsKnown d → (v : VpcNo) (h : Header) (i : Option EniNo) → is_vpc d v ≡ true → IfFound (is_eni d) i → LeadsWell d (enter_host d v h i)
enter_host-well d known v h None inside found = inside
enter_host-well d known v h (Some i) inside found =
    let range = known.range in
    unless-well d (entering d (subnet_of d i) h) (deliver d i h) (entering-told d known (subnet_of d i) h (range.subnet_of_interface i found)) (deliver-well d i h found)

enter_interface-well : (d : Description) → IsKnown d → (h : Header) (j : EniNo) → is_eni d j ≡ true → LeadsWell d (enter_interface d h j)
enter_interface-well d known h j within =
    let range = known.range in
    let e = interface_at d j in
    unless-well d (entering d (subnet_of d j) h) (cond (is_gateway e.kind) (stop (stops.NotAHost j)) (go (places.Into j) h))
    (entering-told d known (subnet_of d j) h (range.subnet_of_interface j within)) (into-well d j h within)

enter_firewall-well : (d : Description) → IsKnown d → (h : Header) (t : TableNo) (k : ℕ) (e : Option FirewallNo) → is_route d t k ≡ true → IfFound (is_watching d) e → LeadsWell d (enter_firewall d h t k e)
enter_firewall-well d known h t k None route found = route
enter_firewall-well d known h t k (Some e) route found =
    unless-well d (entering d (firewall_subnet d e) h) (go (places.Inspect e) h) (entering-told d known (firewall_subnet d e) h (firewall-subnet d known e found)) found

enter_target-well : (d : Description) → IsKnown d → (v : VpcNo) (h : Header) (t : TableNo) (k : ℕ) (vpc : List ℕ) (target : Target) → is_vpc d v ≡ true → is_route d t k ≡ true → HasTarget d vpc target → LeadsWell d (enter_target d v h t k target)
enter_target-well d known v h t k vpc targets.Local inside route has = enter_host-well d known v h (host_of d v h.dst) inside (host-found d v h.dst)
enter_target-well d known v h t k vpc (targets.Interface id) inside route has = let ids = known.ids in enter_interface-well d known h (eni_no d id) (ids.interface id has.0).0
enter_target-well d known v h t k vpc (targets.Other id) inside route has = enter_firewall-well d known h t k (firewall_of d v id) route (firewall-found d v id inside)
enter_target-well d known v h t k vpc (targets.Internet id) inside route has = route
enter_target-well d known v h t k vpc (targets.Nat id) inside route has = route
enter_target-well d known v h t k vpc (targets.Transit id) inside route has = route
enter_target-well d known v h t k vpc (targets.Peer id) inside route has = route

enter_by_route-well : (d : Description) → IsKnown d → (v : VpcNo) (h : Header) (t : TableNo) (k : Option ℕ) → is_vpc d v ≡ true → is_table d t ≡ true → IfFound (is_route d t) k → LeadsWell d (enter_by_route d v h t k)
enter_by_route-well d known v h t None inside within found = within
enter_by_route-well d known v h t (Some k) inside within found =
    let named = known.named in
    let table = table_at d t in
    let r = slice_index_or table.routes k no_route in
    let parts = and_parts (is_table d t) (ltb k (length table.routes)) found in
    cond_both r.blackhole (stop (stops.Blackhole t k)) (enter_target d v h t k r.target) (LeadsWell d) (λ _. and_from (is_route d t k) (is_table d t) found within)
    (λ alive. enter_target-well d known v h t k table.vpc r.target inside found
    (named.target_of_route table r (row-member d.tables t.0 no_table within) (row-member table.routes k no_route parts.1) alive))

enter_by_table-well : (d : Description) → IsKnown d → (v : VpcNo) (h : Header) (t : Option TableNo) → is_vpc d v ≡ true → IfFound (is_table d) t → LeadsWell d (enter_by_table d v h t)
enter_by_table-well d known v h None inside found = enter_host-well d known v h (host_of d v h.dst) inside (host-found d v h.dst)
enter_by_table-well d known v h (Some t) inside found =
    let table = table_at d t in
    enter_by_route-well d known v h t (chosen_route d table.routes h.dst) inside found (chosen-found d t found h.dst (chosen_route d table.routes h.dst) refl)

attached-igw : (d : Description) (o : Option IgwNo) → IfFound (is_igw d) o → is_some o ≡ true → is_igw d (unwrap_or o (record { 0 = length d.igws })) ≡ true
attached-igw d None found e = absurd (false≢true e)
attached-igw d (Some g) found e = found

blocked-told : (d : Description) → IsKnown d → (i : Option EniNo) → IfFound (is_eni d) i → IfStopped d (option_and_then (blocked d) i)
blocked-told d known None found = tt
blocked-told d known (Some i) found =
    let range = known.range in
    let s = subnet_of d i in
    let lies = range.subnet_of_interface i found in
    cond_both (is_blocked d i) (Some (stops.BlockPublicAccess s)) None (IfStopped d) (λ _. and_from (is_subnet d s) (is_subnet d s) lies lies) (λ _. tt)

blocked_at-told : (d : Description) → IsKnown d → (v : VpcNo) (own : ℕ) → IfStopped d (blocked_at d v own)
blocked_at-told d known v own = blocked-told d known (host_of d v own) (host-found d v own)

go_public-well : (d : Description) → IsKnown d → (v : VpcNo) (h : Header) (a : Option ℕ) → has_gateway d v ≡ true → LeadsWell d (go_public d v h a)
go_public-well d known v h None has = attached-igw d (gateway_of d v) (gateway-found d v) (and_parts (is_vpc d v) (is_some (gateway_of d v)) has).1
go_public-well d known v h (Some a) has = unless-well d (blocked_at d v h.src) (go places.Internet (record h { src = a })) (blocked_at-told d known v h.src) refl

go_private-well : (d : Description) → IsKnown d → (v : VpcNo) (h : Header) (a : Option ℕ) → has_gateway d v ≡ true → LeadsWell d (go_private d v h a)
go_private-well d known v h None has = and_from (is_vpc d v) true (and_parts (is_vpc d v) (is_some (gateway_of d v)) has).0 refl
go_private-well d known v h (Some a) has =
    unless-well d (blocked_at d v a) (go (places.Enter v through.Gateway) (record h { dst = a })) (blocked_at-told d known v a)
    (and_from (is_vpc d v) true (and_parts (is_vpc d v) (is_some (gateway_of d v)) has).0 refl)

not-none : {X : Type 0} (o : Option X) → is_none o ≡ false → is_some o ≡ true
not-none None e = absurd (false≢true (sym e))
not-none (Some x) e = refl

to_owner-well : (d : Description) (h : Header) (v : Option VpcNo) → IfFound (is_vpc d) v → LeadsWell d (to_owner d h v)
to_owner-well d h None found = refl
to_owner-well d h (Some v) found =
    cond_both (is_none (gateway_of d v)) (stop (stops.NoGateway v)) (go (places.IgwIn v) h) (LeadsWell d) (λ _. found)
    (λ attached. and_from (is_vpc d v) (is_some (gateway_of d v)) found (not-none (gateway_of d v) attached))

map-member : {X Y : Type 0} (f : X → Y) (xs : List X) (y : Y) → Contains (map f xs) y → (x : X) × (f x ≡ y)
map-member f [] y has = absurd (Contains-none y has)
map-member f (x ∷ xs) y has = elim (Contains-cases (f x) y (map f xs) has) [ inl same ↦ (x, same) | inr later ↦ map-member f xs y later ]

pub owner-by : (d : Description) → IsKnown d → (public : ℕ) (o : Option (VpcNo × ℕ)) → find (λ (o : VpcNo × ℕ). o.1 == public) (flat_map (owned_by d) d.interfaces) ≡ o → IfFound (is_vpc d) (option_map (λ (o : VpcNo × ℕ). o.0) o)
owner-by d known public None e = tt
owner-by d known public (Some owner) e =
    let named = known.named in
    let ids = known.ids in
    let found = find-member (λ (o : VpcNo × ℕ). o.1 == public) (flat_map (owned_by d) d.interfaces) owner e in
    let row = flat_map-member (owned_by d) d.interfaces owner found.1 in
    let i = row.0 in
    let f : ℕ × ℕ → VpcNo × ℕ = λ p. (vpc_no d (vpc_of_interface d i), p.1) in
    let pair = map-member f (pairs_of i) owner row.2 in
    let subnet = ids.subnet i.subnet (named.subnet_of_interface i row.1) in
    let s = subnet_at d (subnet_no d i.subnet) in
    let there = named.vpc_of_subnet s (row-member d.subnets (let n = subnet_no d i.subnet in n.0) no_subnet subnet.0) in
    subst (λ (o : VpcNo × ℕ). is_vpc d o.0 ≡ true) pair.1 (ids.vpc s.vpc there).0

step_internet-well : (d : Description) → IsKnown d → (m : Moment) → LeadsWell d (step_internet d m).next
step_internet-well d known m =
    cond_both (is_unroutable m.header.src || is_unroutable m.header.dst) _ _ (λ (s : Step). LeadsWell d s.next) (λ _. refl)
    (λ _. to_owner-well d m.header (owner_of d m.header.dst) (owner-by d known m.header.dst (find (λ (o : VpcNo × ℕ). o.1 == m.header.dst) (flat_map (owned_by d) d.interfaces)) refl))

from_nat-by : (d : Description) → IsKnown d → (n : NatNo) (life : NatLife) → is_nat d n ≡ true → (let row = nat_at d n in row.life ≡ life) → is_live life ≡ true → is_subnet d (subnet_no d (own_subnet life)) ≡ true
from_nat-by d known n lives.Gone inside is works = absurd (false≢true works)
from_nat-by d known n lives.Unmodelled inside is works = absurd (false≢true works)
from_nat-by d known n (lives.Live subnet eni address) inside is works = nat-subnet d known n inside subnet eni address is

from_nat-well : (d : Description) → IsKnown d → (n : NatNo) (h : Header) → is_working d n ≡ true → LeadsWell d (from_nat d n h)
from_nat-well d known n h works =
    let row = nat_at d n in
    let parts = and_parts (is_nat d n) (is_live row.life) works in
    and_from (is_subnet d (subnet_no d (own_subnet row.life))) (is_nat d n) (from_nat-by d known n row.life parts.0 refl parts.1) parts.0

translate-well : (d : Description) → IsKnown d → (n : NatNo) (m : Moment) (t : Option Translation) → is_working d n ≡ true → LeadsWell d (translate d n m t).next
translate-well d known n m (Some t) works = from_nat-well d known n t.after works
translate-well d known n m None works =
    let row = nat_at d n in
    cond_both (is_full m.nats n m.header) _ _ (λ (s : Step). LeadsWell d s.next) (λ _. (and_parts (is_nat d n) (is_live row.life) works).0) (λ _. let t = new_translation m.nats n (own_address row.life) m.header in from_nat-well d known n t.after works)

step_nat_out-well : (d : Description) → IsKnown d → (label : Label) (n : NatNo) (m : Moment) → is_working d n ≡ true → LeadsWell d (step_nat_out d label n m).next
step_nat_out-well d known Answer n m works = let row = nat_at d n in (and_parts (is_nat d n) (is_live row.life) works).0
step_nat_out-well d known Opening n m works =
    let row = nat_at d n in
    cond_both (is_translatable m.header.proto) (translate d n m (translation_of m.nats n m.header)) _ (λ (s : Step). LeadsWell d s.next)
    (λ _. translate-well d known n m (translation_of m.nats n m.header) works) (λ _. (and_parts (is_nat d n) (is_live row.life) works).0)

from_inward-well : (d : Description) → IsKnown d → (n : NatNo) (h : Option Header) → is_working d n ≡ true → LeadsWell d (from_inward d n h)
from_inward-well d known n None works = let row = nat_at d n in (and_parts (is_nat d n) (is_live row.life) works).0
from_inward-well d known n (Some h) works = from_nat-well d known n h works

step_nat_in-well : (d : Description) → IsKnown d → (label : Label) (n : NatNo) (m : Moment) → is_working d n ≡ true → LeadsWell d (step_nat_in d label n m).next
step_nat_in-well d known Opening n m works = let row = nat_at d n in (and_parts (is_nat d n) (is_live row.life) works).0
step_nat_in-well d known Answer n m works = from_inward-well d known n (inward m.nats n m.header) works

-- ---- peerings and transit gateways

joined-other : (d : Description) (v : List ℕ) (pair : List ℕ × List ℕ) → joins d v (Some pair) ≡ true → has_vpc d (other_side v pair) ≡ true
joined-other d v pair e =
    let parts = and_parts (bytes_eq pair.0 v || bytes_eq pair.1 v) (has_vpc d pair.0 && has_vpc d pair.1) e in
    let two = and_parts (has_vpc d pair.0) (has_vpc d pair.1) parts.1 in
    cond_both (bytes_eq pair.0 v) pair.1 pair.0 (λ w. has_vpc d w ≡ true) (λ _. two.1) (λ _. two.0)

by_pair-well : (d : Description) → IsKnown d → (x : PeerNo) (v : VpcNo) (h : Header) (pair : Option (List ℕ × List ℕ)) → is_peering d x ≡ true → (let row = vpc_at d v in joins d row.id pair ≡ true) → LeadsWell d (by_pair d x v h pair)
by_pair-well d known x v h None inside joined = inside
by_pair-well d known x v h (Some pair) inside joined =
    let ids = known.ids in
    let row = vpc_at d v in
    let w = vpc_no d (other_side row.id pair) in
    let within = (ids.vpc (other_side row.id pair) (joined-other d row.id pair joined)).0 in
    cond_both (not (has_block d v h.src)) _ _ (LeadsWell d) (λ _. inside)
    (λ _. cond_both (not (has_block d w h.dst)) _ _ (LeadsWell d) (λ _. inside) (λ _. and_from (is_vpc d w) (is_peering d x) within inside))

to_first-well : (d : Description) (h : Header) (a : AttNo) (s : Option SubnetNo) → is_attachment d a ≡ true → IfFound (is_subnet d) s → LeadsWell d (to_first h a s)
to_first-well d h a None there found = there
to_first-well d h a (Some s) there found = and_from (is_attachment d a) (is_subnet d s) there found

to_leave-well : (d : Description) → IsKnown d → (h : Header) (a : AttNo) (entered : Option SubnetNo) → is_attachment d a ≡ true → IfFound (is_subnet d) entered → LeadsWell d (to_leave d h a entered)
to_leave-well d known h a None there inside = let row = attachment_at d a in to_first-well d h a (first_described d row.subnets) there (first_described-found d known row.subnets)
to_leave-well d known h a (Some s) there inside = and_from (is_attachment d a) (is_subnet d s) there inside

to_attachment-well : (d : Description) → IsKnown d → (entered : Option SubnetNo) (h : Header) (t : TgwTableNo) (k : ℕ) (a : Option AttNo) → IfFound (is_subnet d) entered → has_foreign_text d (foreign.FarAttachment t k) ≡ true → IfFound (is_attachment d) a
    → LeadsWell d (to_attachment d entered h t k a)
to_attachment-well d known entered h t k None inside text found = text
to_attachment-well d known entered h t k (Some a) inside text found = to_leave-well d known h a entered found inside

to_attached-well : (d : Description) → IsKnown d → (entered : Option SubnetNo) (h : Header) (t : TgwTableNo) (k : ℕ) (id : List ℕ) (far : Option FarNo) → IfFound (is_subnet d) entered → has_foreign_text d (foreign.FarAttachment t k) ≡ true → IfFound (is_outside d) far
    → LeadsWell d (to_attached d entered h t k id far)
to_attached-well d known entered h t k id None inside text found = to_attachment-well d known entered h t k (attachment_of_id d id) inside text (attachment_of_id-found d id)
to_attached-well d known entered h t k id (Some far) inside text found = found

by_attachment-well : (d : Description) → IsKnown d → (entered : Option SubnetNo) (h : Header) (t : TgwTableNo) (k : ℕ) (id : Option (List ℕ)) → IfFound (is_subnet d) entered → is_tgw_route d t k ≡ true
    → (let table = tgw_table_at d t in let r = slice_index_or table.routes k no_tgw_route in r.attachment ≡ id) → LeadsWell d (by_attachment d entered h t k id)
by_attachment-well d known entered h t k None inside route is = let table = tgw_table_at d t in (and_parts (is_tgw_table d t) (ltb k (length table.routes)) route).0
by_attachment-well d known entered h t k (Some id) inside route is =
    let table = tgw_table_at d t in
    let r = slice_index_or table.routes k no_tgw_route in
    let text = and_from (is_tgw_route d t k) (is_some r.attachment) route (subst (λ o. is_some o ≡ true) (sym is) refl) in
    to_attached-well d known entered h t k id (far_end_of_id d id) inside text (far_end-found d id)

by_tgw_route-well : (d : Description) → IsKnown d → (entered : Option SubnetNo) (h : Header) (t : TgwTableNo) (k : Option ℕ) → IfFound (is_subnet d) entered → is_tgw_table d t ≡ true → IfFound (is_tgw_route d t) k → LeadsWell d (by_tgw_route d entered h t k)
by_tgw_route-well d known entered h t None inside within found = within
by_tgw_route-well d known entered h t (Some k) inside within found =
    let table = tgw_table_at d t in
    let r = slice_index_or table.routes k no_tgw_route in
    cond_both r.blackhole (stop (stops.TgwBlackhole t k)) (by_attachment d entered h t k r.attachment) (LeadsWell d) (λ _. and_from (is_tgw_route d t k) (is_tgw_table d t) found within)
    (λ _. by_attachment-well d known entered h t k r.attachment inside found refl)

tgw_route-found : (d : Description) (t : TgwTableNo) → is_tgw_table d t ≡ true → (a : ℕ) (o : Option ℕ) → (let table = tgw_table_at d t in chosen_tgw_route table.routes a ≡ o) → IfFound (is_tgw_route d t) o
tgw_route-found d t within a None e = tt
tgw_route-found d t within a (Some k) e =
    let table = tgw_table_at d t in
    and_from (is_tgw_table d t) (ltb k (length table.routes)) within
    (position-at (is_unbeaten (λ (r : TgwRoute). holds a r.block) beats_tgw table.routes) table.routes k no_tgw_route e).0

by_tgw_table-well : (d : Description) → IsKnown d → (a : AttNo) (s : SubnetNo) (h : Header) (t : Option TgwTableNo) → is_attachment d a ≡ true → is_subnet d s ≡ true → IfFound (is_tgw_table d) t → LeadsWell d (by_tgw_table d a s h t)
by_tgw_table-well d known a s h None outer inside found = outer
by_tgw_table-well d known a s h (Some t) outer inside found =
    let table = tgw_table_at d t in
    by_tgw_route-well d known (Some s) h t (chosen_tgw_route table.routes h.dst) inside found (tgw_route-found d t found h.dst (chosen_tgw_route table.routes h.dst) refl)

attachment-table : (d : Description) (a : AttNo) → IfFound (is_tgw_table d) (table_of_attachment d a)
attachment-table d a =
    let att = attachment_at d a in
    and_then-found (is_tgw_table d) (λ (x : Association). tgw_table_of_id d x.table) (λ x. tgw_table-found d x.table) (find (λ (x : Association). bytes_eq x.attachment att.id) d.associations)

leave_by-well : (d : Description) (a : AttNo) (h : Header) (s : Option SubnetNo) → is_attachment d a ≡ true → IfFound (is_subnet d) s → LeadsWell d (leave_by a h s)
leave_by-well d a h None inside found = inside
leave_by-well d a h (Some s) inside found = and_from (is_subnet d s) (is_attachment d a) found inside

-- ---- into networks that aren't described, and from there

over_half_peering-well : (d : Description) (k : FarNo) (x : PeerNo) (h : Header) (beyond : List Block) (v : Option VpcNo) → is_outside d k ≡ true → is_peering d x ≡ true → LeadsWell d (over_half_peering d k x h beyond v)
over_half_peering-well d k x h beyond None there within = within
over_half_peering-well d k x h beyond (Some v) there within =
    cond_both (not (has_block d v h.src)) _ _ (LeadsWell d) (λ _. within)
    (λ _. cond_both (not (is_within beyond h.dst)) (stop (stops.PeerDestination x)) (arrive (ends.Far k)) (LeadsWell d) (λ _. within) (λ _. there))

to_service-well : (d : Description) (k : FarNo) (h : Header) (v : Option VpcNo) → is_outside d k ≡ true → LeadsWell d (to_service d k h v)
to_service-well d k h None there = there
to_service-well d k h (Some v) there = cond_both (has_block d v h.src) (arrive (ends.Far k)) (stop (stops.FarSource k)) (LeadsWell d) (λ _. there) (λ _. there)

out_by-well : (d : Description) → IsKnown d → (k : FarNo) (f : Far) (h : Header) (kind : FarKind) → is_outside d k ≡ true → is_far_end d f ≡ true → f.kind ≡ kind → LeadsWell d (out_by d k f h kind)
out_by-well d known k f h (kinds.PrivateGateway vpc) there ends is = there
out_by-well d known k f h (kinds.Attachment vpc) there ends is = there
out_by-well d known k f h (kinds.Peering requester accepter) there ends is =
    over_half_peering-well d k (peering_to d f) h (blocks_beyond d f) (vpc_beside d f) there (peering-found d known f requester accepter ends is)
out_by-well d known k f h (kinds.Endpoint vpc) there ends is = to_service-well d k h (vpc_beside d f) there

in_by_gateway-well : (d : Description) (k : FarNo) (h : Header) (v : Option VpcNo) → is_outside d k ≡ true → IfFound (is_vpc d) v → LeadsWell d (in_by_gateway k h v)
in_by_gateway-well d k h None there found = there
in_by_gateway-well d k h (Some v) there found = and_from (is_vpc d v) (is_outside d k) found there

in_by_peering-well : (d : Description) (x : PeerNo) (h : Header) (beyond : List Block) (v : Option VpcNo) → is_peering d x ≡ true → IfFound (is_vpc d) v → LeadsWell d (in_by_peering d x h beyond v)
in_by_peering-well d x h beyond None within found = within
in_by_peering-well d x h beyond (Some v) within found =
    cond_both (not (is_within beyond h.src)) _ _ (LeadsWell d) (λ _. within)
    (λ _. cond_both (not (has_block d v h.dst)) (stop (stops.PeerDestination x)) (go (places.Enter v (through.Peering x)) h) (LeadsWell d) (λ _. within) (λ _. and_from (is_vpc d v) (is_peering d x) found within))

in_by_attachment-well : (d : Description) → IsKnown d → (k : FarNo) (h : Header) (t : Option TgwTableNo) → is_outside d k ≡ true → IfFound (is_tgw_table d) t → LeadsWell d (in_by_attachment d k h t)
in_by_attachment-well d known k h None there found = there
in_by_attachment-well d known k h (Some t) there found =
    let table = tgw_table_at d t in
    by_tgw_route-well d known None h t (chosen_tgw_route table.routes h.dst) tt found (tgw_route-found d t found h.dst (chosen_tgw_route table.routes h.dst) refl)

in_by_endpoint-well : (d : Description) (label : Label) (k : FarNo) (h : Header) (v : Option VpcNo) → is_outside d k ≡ true → IfFound (is_vpc d) v → LeadsWell d (in_by_endpoint label k h v)
in_by_endpoint-well d Opening k h v there found = there
in_by_endpoint-well d Answer k h v there found = in_by_gateway-well d k h v there found

in_by-well : (d : Description) → IsKnown d → (label : Label) (k : FarNo) (f : Far) (h : Header) (kind : FarKind) → is_outside d k ≡ true → is_far_end d f ≡ true → f.kind ≡ kind → LeadsWell d (in_by d label k f h kind)
in_by-well d known label k f h (kinds.PrivateGateway vpc) there ends is = in_by_gateway-well d k h (vpc_beside d f) there (beside-found d known f)
in_by-well d known label k f h (kinds.Attachment vpc) there ends is = in_by_attachment-well d known k h (table_of_attachment_id d f.id) there (attachment_id-table d f.id)
in_by-well d known label k f h (kinds.Peering requester accepter) there ends is =
    in_by_peering-well d (peering_to d f) h (blocks_beyond d f) (vpc_beside d f) (peering-found d known f requester accepter ends is) (beside-found d known f)
in_by-well d known label k f h (kinds.Endpoint vpc) there ends is = in_by_endpoint-well d label k h (vpc_beside d f) there (beside-found d known f)

step_inspect-well : (d : Description) → IsKnown d → (e : FirewallNo) (m : Moment) → is_watching d e ≡ true → LeadsWell d (step_inspect d e m).next
step_inspect-well d known e m works =
    let row = firewall_at d e in
    let s = firewall_subnet d e in
    cond_both (passes (boxes_behind d e) m.header) _ _ (LeadsWell d)
    (λ _. and_from (is_subnet d s) (is_firewall d e) (firewall-subnet d known e works) (and_parts (is_firewall d e) (is_followed d row && has_vpc d row.vpc) works).0) (λ _. works)

-- ---- interfaces

out_passing-well : (d : Description) → IsKnown d → (i : EniNo) (m : Moment) (by : Option By) (conns : List Connection) → is_eni d i ≡ true → LeadsWell d (out_passing d i m (record { by = by; conns = conns })).next
out_passing-well d known i m None conns inside = inside
out_passing-well d known i m (Some by) conns inside = let range = known.range in and_from (is_subnet d (subnet_of d i)) (is_eni d i) (range.subnet_of_interface i inside) inside

step_out-well : (d : Description) → IsKnown d → (label : Label) (i : EniNo) (m : Moment) → is_eni d i ≡ true → LeadsWell d (step_out d label i m).next
step_out-well d known label i m inside =
    let e = interface_at d i in
    let passing = passing_of d label i Outward m.header m.conns in
    cond_both e.idle _ _ (λ (s : Step). LeadsWell d s.next) (λ _. inside)
    (λ _. cond_both (e.checked && not (has_address e m.header.src)) _ _ (λ (s : Step). LeadsWell d s.next) (λ _. inside)
    (λ _. out_passing-well d known i m passing.by passing.conns inside))

taken_by-well : (d : Description) (i : EniNo) (h : Header) (boxes : Option (List Box5)) → is_eni d i ≡ true → LeadsWell d (taken_by d i h boxes)
taken_by-well d i h None inside = inside
taken_by-well d i h (Some boxes) inside =
    cond_both (has_address (interface_at d i) h.dst) (arrive (ends.Interface i)) (forwarded i h boxes) (LeadsWell d) (λ _. inside)
    (λ _. cond_both (passes boxes h) (go (places.OutOf i) h) (stop (stops.ApplianceDrop i)) (LeadsWell d) (λ _. inside) (λ _. inside))

in_passing-well : (d : Description) (appliances : Appliances) (i : EniNo) (m : Moment) (by : Option By) (conns : List Connection) → is_eni d i ≡ true → LeadsWell d (in_passing d appliances i m (record { by = by; conns = conns })).next
in_passing-well d appliances i m None conns inside = inside
in_passing-well d appliances i m (Some by) conns inside = taken_by-well d i m.header (boxes_at appliances i) inside

step_into-well : (d : Description) (appliances : Appliances) (label : Label) (i : EniNo) (m : Moment) → is_eni d i ≡ true → LeadsWell d (step_into d appliances label i m).next
step_into-well d appliances label i m inside =
    let e = interface_at d i in
    let passing = passing_of d label i Inward m.header m.conns in
    cond_both e.idle _ _ (λ (s : Step). LeadsWell d s.next) (λ _. inside)
    (λ _. cond_both (e.checked && not (has_address e m.header.dst)) _ _ (λ (s : Step). LeadsWell d s.next) (λ _. inside)
    (λ _. in_passing-well d appliances i m passing.by passing.conns inside))

-- ---- all places

step_at-well : (d : Description) → IsKnown d → (appliances : Appliances) (label : Label) (p : Place) (m : Moment) → is_sound d p ≡ true → LeadsWell d (step_at d appliances label p m).next
step_at-well d known appliances label (places.OutOf i) m sound = step_out-well d known label i m sound
step_at-well d known appliances label (places.Into i) m sound = step_into-well d appliances label i m sound
step_at-well d known appliances label (places.Router s came) m sound =
    let inside = (and_parts (is_subnet d s) (is_origin d came) sound).0 in
    let table = table_at d (table_of d s) in
    by_route-well d known s m.header (chosen_route d table.routes m.header.dst) inside (route-found d known s inside m.header.dst (chosen_route d table.routes m.header.dst) refl)
step_at-well d known appliances label (places.Enter v by) m sound = enter_by_table-well d known v m.header (entrance_table d v by) (and_parts (is_vpc d v) (is_entry d by) sound).0 (entrance_table-found d v by)
step_at-well d known appliances label (places.IgwOut v) m sound = go_public-well d known v m.header (public_of d v m.header.src) sound
step_at-well d known appliances label places.Internet m sound = step_internet-well d known m
step_at-well d known appliances label (places.IgwIn v) m sound = go_private-well d known v m.header (private_of d v m.header.dst) sound
step_at-well d known appliances label (places.NatOut n) m sound = step_nat_out-well d known label n m sound
step_at-well d known appliances label (places.NatIn n) m sound = step_nat_in-well d known label n m sound
step_at-well d known appliances label (places.Peer x v) m sound =
    let row = peering_at d x in
    let vpc = vpc_at d v in
    let outer = and_parts (is_peering d x) (is_vpc d v && joins d vpc.id row.pair) sound in
    let inner = and_parts (is_vpc d v) (joins d vpc.id row.pair) outer.1 in
    by_pair-well d known x v m.header row.pair outer.0 inner.1
step_at-well d known appliances label (places.Tgw a s) m sound =
    let parts = and_parts (is_attachment d a) (is_subnet d s) sound in
    by_tgw_table-well d known a s m.header (table_of_attachment d a) parts.0 parts.1 (attachment-table d a)
step_at-well d known appliances label (places.TgwLeave a s) m sound =
    let parts = and_parts (is_attachment d a) (is_subnet d s) sound in
    leave_by-well d a m.header (leave_subnet d a s) parts.0 (leave-found d known a s parts.0)
step_at-well d known appliances label (places.FarOut k) m sound =
    let f = far_at d k in
    out_by-well d known k f m.header f.kind sound (and_parts (is_far d k) (is_far_end d f) sound).1 refl
step_at-well d known appliances label (places.FarIn k) m sound =
    let f = far_at d k in
    in_by-well d known label k f m.header f.kind sound (and_parts (is_far d k) (is_far_end d f) sound).1 refl
step_at-well d known appliances label (places.Inspect e) m sound = step_inspect-well d known e m sound

-- ---- rules

rule-found : (d : Description) (e : Interface) (dir : Dir) (h : Header) (n : GroupNo) → is_group d n ≡ true → IfFound (is_rule d) (rule_of_group d e dir h n)
rule-found d e dir h n inside =
    let g = group_at d n in
    let p = permission_allows d (vpc_of_rules d e g) dir h in
    let rules = permissions_of dir g in
    let make : ℕ → RuleRef = λ k. record { group = n; dir = dir; number = k + 1 } in
    found-by make (is_rule d) p rules no_permission
    (λ k below _.
    let less = ltb-true k (length rules) below in
    and_from (is_group d n) (leb 1 (k + 1) && leb (k + 1) (length rules)) inside (and_from (leb 1 (k + 1)) (leb (k + 1) (length rules)) (le-leb 1 (k + 1) (omega arith)) (le-leb (k + 1) (length rules) (omega arith))))
    (position p rules) refl

group-found : (d : Description) (id : List ℕ) → IfFound (is_group d) (group_of_id d id)
group-found d id =
    let p : Group → Bool = λ g. bytes_eq g.id id in
    let make : ℕ → GroupNo = λ k. record { 0 = k } in
    found-by make (is_group d) p d.groups no_group (λ k inside _. inside) (position p d.groups) refl

rule_by-found : (d : Description) (e : Interface) (dir : Dir) (h : Header) (o : Option GroupNo) → IfFound (is_group d) o → IfFound (is_rule d) (option_and_then (rule_of_group d e dir h) o)
rule_by-found d e dir h None found = tt
rule_by-found d e dir h (Some n) found = rule-found d e dir h n found

pub first_rule-found : (d : Description) (e : Interface) (dir : Dir) (h : Header) (ids : List (List ℕ)) → IfFound (is_rule d) (first_rule_of d e dir h ids)
first_rule-found d e dir h [] = tt
first_rule-found d e dir h (id ∷ ids) =
    if_found-else (is_rule d) (option_and_then (rule_of_group d e dir h) (group_of_id d id)) (first_rule_of d e dir h ids) (rule_by-found d e dir h (group_of_id d id) (group-found d id)) (first_rule-found d e dir h ids)

lets-rule : (d : Description) (label : Label) (conns : List Connection) (c : Connection) (by : By) → LetsPass d label conns c by → has_rule d by ≡ true
lets-rule d label conns c bys.Nothing lets = refl
lets-rule d label conns c bys.NoGroups lets = refl
lets-rule d label conns c bys.Tracked lets = refl
lets-rule d label conns c (bys.Rule r) lets =
    let e = interface_at d c.eni in
    subst (IfFound (is_rule d)) lets.0 (first_rule-found d e c.dir c.header e.groups)

asks-rule : (d : Description) (label : Label) (conns : List Connection) (own : Option Connection) (by : By) → AsksGroups d label conns own by → has_rule d by ≡ true
asks-rule d label conns None by asks = subst (λ b. has_rule d b ≡ true) (sym asks) refl
asks-rule d label conns (Some c) by asks = lets-rule d label conns c by asks

pub known-accepted : (d : Description) → IsAccepted d → IsKnown d
known-accepted d accepted = record { named = accepted_has_all_named d accepted; ids = ids_are_found d; range = accepted_numbers_are_in_range d accepted }

pub steps_are_sound : (d : Description) (appliances : Appliances) (label : Label) (m : Moment) → IsAccepted d → is_sound d m.place ≡ true → let s = step_of d appliances label m in LeadsWell d s.next × (has_rule d s.by ≡ true)
steps_are_sound d appliances label m accepted sound =
    let s = step_of d appliances label m in
    (step_at-well d (known-accepted d accepted) appliances label m.place m sound, asks-rule d label m.conns (own_connection m.place m.header) s.by (packets_pass_by_groups d appliances label m))

-- The steps of a network, and of the same one in which no mode of Block Public Access is told.
use Rattle.std.proofs.Common.{Bool, List, None, Option, Some, [], ap, ap₂, bytes_eq, cond, false, filter, find, flat_map, get_or, inl, inr, is_none, is_some, length, map, not, option_and_then, option_map, position, refl, slice_index_or, suc, sym, true, unwrap_or, zero, ℕ, ◌&&◌, ◌+◌, ◌++◌, ◌==◌, ◌||◌, ◌∙◌, ◌∷◌, ◌≡◌, ◌⊎◌}
use Rattle.std.specs.List.{list_any, position_or_len}
use Rattle.std.specs.Prelude.{nat_lt}
use Rattle.vpc_base.specs.declared.headers.Dir.TheVariants as dirs
use Rattle.vpc_base.specs.declared.headers.Label.TheVariants as labels
use Rattle.vpc_model.specs.declared.outcomes.By.TheVariants as bys
use Rattle.vpc_model.specs.declared.places.Came.TheVariants as from
use Rattle.vpc_model.specs.declared.places.End.TheVariants as ends
use Rattle.vpc_base.proofs.Lemmas.{cond_both, false≢true}
use Rattle.prefix_text.specs.Block.{holds}
use Rattle.vpc_laws.specs.Access.{IsBlockedNext, IsOff, open_subnet, open_vpc, opened}
use Rattle.vpc_laws.specs.Types.{Access, AclNo, AttNo, Block, By, Description, Dir, EniNo, EnterBy, Far, FarKind, FarNo, FirewallNo, GroupNo, Header, IgwNo, Interface, Label, NatGateway, NatLife, NatNo, PeerNo, Place, RuleRef, Stop, Subnet, SubnetNo, TableNo, Target, TgwTableNo, Vpc, VpcNo}
use Rattle.vpc_model.specs.Terms.{Appliances, Connection, Moment, Next, Passing, Step, Translation, access_in, access_of, acl_at, acl_of, acl_verdict, answer_passing, arrive, attached_gateway, attachment_at, attachment_for, attachment_of_id, blocked, blocked_at, by_pair, by_route, chosen_route, crossing, deliver, eni_no, enter_host, entering, first_rule_of, first_subnet, from_inward, from_nat, gateway_of, go, go_private, go_public, group_at, group_of_id, has_address, has_block, has_vpc, host_of, igw_no, in_passing, interface_at, inward, is_attached, is_blocked, is_full, is_gateway, is_in_vpc, is_in_zone, is_listed, is_tracked, is_translatable, is_unroutable, label_passing, leave_by, leave_subnet, leaving, nat_at, nat_no, nat_of, new_translation, no_route, no_subnet, no_vpc, open_passing, or_else, other_side, out_passing, over_peering, own_address, own_subnet, owned_by, owner_of, pairs_in, pairs_of, passing_groups, passing_of, peer_no, peering_at, passes, permission_allows, permissions_of, plain, private_of, public_of, rule_of_group, step_at, step_into, step_nat_in, step_nat_out, step_out, stop, stops_at, subnet_at, subnet_no, subnet_of, table_at, table_of, table_of_attachment, tgw_table_at, to_host, to_interface, to_internet, to_nat, to_owner, to_peer, to_target, to_transit, to_zone, translate, translated_to, translation_of, unless_stopped, vpc_at, vpc_no, vpc_of_interface, vpc_of_subnet, vpcs_of_group, zone_subnet}
use Rattle.vpc_model.specs.Far.{blocks_beyond, blocks_of_other, described_vpc, far_end_of_id, far_of_id, is_elsewhere, is_far_end, is_half, is_within, peering_to, table_of_attachment_id, vpc_beside, vpc_of_pair}
use Rattle.vpc_model.specs.Firewalls.{boxes_behind, edge_table, entrance, entrance_table, firewall_of, firewall_of_id, is_firewall_in, is_followed}
use Rattle.vpc_model.specs.Lookup.{far_at, firewall_at, has_peering, has_subnet, igw_at}
use Rattle.vpc_model.specs.Step.Enter.{enter_by_route, enter_by_table, enter_firewall, enter_interface, enter_target}
use Rattle.vpc_model.specs.Step.Far.{in_by, in_by_attachment, in_by_endpoint, in_by_gateway, in_by_peering, out_by, over_half_peering, to_service}
use Rattle.vpc_model.specs.Step.Inspect.{firewall_subnet, step_inspect}
use Rattle.vpc_model.specs.Step.Router.{is_beside, to_far, to_firewall, to_half_peering, to_network_by, to_other}
use Rattle.vpc_model.specs.Step.Transit.{by_attachment, by_tgw_route, by_tgw_table, no_tgw_route, to_attached, to_attachment, to_first, to_leave}
use Rattle.vpc_model.specs.Transit.{chosen_tgw_route, first_described}
use Rattle.vpc_model.specs.declared.places.EnterBy.TheVariants as through
use Rattle.vpc_model.specs.declared.places.Place.TheVariants as places
use Rattle.vpc_model.specs.declared.rows.Access.TheVariants as modes
use Rattle.vpc_model.specs.declared.rows.FarKind.TheVariants as kinds
use Rattle.vpc_model.specs.declared.rows.NatLife.TheVariants as lives
use Rattle.vpc_model.specs.declared.rows.Target.TheVariants as targets
use Rattle.vpc_model.specs.declared.stops.Foreign.TheVariants as foreign
use Rattle.vpc_model.specs.declared.stops.Stop.TheVariants as stops

-- ---- lists

get-map : {X Y : Type 0} (f : X → Y) (xs : List X) (k : ℕ) (none : X) → get_or (map f xs) k (f none) ≡ f (get_or xs k none)
get-map f [] k none = refl
get-map f (x ∷ xs) zero none = refl
get-map f (x ∷ xs) (suc k) none = get-map f xs k none

any-map : {X Y : Type 0} (p : Y → Bool) (f : X → Y) (xs : List X) → list_any p (map f xs) ≡ list_any (λ x. p (f x)) xs
any-map p f [] = refl
any-map p f (x ∷ xs) = ap (λ b. p (f x) || b) (any-map p f xs)

first-map : {X Y : Type 0} (p : Y → Bool) (f : X → Y) (xs : List X) → position_or_len p (map f xs) ≡ position_or_len (λ x. p (f x)) xs
first-map p f [] = refl
first-map p f (x ∷ xs) = ap (λ n. cond (not (p (f x))) (1 + n) 0) (first-map p f xs)

first-same : {X : Type 0} (p q : X → Bool) → ((x : X) → p x ≡ q x) → (xs : List X) → position_or_len p xs ≡ position_or_len q xs
first-same p q same [] = refl
first-same p q same (x ∷ xs) = ap₂ (λ b n. cond (not b) (1 + n) 0) (same x) (first-same p q same xs)

position-same : {X : Type 0} (p q : X → Bool) → ((x : X) → p x ≡ q x) → (xs : List X) → position p xs ≡ position q xs
position-same p q same xs = ap (λ k. cond (nat_lt k (length xs)) (Some k) None) (first-same p q same xs)

filter-same : {X : Type 0} (p q : X → Bool) → ((x : X) → p x ≡ q x) → (xs : List X) → filter p xs ≡ filter q xs
filter-same p q same [] = refl
filter-same p q same (x ∷ xs) = ap₂ (λ b rest. cond b (x ∷ rest) rest) (same x) (filter-same p q same xs)

find-same : {X : Type 0} (p q : X → Bool) → ((x : X) → p x ≡ q x) → (xs : List X) → find p xs ≡ find q xs
find-same p q same [] = refl
find-same p q same (x ∷ xs) = ap₂ (λ b rest. cond b (Some x) rest) (same x) (find-same p q same xs)

flat_map-same : {X Y : Type 0} (f g : X → List Y) → ((x : X) → f x ≡ g x) → (xs : List X) → flat_map f xs ≡ flat_map g xs
flat_map-same f g same [] = refl
flat_map-same f g same (x ∷ xs) = ap₂ (λ a rest. a ++ rest) (same x) (flat_map-same f g same xs)

option_map-same : {X Y : Type 0} (f g : X → Y) → ((x : X) → f x ≡ g x) → (o : Option X) → option_map f o ≡ option_map g o
option_map-same f g same None = refl
option_map-same f g same (Some x) = ap (λ y. Some y) (same x)

module _ (d : Description) where
  abbrev e : Description
  e = opened d

  -- ---- rows and their numbers

  pub vpc-same : (v : VpcNo) → vpc_at e v ≡ open_vpc (vpc_at d v)
  vpc-same v = get-map open_vpc d.vpcs v.0 no_vpc

  pub subnet-same : (s : SubnetNo) → subnet_at e s ≡ open_subnet (subnet_at d s)
  subnet-same s = get-map open_subnet d.subnets s.0 no_subnet

  vpc_no-same : (id : List ℕ) → vpc_no e id ≡ vpc_no d id
  vpc_no-same id = let make : ℕ → VpcNo = λ k. record { 0 = k } in ap make (first-map (λ (v : Vpc). bytes_eq v.id id) open_vpc d.vpcs)

  has_vpc-same : (id : List ℕ) → has_vpc e id ≡ has_vpc d id
  has_vpc-same id = any-map (λ (v : Vpc). bytes_eq v.id id) open_vpc d.vpcs

  has_subnet-same : (id : List ℕ) → has_subnet e id ≡ has_subnet d id
  has_subnet-same id = any-map (λ (s : Subnet). bytes_eq s.id id) open_subnet d.subnets

  pub subnet_no-same : (id : List ℕ) → subnet_no e id ≡ subnet_no d id
  subnet_no-same id = let make : ℕ → SubnetNo = λ k. record { 0 = k } in ap make (first-map (λ (s : Subnet). bytes_eq s.id id) open_subnet d.subnets)

  pub subnet_of-same : (i : EniNo) → subnet_of e i ≡ subnet_of d i
  subnet_of-same i = let r = interface_at d i in subnet_no-same r.subnet

  vpc_of_subnet-same : (s : SubnetNo) → vpc_of_subnet e s ≡ vpc_of_subnet d s
  vpc_of_subnet-same s = ap (λ (r : Subnet). vpc_no e r.vpc) (subnet-same s) ∙ (let r = subnet_at d s in vpc_no-same r.vpc)

  vpc_of_interface-same : (r : Interface) → vpc_of_interface e r ≡ vpc_of_interface d r
  vpc_of_interface-same r = ap (λ (s : SubnetNo). (subnet_at e s).vpc) (subnet_no-same r.subnet) ∙ ap (λ (s : Subnet). s.vpc) (subnet-same (subnet_no d r.subnet))

  is_in_vpc-same : (v : VpcNo) (r : Interface) → is_in_vpc e v r ≡ is_in_vpc d v r
  is_in_vpc-same v r = ap₂ (λ (a : List ℕ) (b : List ℕ). bytes_eq a b) (vpc_of_interface-same r) (ap (λ (x : Vpc). x.id) (vpc-same v))

  pub host_of-same : (v : VpcNo) (a : ℕ) → host_of e v a ≡ host_of d v a
  host_of-same v a =
      let make : ℕ → EniNo = λ k. record { 0 = k } in
      ap (option_map make) (position-same (λ (r : Interface). has_address r a && is_in_vpc e v r) (λ (r : Interface). has_address r a && is_in_vpc d v r)
      (λ r. ap (λ (b : Bool). has_address r a && b) (is_in_vpc-same v r)) d.interfaces)

  table_of-same : (s : SubnetNo) → table_of e s ≡ table_of d s
  table_of-same s =
      ap (λ (row : Subnet). record { 0 = unwrap_or (or_else (position (λ t. is_listed row.id t.subnets) d.tables) (position (λ t. t.main && bytes_eq t.vpc row.vpc) d.tables)) (length d.tables) })
      (subnet-same s)

  acl_of-same : (s : SubnetNo) → acl_of e s ≡ acl_of d s
  acl_of-same s = ap (λ (row : Subnet). record { 0 = position_or_len (λ a. is_listed row.id a.subnets) d.acls }) (subnet-same s)

  gateway_of-same : (v : VpcNo) → gateway_of e v ≡ gateway_of d v
  gateway_of-same v = let make : ℕ → IgwNo = λ k. record { 0 = k } in ap (λ (row : Vpc). option_map make (position (λ g. is_listed row.id g.vpcs) d.igws)) (vpc-same v)

  attached_gateway-same : (v : VpcNo) → attached_gateway e v ≡ attached_gateway d v
  attached_gateway-same v = ap (λ (o : Option IgwNo). unwrap_or o (record { 0 = length d.igws })) (gateway_of-same v)

  has_block-same : (v : VpcNo) (a : ℕ) → has_block e v a ≡ has_block d v a
  has_block-same v a = ap (λ (row : Vpc). list_any (λ b. holds a b) row.blocks) (vpc-same v)

  -- ---- public addresses

  pairs_in-same : (v : VpcNo) → pairs_in e v ≡ pairs_in d v
  pairs_in-same v = ap (flat_map pairs_of) (filter-same (is_in_vpc e v) (is_in_vpc d v) (is_in_vpc-same v) d.interfaces)

  public_of-same : (v : VpcNo) (own : ℕ) → public_of e v own ≡ public_of d v own
  public_of-same v own = ap (λ (ps : List (ℕ × ℕ)). option_map (λ p. p.1) (find (λ p. p.0 == own) ps)) (pairs_in-same v)

  private_of-same : (v : VpcNo) (public : ℕ) → private_of e v public ≡ private_of d v public
  private_of-same v public = ap (λ (ps : List (ℕ × ℕ)). option_map (λ p. p.0) (find (λ p. p.1 == public) ps)) (pairs_in-same v)

  owned_by-same : (r : Interface) → owned_by e r ≡ owned_by d r
  owned_by-same r =
      ap (λ (id : List ℕ). map (λ p. (vpc_no e id, p.1)) (pairs_of r)) (vpc_of_interface-same r)
      ∙ ap (λ (v : VpcNo). map (λ p. (v, p.1)) (pairs_of r)) (vpc_no-same (vpc_of_interface d r))

  owner_of-same : (public : ℕ) → owner_of e public ≡ owner_of d public
  owner_of-same public = ap (λ (os : List (VpcNo × ℕ)). option_map (λ o. o.0) (find (λ o. o.1 == public) os)) (flat_map-same (owned_by e) (owned_by d) owned_by-same d.interfaces)

  -- ---- transit gateways

  is_in_zone-same : (zone id : List ℕ) → is_in_zone e zone id ≡ is_in_zone d zone id
  is_in_zone-same zone id =
      ap (λ (s : SubnetNo). bytes_eq (subnet_at e s).zone zone) (subnet_no-same id) ∙ ap (λ (s : Subnet). bytes_eq s.zone zone) (subnet-same (subnet_no d id))

  zone_subnet-same : (a : AttNo) (s : SubnetNo) → zone_subnet e a s ≡ zone_subnet d a s
  zone_subnet-same a s =
      let att = attachment_at d a in
      let row = subnet_at d s in
      ap (λ (r : Subnet). option_map (subnet_no e) (find (is_in_zone e r.zone) att.subnets)) (subnet-same s)
      ∙ ap (option_map (subnet_no e)) (find-same (is_in_zone e row.zone) (is_in_zone d row.zone) (is_in_zone-same row.zone) att.subnets)
      ∙ option_map-same (subnet_no e) (subnet_no d) subnet_no-same (find (is_in_zone d row.zone) att.subnets)

  attachment_for-same : (gateway : List ℕ) (s : SubnetNo) → attachment_for e gateway s ≡ attachment_for d gateway s
  attachment_for-same gateway s =
      let make : ℕ → AttNo = λ k. record { 0 = k } in
      ap (λ (row : Subnet). option_map make (position (λ a. bytes_eq a.gateway gateway && bytes_eq a.vpc row.vpc) d.attachments)) (subnet-same s)

  first_subnet-same : (ids : List (List ℕ)) → first_subnet e ids ≡ first_subnet d ids
  first_subnet-same [] = refl
  first_subnet-same (id ∷ ids) = ap (λ (s : SubnetNo). Some s) (subnet_no-same id)

  leave_subnet-same : (a : AttNo) (s : SubnetNo) → leave_subnet e a s ≡ leave_subnet d a s
  leave_subnet-same a s =
      let att = attachment_at d a in
      ap₂ (λ (b : Bool) (o : Option SubnetNo). cond b o None) (has_vpc-same att.vpc)
      (ap₂ (λ (x y : Option SubnetNo). or_else x y) (zone_subnet-same a s) (first_subnet-same att.subnets))

  first_described-same : (ids : List (List ℕ)) → first_described e ids ≡ first_described d ids
  first_described-same [] = refl
  first_described-same (id ∷ ids) = ap₂ (λ (b : Bool) (s : SubnetNo). cond b (Some s) None) (has_subnet-same id) (subnet_no-same id)

  -- ---- networks that aren't described

  is_half-same : (pair : Option (List ℕ × List ℕ)) → is_half e pair ≡ is_half d pair
  is_half-same None = refl
  is_half-same (Some pair) = ap₂ (λ (a b : Bool). cond a (not b) b) (has_vpc-same pair.0) (has_vpc-same pair.1)

  is_elsewhere-same : (vpc : Option (List ℕ)) → is_elsewhere e vpc ≡ is_elsewhere d vpc
  is_elsewhere-same None = refl
  is_elsewhere-same (Some vpc) = ap not (has_vpc-same vpc)

  ends-same : (id : List ℕ) (kind : FarKind) → is_far_end e (record { id = id; kind = kind }) ≡ is_far_end d (record { id = id; kind = kind })
  ends-same id (kinds.PrivateGateway vpc) = refl
  ends-same id (kinds.Attachment vpc) = is_elsewhere-same vpc
  ends-same id (kinds.Peering requester accepter) = let x = peering_at d (peer_no d id) in ap (λ (b : Bool). has_peering d id && b) (is_half-same x.pair)
  ends-same id (kinds.Endpoint vpc) = has_vpc-same vpc

  end_by-same : (k : Option FarNo)
      → option_and_then (λ (k : FarNo). cond (is_far_end e (far_at d k)) (Some k) None) k ≡ option_and_then (λ (k : FarNo). cond (is_far_end d (far_at d k)) (Some k) None) k
  end_by-same None = refl
  end_by-same (Some k) = let f = far_at d k in ap (λ (b : Bool). cond b (Some k) None) (ends-same f.id f.kind)

  far_end-same : (id : List ℕ) → far_end_of_id e id ≡ far_end_of_id d id
  far_end-same id = end_by-same (far_of_id d id)

  described_vpc-same : (vpc : Option (List ℕ)) → described_vpc e vpc ≡ described_vpc d vpc
  described_vpc-same None = refl
  described_vpc-same (Some vpc) = ap₂ (λ (b : Bool) (v : VpcNo). cond b (Some v) None) (has_vpc-same vpc) (vpc_no-same vpc)

  vpc_of_pair-same : (pair : Option (List ℕ × List ℕ)) → vpc_of_pair e pair ≡ vpc_of_pair d pair
  vpc_of_pair-same None = refl
  vpc_of_pair-same (Some pair) =
      ap₂ (λ (b : Bool) (v : VpcNo). cond b (Some v) (described_vpc e (Some pair.1))) (has_vpc-same pair.0) (vpc_no-same pair.0)
      ∙ ap (λ (o : Option VpcNo). cond (has_vpc d pair.0) (Some (vpc_no d pair.0)) o) (described_vpc-same (Some pair.1))

  beside-by : (id : List ℕ) (kind : FarKind) → vpc_beside e (record { id = id; kind = kind }) ≡ vpc_beside d (record { id = id; kind = kind })
  beside-by id (kinds.PrivateGateway vpc) = described_vpc-same vpc
  beside-by id (kinds.Attachment vpc) = refl
  beside-by id (kinds.Peering requester accepter) = let x = peering_at d (peer_no d id) in vpc_of_pair-same x.pair
  beside-by id (kinds.Endpoint vpc) = described_vpc-same (Some vpc)

  vpc_beside-same : (f : Far) → vpc_beside e f ≡ vpc_beside d f
  vpc_beside-same f = beside-by f.id f.kind

  blocks_of_other-same : (pair : Option (List ℕ × List ℕ)) (requester accepter : List Block) → blocks_of_other e pair requester accepter ≡ blocks_of_other d pair requester accepter
  blocks_of_other-same None requester accepter = refl
  blocks_of_other-same (Some pair) requester accepter = ap (λ (b : Bool). cond b accepter requester) (has_vpc-same pair.0)

  beyond-by : (id : List ℕ) (kind : FarKind) → blocks_beyond e (record { id = id; kind = kind }) ≡ blocks_beyond d (record { id = id; kind = kind })
  beyond-by id (kinds.PrivateGateway vpc) = refl
  beyond-by id (kinds.Attachment vpc) = refl
  beyond-by id (kinds.Peering requester accepter) = let x = peering_at d (peer_no d id) in blocks_of_other-same x.pair requester accepter
  beyond-by id (kinds.Endpoint vpc) = refl

  blocks_beyond-same : (f : Far) → blocks_beyond e f ≡ blocks_beyond d f
  blocks_beyond-same f = beyond-by f.id f.kind

  -- ---- firewall endpoints, and the tables of gateways

  is_firewall_in-same : (v : VpcNo) (x : FirewallNo) → is_firewall_in e v x ≡ is_firewall_in d v x
  is_firewall_in-same v x = let row = firewall_at d x in ap (λ (r : Vpc). bytes_eq row.vpc r.id && is_followed d row) (vpc-same v)

  firewall_by-same : (v : VpcNo) (x : Option FirewallNo)
      → option_and_then (λ (x : FirewallNo). cond (is_firewall_in e v x) (Some x) None) x ≡ option_and_then (λ (x : FirewallNo). cond (is_firewall_in d v x) (Some x) None) x
  firewall_by-same v None = refl
  firewall_by-same v (Some x) = ap (λ (b : Bool). cond b (Some x) None) (is_firewall_in-same v x)

  firewall_of-same : (v : VpcNo) (id : List ℕ) → firewall_of e v id ≡ firewall_of d v id
  firewall_of-same v id = firewall_by-same v (firewall_of_id d id)

  firewall_subnet-same : (x : FirewallNo) → firewall_subnet e x ≡ firewall_subnet d x
  firewall_subnet-same x = let row = firewall_at d x in subnet_no-same row.subnet

  entrance-same : (v : VpcNo) (by : EnterBy) → entrance e v by ≡ entrance d v by
  entrance-same v through.Gateway = ap (λ (o : Option IgwNo). option_map (λ (g : IgwNo). let row = igw_at d g in row.id) o) (gateway_of-same v)
  entrance-same v (through.Peering x) = refl
  entrance-same v (through.Far k) = refl

  entrance_table-same : (v : VpcNo) (by : EnterBy) → entrance_table e v by ≡ entrance_table d v by
  entrance_table-same v by = ap (λ (o : Option (List ℕ)). option_and_then (edge_table d) o) (entrance-same v by)

  -- ---- ACLs

  leaving-same : (s : SubnetNo) (h : Header) → leaving e s h ≡ leaving d s h
  leaving-same s h =
      ap (λ (n : AclNo). let a = acl_at d n in let verdict = acl_verdict a.rows dirs.Outward h in cond verdict.0 None (Some (stops.AclOut n verdict.1))) (acl_of-same s)

  entering-same : (s : SubnetNo) (h : Header) → entering e s h ≡ entering d s h
  entering-same s h =
      ap (λ (n : AclNo). let a = acl_at d n in let verdict = acl_verdict a.rows dirs.Inward h in cond verdict.0 None (Some (stops.AclIn n verdict.1))) (acl_of-same s)

  crossing-same : (s t : SubnetNo) (h : Header) → crossing e s t h ≡ crossing d s t h
  crossing-same s t h = ap₂ (λ (out into : Option Stop). cond (s.0 == t.0) None (or_else out into)) (leaving-same s h) (entering-same t h)

  -- ---- routers

  to_host-same : (s : SubnetNo) (h : Header) (i : Option EniNo) → to_host e s h i ≡ to_host d s h i
  to_host-same s h None = ap (λ (v : VpcNo). stop (stops.NoHost v)) (vpc_of_subnet-same s)
  to_host-same s h (Some i) =
      ap (λ (t : SubnetNo). unless_stopped (crossing e s t h) (deliver d i h)) (subnet_of-same i)
      ∙ ap (λ (o : Option Stop). unless_stopped o (deliver d i h)) (crossing-same s (subnet_of d i) h)

  to_internet-same : (s : SubnetNo) (h : Header) (g : IgwNo) → to_internet e s h g ≡ to_internet d s h g
  to_internet-same s h g =
      let v = vpc_of_subnet d s in
      ap (λ (w : VpcNo). cond (is_attached g (gateway_of e w)) (unless_stopped (leaving e s h) (go (places.IgwOut w) h)) (stop (stops.GatewayDetached g))) (vpc_of_subnet-same s)
      ∙ ap₂ (λ (o : Option IgwNo) (t : Option Stop). cond (is_attached g o) (unless_stopped t (go (places.IgwOut v) h)) (stop (stops.GatewayDetached g))) (gateway_of-same v) (leaving-same s h)

  to_nat-same : (s : SubnetNo) (h : Header) (n : NatNo) (life : NatLife) → to_nat e s h n life ≡ to_nat d s h n life
  to_nat-same s h n lives.Gone = refl
  to_nat-same s h n lives.Unmodelled = refl
  to_nat-same s h n (lives.Live subnet eni address) =
      ap (λ (t : SubnetNo). unless_stopped (crossing e s t h) (go (places.NatOut n) h)) (subnet_no-same subnet)
      ∙ ap (λ (o : Option Stop). unless_stopped o (go (places.NatOut n) h)) (crossing-same s (subnet_no d subnet) h)

  to_far-same : (s : SubnetNo) (h : Header) (k : FarNo) → to_far e s h k ≡ to_far d s h k
  to_far-same s h k = ap (λ (o : Option Stop). unless_stopped o (go (places.FarOut k) h)) (leaving-same s h)

  to_half_peering-same : (s : SubnetNo) (h : Header) (x : PeerNo) (k : Option FarNo) → to_half_peering e s h x k ≡ to_half_peering d s h x k
  to_half_peering-same s h x None = refl
  to_half_peering-same s h x (Some k) = to_far-same s h k

  to_peer-same : (s : SubnetNo) (h : Header) (x : PeerNo) (pair : Option (List ℕ × List ℕ)) → to_peer e s h x pair ≡ to_peer d s h x pair
  to_peer-same s h x None = refl
  to_peer-same s h x (Some pair) =
      let v = vpc_of_subnet d s in
      let row = vpc_at d v in
      let peering = peering_at d x in
      let half = to_half_peering d s h x (far_end_of_id d peering.id) in
      let same = ap (to_half_peering e s h x) (far_end-same peering.id) ∙ to_half_peering-same s h x (far_end_of_id d peering.id) in
      ap (λ (y : Next). let r = vpc_at e (vpc_of_subnet e s) in cond (has_vpc e (other_side r.id pair)) (unless_stopped (leaving e s h) (go (places.Peer x (vpc_of_subnet e s)) h)) y) same
      ∙ ap (λ (w : VpcNo). let r = vpc_at e w in cond (has_vpc e (other_side r.id pair)) (unless_stopped (leaving e s h) (go (places.Peer x w) h)) half) (vpc_of_subnet-same s)
      ∙ ap (λ (r : Vpc). cond (has_vpc e (other_side r.id pair)) (unless_stopped (leaving e s h) (go (places.Peer x v) h)) half) (vpc-same v)
      ∙ ap₂ (λ (b : Bool) (t : Option Stop). cond b (unless_stopped t (go (places.Peer x v) h)) half) (has_vpc-same (other_side row.id pair)) (leaving-same s h)

  to_zone-same : (s : SubnetNo) (h : Header) (a : AttNo) (t : Option SubnetNo) → to_zone e s h a t ≡ to_zone d s h a t
  to_zone-same s h a None = refl
  to_zone-same s h a (Some t) = ap₂ (λ (out into : Option Stop). unless_stopped (or_else out into) (go (places.Tgw a t) h)) (leaving-same s h) (entering-same t h)

  to_transit-same : (s : SubnetNo) (h : Header) (t : TableNo) (k : ℕ) (a : Option AttNo) → to_transit e s h t k a ≡ to_transit d s h t k a
  to_transit-same s h t k None = refl
  to_transit-same s h t k (Some a) = ap (to_zone e s h a) (zone_subnet-same a s) ∙ to_zone-same s h a (zone_subnet d a s)

  to_interface-same : (s : SubnetNo) (h : Header) (j : EniNo) → to_interface e s h j ≡ to_interface d s h j
  to_interface-same s h j =
      let r = interface_at d j in
      ap (λ (t : SubnetNo). unless_stopped (crossing e s t h) (cond (is_gateway r.kind) (stop (stops.NotAHost j)) (go (places.Into j) h))) (subnet_of-same j)
      ∙ ap (λ (o : Option Stop). unless_stopped o (cond (is_gateway r.kind) (stop (stops.NotAHost j)) (go (places.Into j) h))) (crossing-same s (subnet_of d j) h)

  is_beside-same : (s : SubnetNo) (k : FarNo) → is_beside (vpc_of_subnet e s) (vpc_beside e (far_at d k)) ≡ is_beside (vpc_of_subnet d s) (vpc_beside d (far_at d k))
  is_beside-same s k = ap₂ (λ (v : VpcNo) (w : Option VpcNo). is_beside v w) (vpc_of_subnet-same s) (vpc_beside-same (far_at d k))

  to_network_by-same : (s : SubnetNo) (h : Header) (t : TableNo) (k : ℕ) (far : FarNo) (kind : FarKind) → to_network_by e s h t k far kind ≡ to_network_by d s h t k far kind
  to_network_by-same s h t k far (kinds.PrivateGateway vpc) = ap₂ (λ (b : Bool) (x : Next). cond b x (stop (stops.FarDetached far))) (is_beside-same s far) (to_far-same s h far)
  to_network_by-same s h t k far (kinds.Endpoint vpc) = ap₂ (λ (b : Bool) (x : Next). cond b x (stop (stops.Unmodelled (foreign.Target t k)))) (is_beside-same s far) (to_far-same s h far)
  to_network_by-same s h t k far (kinds.Attachment vpc) = refl
  to_network_by-same s h t k far (kinds.Peering requester accepter) = refl

  to_firewall-same : (s : SubnetNo) (h : Header) (t : TableNo) (k : ℕ) (x : Option FirewallNo) → to_firewall e s h t k x ≡ to_firewall d s h t k x
  to_firewall-same s h t k None = refl
  to_firewall-same s h t k (Some x) =
      ap (λ (n : SubnetNo). unless_stopped (crossing e s n h) (go (places.Inspect x) h)) (firewall_subnet-same x)
      ∙ ap (λ (o : Option Stop). unless_stopped o (go (places.Inspect x) h)) (crossing-same s (firewall_subnet d x) h)

  to_other-same : (s : SubnetNo) (h : Header) (t : TableNo) (k : ℕ) (id : List ℕ) (far : Option FarNo) → to_other e s h t k id far ≡ to_other d s h t k id far
  to_other-same s h t k id None =
      let v = vpc_of_subnet d s in
      ap (λ (w : VpcNo). to_firewall e s h t k (firewall_of e w id)) (vpc_of_subnet-same s)
      ∙ ap (to_firewall e s h t k) (firewall_of-same v id)
      ∙ to_firewall-same s h t k (firewall_of d v id)
  to_other-same s h t k id (Some far) = let row = far_at d far in to_network_by-same s h t k far row.kind

  to_target-same : (s : SubnetNo) (h : Header) (t : TableNo) (k : ℕ) (target : Target) → to_target e s h t k target ≡ to_target d s h t k target
  to_target-same s h t k targets.Local =
      ap (λ (v : VpcNo). to_host e s h (host_of e v h.dst)) (vpc_of_subnet-same s)
      ∙ ap (to_host e s h) (host_of-same (vpc_of_subnet d s) h.dst) ∙ to_host-same s h (host_of d (vpc_of_subnet d s) h.dst)
  to_target-same s h t k (targets.Internet id) = to_internet-same s h (igw_no d id)
  to_target-same s h t k (targets.Nat id) = let row = nat_at d (nat_no d id) in to_nat-same s h (nat_no d id) row.life
  to_target-same s h t k (targets.Peer id) = let row = peering_at d (peer_no d id) in to_peer-same s h (peer_no d id) row.pair
  to_target-same s h t k (targets.Transit id) = ap (to_transit e s h t k) (attachment_for-same id s) ∙ to_transit-same s h t k (attachment_for d id s)
  to_target-same s h t k (targets.Interface id) = to_interface-same s h (eni_no d id)
  to_target-same s h t k (targets.Other id) = to_other-same s h t k id (far_of_id d id)

  by_route-same : (s : SubnetNo) (h : Header) (t : TableNo) (k : Option ℕ) → by_route e s h t k ≡ by_route d s h t k
  by_route-same s h t None = refl
  by_route-same s h t (Some k) =
      let table = table_at d t in
      let r = slice_index_or table.routes k no_route in
      ap (λ (x : Next). cond r.blackhole (stop (stops.Blackhole t k)) x) (to_target-same s h t k r.target)

  -- ---- other places

  enter_host-same : (v : VpcNo) (h : Header) (i : Option EniNo) → enter_host e v h i ≡ enter_host d v h i
  enter_host-same v h None = refl
  enter_host-same v h (Some i) =
      ap (λ (t : SubnetNo). unless_stopped (entering e t h) (deliver d i h)) (subnet_of-same i)
      ∙ ap (λ (o : Option Stop). unless_stopped o (deliver d i h)) (entering-same (subnet_of d i) h)

  enter_interface-same : (h : Header) (j : EniNo) → enter_interface e h j ≡ enter_interface d h j
  enter_interface-same h j =
      let r = interface_at d j in
      let next = cond (is_gateway r.kind) (stop (stops.NotAHost j)) (go (places.Into j) h) in
      ap (λ (t : SubnetNo). unless_stopped (entering e t h) next) (subnet_of-same j)
      ∙ ap (λ (o : Option Stop). unless_stopped o next) (entering-same (subnet_of d j) h)

  enter_firewall-same : (h : Header) (t : TableNo) (k : ℕ) (x : Option FirewallNo) → enter_firewall e h t k x ≡ enter_firewall d h t k x
  enter_firewall-same h t k None = refl
  enter_firewall-same h t k (Some x) =
      ap (λ (n : SubnetNo). unless_stopped (entering e n h) (go (places.Inspect x) h)) (firewall_subnet-same x)
      ∙ ap (λ (o : Option Stop). unless_stopped o (go (places.Inspect x) h)) (entering-same (firewall_subnet d x) h)

  enter_local-same : (v : VpcNo) (h : Header) → enter_host e v h (host_of e v h.dst) ≡ enter_host d v h (host_of d v h.dst)
  enter_local-same v h = ap (enter_host e v h) (host_of-same v h.dst) ∙ enter_host-same v h (host_of d v h.dst)

  enter_target-same : (v : VpcNo) (h : Header) (t : TableNo) (k : ℕ) (target : Target) → enter_target e v h t k target ≡ enter_target d v h t k target
  enter_target-same v h t k targets.Local = enter_local-same v h
  enter_target-same v h t k (targets.Interface id) = enter_interface-same h (eni_no d id)
  enter_target-same v h t k (targets.Other id) = ap (enter_firewall e h t k) (firewall_of-same v id) ∙ enter_firewall-same h t k (firewall_of d v id)
  enter_target-same v h t k (targets.Internet id) = refl
  enter_target-same v h t k (targets.Nat id) = refl
  enter_target-same v h t k (targets.Transit id) = refl
  enter_target-same v h t k (targets.Peer id) = refl

  enter_by_route-same : (v : VpcNo) (h : Header) (t : TableNo) (k : Option ℕ) → enter_by_route e v h t k ≡ enter_by_route d v h t k
  enter_by_route-same v h t None = refl
  enter_by_route-same v h t (Some k) =
      let table = table_at d t in
      let r = slice_index_or table.routes k no_route in
      ap (λ (x : Next). cond r.blackhole (stop (stops.Blackhole t k)) x) (enter_target-same v h t k r.target)

  enter_by_table-same : (v : VpcNo) (h : Header) (t : Option TableNo) → enter_by_table e v h t ≡ enter_by_table d v h t
  enter_by_table-same v h None = enter_local-same v h
  enter_by_table-same v h (Some t) = let table = table_at d t in enter_by_route-same v h t (chosen_route d table.routes h.dst)

  to_owner-same : (h : Header) (v : Option VpcNo) → to_owner e h v ≡ to_owner d h v
  to_owner-same h None = refl
  to_owner-same h (Some v) = ap (λ (o : Option IgwNo). cond (is_none o) (stop (stops.NoGateway v)) (go (places.IgwIn v) h)) (gateway_of-same v)

  over_peering-same : (x : PeerNo) (v w : VpcNo) (h : Header) → over_peering e x v w h ≡ over_peering d x v w h
  over_peering-same x v w h =
      ap₂ (λ (a b : Bool). cond (not a) (stop (stops.PeerSource x)) (cond (not b) (stop (stops.PeerDestination x)) (go (places.Enter w (through.Peering x)) h)))
      (has_block-same v h.src) (has_block-same w h.dst)

  by_pair-same : (x : PeerNo) (v : VpcNo) (h : Header) (pair : Option (List ℕ × List ℕ)) → by_pair e x v h pair ≡ by_pair d x v h pair
  by_pair-same x v h None = refl
  by_pair-same x v h (Some pair) =
      let row = vpc_at d v in
      ap (λ (r : Vpc). over_peering e x v (vpc_no e (other_side r.id pair)) h) (vpc-same v)
      ∙ ap (λ (w : VpcNo). over_peering e x v w h) (vpc_no-same (other_side row.id pair))
      ∙ over_peering-same x v (vpc_no d (other_side row.id pair)) h

  leave_by-same : (a : AttNo) (entered : SubnetNo) (h : Header) → leave_by a h (leave_subnet e a entered) ≡ leave_by a h (leave_subnet d a entered)
  leave_by-same a entered h = ap (leave_by a h) (leave_subnet-same a entered)

  to_leave-same : (h : Header) (a : AttNo) (entered : Option SubnetNo) → to_leave e h a entered ≡ to_leave d h a entered
  to_leave-same h a None = let row = attachment_at d a in ap (to_first h a) (first_described-same row.subnets)
  to_leave-same h a (Some s) = refl

  to_attachment-same : (entered : Option SubnetNo) (h : Header) (t : TgwTableNo) (k : ℕ) (a : Option AttNo) → to_attachment e entered h t k a ≡ to_attachment d entered h t k a
  to_attachment-same entered h t k None = refl
  to_attachment-same entered h t k (Some a) = to_leave-same h a entered

  to_attached-same : (entered : Option SubnetNo) (h : Header) (t : TgwTableNo) (k : ℕ) (id : List ℕ) (far : Option FarNo) → to_attached e entered h t k id far ≡ to_attached d entered h t k id far
  to_attached-same entered h t k id None = to_attachment-same entered h t k (attachment_of_id d id)
  to_attached-same entered h t k id (Some far) = refl

  by_attachment-same : (entered : Option SubnetNo) (h : Header) (t : TgwTableNo) (k : ℕ) (id : Option (List ℕ)) → by_attachment e entered h t k id ≡ by_attachment d entered h t k id
  by_attachment-same entered h t k None = refl
  by_attachment-same entered h t k (Some id) = ap (to_attached e entered h t k id) (far_end-same id) ∙ to_attached-same entered h t k id (far_end_of_id d id)

  by_tgw_route-same : (entered : Option SubnetNo) (h : Header) (t : TgwTableNo) (k : Option ℕ) → by_tgw_route e entered h t k ≡ by_tgw_route d entered h t k
  by_tgw_route-same entered h t None = refl
  by_tgw_route-same entered h t (Some k) =
      let table = tgw_table_at d t in
      let r = slice_index_or table.routes k no_tgw_route in
      ap (λ (x : Next). cond r.blackhole (stop (stops.TgwBlackhole t k)) x) (by_attachment-same entered h t k r.attachment)

  by_tgw_table-same : (a : AttNo) (entered : SubnetNo) (h : Header) (t : Option TgwTableNo) → by_tgw_table e a entered h t ≡ by_tgw_table d a entered h t
  by_tgw_table-same a entered h None = refl
  by_tgw_table-same a entered h (Some t) = let table = tgw_table_at d t in by_tgw_route-same (Some entered) h t (chosen_tgw_route table.routes h.dst)

  -- ---- into networks that aren't described, and from there

  over_half_peering-same : (k : FarNo) (x : PeerNo) (h : Header) (beyond : List Block) (v : Option VpcNo) → over_half_peering e k x h beyond v ≡ over_half_peering d k x h beyond v
  over_half_peering-same k x h beyond None = refl
  over_half_peering-same k x h beyond (Some v) =
      ap (λ (b : Bool). cond (not b) (stop (stops.PeerSource x)) (cond (not (is_within beyond h.dst)) (stop (stops.PeerDestination x)) (arrive (ends.Far k)))) (has_block-same v h.src)

  to_service-same : (k : FarNo) (h : Header) (v : Option VpcNo) → to_service e k h v ≡ to_service d k h v
  to_service-same k h None = refl
  to_service-same k h (Some v) = ap (λ (b : Bool). cond b (arrive (ends.Far k)) (stop (stops.FarSource k))) (has_block-same v h.src)

  out_by-same : (k : FarNo) (f : Far) (h : Header) (kind : FarKind) → out_by e k f h kind ≡ out_by d k f h kind
  out_by-same k f h (kinds.PrivateGateway vpc) = refl
  out_by-same k f h (kinds.Attachment vpc) = refl
  out_by-same k f h (kinds.Peering requester accepter) =
      let x = peering_to d f in
      ap₂ (λ (beyond : List Block) (v : Option VpcNo). over_half_peering e k x h beyond v) (blocks_beyond-same f) (vpc_beside-same f)
      ∙ over_half_peering-same k x h (blocks_beyond d f) (vpc_beside d f)
  out_by-same k f h (kinds.Endpoint vpc) = ap (to_service e k h) (vpc_beside-same f) ∙ to_service-same k h (vpc_beside d f)

  in_by_peering-same : (x : PeerNo) (h : Header) (beyond : List Block) (v : Option VpcNo) → in_by_peering e x h beyond v ≡ in_by_peering d x h beyond v
  in_by_peering-same x h beyond None = refl
  in_by_peering-same x h beyond (Some v) =
      ap (λ (b : Bool). cond (not (is_within beyond h.src)) (stop (stops.PeerSource x)) (cond (not b) (stop (stops.PeerDestination x)) (go (places.Enter v (through.Peering x)) h))) (has_block-same v h.dst)

  in_by_attachment-same : (k : FarNo) (h : Header) (t : Option TgwTableNo) → in_by_attachment e k h t ≡ in_by_attachment d k h t
  in_by_attachment-same k h None = refl
  in_by_attachment-same k h (Some t) = let table = tgw_table_at d t in by_tgw_route-same None h t (chosen_tgw_route table.routes h.dst)

  in_by-same : (label : Label) (k : FarNo) (f : Far) (h : Header) (kind : FarKind) → in_by e label k f h kind ≡ in_by d label k f h kind
  in_by-same label k f h (kinds.PrivateGateway vpc) = ap (in_by_gateway k h) (vpc_beside-same f)
  in_by-same label k f h (kinds.Attachment vpc) = in_by_attachment-same k h (table_of_attachment_id d f.id)
  in_by-same label k f h (kinds.Peering requester accepter) =
      let x = peering_to d f in
      ap₂ (λ (beyond : List Block) (v : Option VpcNo). in_by_peering e x h beyond v) (blocks_beyond-same f) (vpc_beside-same f)
      ∙ in_by_peering-same x h (blocks_beyond d f) (vpc_beside d f)
  in_by-same label k f h (kinds.Endpoint vpc) = ap (in_by_endpoint label k h) (vpc_beside-same f)

  step_inspect-same : (x : FirewallNo) (m : Moment) → step_inspect e x m ≡ step_inspect d x m
  step_inspect-same x m =
      ap (λ (s : SubnetNo). plain m (cond (passes (boxes_behind d x) m.header) (go (places.Router s (from.Firewall x)) m.header) (stop (stops.InspectDrop x)))) (firewall_subnet-same x)

  -- ---- gateways, where modes may stop packets

  -- without modes nothing is blocked
  open-mode : (s : SubnetNo) → access_of e s ≡ modes.Off
  open-mode s =
      ap (λ (r : Subnet). access_in e r) (subnet-same s) ∙ (let r = subnet_at d s in ap (λ (v : Vpc). unwrap_or v.access modes.Off) (vpc-same (vpc_no e r.vpc)))

  open-blocked : (i : Option EniNo) → option_and_then (blocked e) i ≡ None
  open-blocked None = refl
  open-blocked (Some i) = ap (λ (a : Access). cond (stops_at a (is_some (nat_of d i))) (Some (stops.BlockPublicAccess (subnet_of e i))) None) (open-mode (subnet_of e i))

  -- the packet is stopped by a mode, or goes on as it does without
  abbrev pub Or : Next → Next → Type 0
  Or x y = IsBlockedNext x ⊎ (x ≡ y)

  blocked-or : (i : Option EniNo) (x : Next) → Or (unless_stopped (option_and_then (blocked d) i) x) x
  blocked-or None x = inr refl
  blocked-or (Some i) x =
      cond_both (is_blocked d i) (Some (stops.BlockPublicAccess (subnet_of d i))) None (λ (o : Option Stop). Or (unless_stopped o x) x)
      (λ _. inl (record { subnet = subnet_of d i; stops_there = refl })) (λ _. inr refl)

  free : (v : VpcNo) (own : ℕ) (x : Next) → unless_stopped (blocked_at e v own) x ≡ x
  free v own x = ap (λ (o : Option Stop). unless_stopped o x) (open-blocked (host_of e v own))

  or-ends : (x y z : Next) → Or x y → y ≡ z → Or x z
  or-ends x y z (inl b) same = inl b
  or-ends x y z (inr is) same = inr (is ∙ same)

  go_public-or : (v : VpcNo) (h : Header) (a : Option ℕ) → Or (go_public d v h a) (go_public e v h a)
  go_public-or v h None = inr (ap (λ (g : IgwNo). stop (stops.NoPublic g)) (sym (attached_gateway-same v)))
  go_public-or v h (Some a) =
      let next = go places.Internet (record h { src = a }) in
      or-ends (go_public d v h (Some a)) next (go_public e v h (Some a)) (blocked-or (host_of d v h.src) next) (sym (free v h.src next))

  go_private-or : (v : VpcNo) (h : Header) (a : Option ℕ) → Or (go_private d v h a) (go_private e v h a)
  go_private-or v h None = inr refl
  go_private-or v h (Some a) =
      let next = go (places.Enter v through.Gateway) (record h { dst = a }) in
      or-ends (go_private d v h (Some a)) next (go_private e v h (Some a)) (blocked-or (host_of d v a) next) (sym (free v a next))

  -- ---- interfaces

  rule-same : (r : Interface) (dir : Dir) (h : Header) (n : GroupNo) → rule_of_group e r dir h n ≡ rule_of_group d r dir h n
  rule-same r dir h n =
      let g = group_at d n in
      let make : ℕ → RuleRef = λ k. record { group = n; dir = dir; number = k + 1 } in
      ap (λ (v : List ℕ). option_map make (position (permission_allows d (cond (is_listed v (vpcs_of_group d g)) v g.vpc) dir h) (permissions_of dir g)))
      (vpc_of_interface-same r)

  found_rule-same : (r : Interface) (dir : Dir) (h : Header) (o : Option GroupNo) → option_and_then (rule_of_group e r dir h) o ≡ option_and_then (rule_of_group d r dir h) o
  found_rule-same r dir h None = refl
  found_rule-same r dir h (Some n) = rule-same r dir h n

  rules-same : (r : Interface) (dir : Dir) (h : Header) (ids : List (List ℕ)) → first_rule_of e r dir h ids ≡ first_rule_of d r dir h ids
  rules-same r dir h [] = refl
  rules-same r dir h (id ∷ ids) = ap₂ (λ (o x : Option RuleRef). or_else o x) (found_rule-same r dir h (group_of_id d id)) (rules-same r dir h ids)

  label-same : (label : Label) (i : EniNo) (dir : Dir) (h : Header) (conns : List Connection) → label_passing e label i dir h conns ≡ label_passing d label i dir h conns
  label-same labels.Opening i dir h conns =
      let r = interface_at d i in ap (open_passing conns (record { eni = i; dir = dir; header = h })) (rules-same r dir h r.groups)
  label-same labels.Answer i dir h conns =
      let r = interface_at d i in
      ap (λ (o : Option RuleRef). cond (is_tracked conns i dir h) (record { by = Some bys.Tracked; conns = conns }) (answer_passing conns o)) (rules-same r dir h r.groups)

  passing-same : (label : Label) (i : EniNo) (dir : Dir) (h : Header) (conns : List Connection) (ids : List (List ℕ))
      → passing_groups e label i dir h conns ids ≡ passing_groups d label i dir h conns ids
  passing-same label i dir h conns [] = refl
  passing-same label i dir h conns (_ ∷ _) = label-same label i dir h conns

  out_passing-same : (i : EniNo) (m : Moment) (by : Option By) (conns : List Connection)
      → out_passing e i m (record { by = by; conns = conns }) ≡ out_passing d i m (record { by = by; conns = conns })
  out_passing-same i m None conns = refl
  out_passing-same i m (Some by) conns =
      ap (λ (s : SubnetNo). record { next = go (places.Router s (from.Host i)) m.header; by = by; conns = conns; nats = m.nats }) (subnet_of-same i)

  step_out-same : (label : Label) (i : EniNo) (m : Moment) → step_out e label i m ≡ step_out d label i m
  step_out-same label i m =
      let r = interface_at d i in
      let p = passing_of d label i dirs.Outward m.header m.conns in
      ap (λ (s : Step). cond r.idle (plain m (stop (stops.Detached i))) (cond (r.checked && not (has_address r m.header.src)) (plain m (stop (stops.SourceCheck i))) s))
      (ap (out_passing e i m) (passing-same label i dirs.Outward m.header m.conns r.groups) ∙ out_passing-same i m p.by p.conns)

  step_into-same : (appliances : Appliances) (label : Label) (i : EniNo) (m : Moment) → step_into e appliances label i m ≡ step_into d appliances label i m
  step_into-same appliances label i m =
      let r = interface_at d i in
      ap (λ (p : Passing). cond r.idle (plain m (stop (stops.Detached i))) (cond (r.checked && not (has_address r m.header.dst)) (plain m (stop (stops.DestCheck i))) (in_passing d appliances i m p)))
      (passing-same label i dirs.Inward m.header m.conns r.groups)

  -- ---- steps

  step_nat_out-same : (label : Label) (n : NatNo) (m : Moment) → step_nat_out e label n m ≡ step_nat_out d label n m
  step_nat_out-same labels.Answer n m = refl
  step_nat_out-same labels.Opening n m =
      ap (λ (s : Step). cond (is_translatable m.header.proto) s (plain m (stop (stops.NatProtocol n)))) (translate-same (translation_of m.nats n m.header))
    where
      row : NatGateway
      row = nat_at d n

      from-same : (h : Header) → from_nat e n h ≡ from_nat d n h
      from-same h = ap (λ (s : SubnetNo). go (places.Router s (from.Nat n)) h) (subnet_no-same (own_subnet row.life))

      translated-same : (t : Translation) → translated_to e n m t ≡ translated_to d n m t
      translated-same t = ap (λ (x : Next). record { next = x; by = bys.Nothing; conns = m.conns; nats = m.nats ++ t ∷ [] }) (from-same t.after)

      translate-same : (o : Option Translation) → translate e n m o ≡ translate d n m o
      translate-same None =
          ap (λ (s : Step). cond (is_full m.nats n m.header) (plain m (stop (stops.NatFull n))) s) (translated-same (new_translation m.nats n (own_address row.life) m.header))
      translate-same (Some t) = ap (plain m) (from-same t.after)

  step_nat_in-same : (label : Label) (n : NatNo) (m : Moment) → step_nat_in e label n m ≡ step_nat_in d label n m
  step_nat_in-same labels.Opening n m = refl
  step_nat_in-same labels.Answer n m = ap (plain m) (inward-same (inward m.nats n m.header))
    where
      inward-same : (o : Option Header) → from_inward e n o ≡ from_inward d n o
      inward-same None = refl
      inward-same (Some h) = let row = nat_at d n in ap (λ (s : SubnetNo). go (places.Router s (from.Nat n)) h) (subnet_no-same (own_subnet row.life))

  -- a step of the one is that of the other, or a mode stops it
  abbrev pub StepOr : Step → Step → Type 0
  StepOr s t = IsBlockedNext s.next ⊎ (s ≡ t)

  plain-or : (m : Moment) (x y : Next) → Or x y → StepOr (plain m x) (plain m y)
  plain-or m x y (inl b) = inl b
  plain-or m x y (inr is) = inr (ap (plain m) is)

  -- modes are asked at internet gateways alone
  abbrev asks_modes : Place → Bool
  asks_modes (places.IgwOut v) = true
  asks_modes (places.IgwIn v) = true
  asks_modes _ = false

  step_at-same : (appliances : Appliances) (label : Label) (p : Place) (m : Moment) → asks_modes p ≡ false → step_at d appliances label p m ≡ step_at e appliances label p m
  step_at-same appliances label (places.OutOf i) m elsewhere = sym (step_out-same label i m)
  step_at-same appliances label (places.Router s came) m elsewhere =
      let t = table_of d s in
      let table = table_at d t in
      ap (plain m) (sym (ap (λ (u : TableNo). by_route e s m.header u (chosen_route d (table_at d u).routes m.header.dst)) (table_of-same s) ∙ by_route-same s m.header t (chosen_route d table.routes m.header.dst)))
  step_at-same appliances label (places.Enter v by) m elsewhere =
      ap (plain m) (sym (ap (enter_by_table e v m.header) (entrance_table-same v by) ∙ enter_by_table-same v m.header (entrance_table d v by)))
  step_at-same appliances label (places.Into i) m elsewhere = sym (step_into-same appliances label i m)
  step_at-same appliances label (places.IgwOut v) m elsewhere = absurd (false≢true (sym elsewhere))
  step_at-same appliances label places.Internet m elsewhere =
      sym (ap (λ (x : Next). cond (is_unroutable m.header.src || is_unroutable m.header.dst) (plain m (stop stops.PrivateAddress)) (plain m x))
      (ap (to_owner e m.header) (owner_of-same m.header.dst) ∙ to_owner-same m.header (owner_of d m.header.dst)))
  step_at-same appliances label (places.IgwIn v) m elsewhere = absurd (false≢true (sym elsewhere))
  step_at-same appliances label (places.NatOut n) m elsewhere = sym (step_nat_out-same label n m)
  step_at-same appliances label (places.NatIn n) m elsewhere = sym (step_nat_in-same label n m)
  step_at-same appliances label (places.Peer x v) m elsewhere = let row = peering_at d x in ap (plain m) (sym (by_pair-same x v m.header row.pair))
  step_at-same appliances label (places.Tgw a entered) m elsewhere = ap (plain m) (sym (by_tgw_table-same a entered m.header (table_of_attachment d a)))
  step_at-same appliances label (places.TgwLeave a entered) m elsewhere = ap (plain m) (sym (leave_by-same a entered m.header))
  step_at-same appliances label (places.FarOut k) m elsewhere = let f = far_at d k in ap (plain m) (sym (out_by-same k f m.header f.kind))
  step_at-same appliances label (places.FarIn k) m elsewhere = let f = far_at d k in ap (plain m) (sym (in_by-same label k f m.header f.kind))
  step_at-same appliances label (places.Inspect x) m elsewhere = sym (step_inspect-same x m)

  pub step_at-or : (appliances : Appliances) (label : Label) (p : Place) (m : Moment) → StepOr (step_at d appliances label p m) (step_at e appliances label p m)
  step_at-or appliances label (places.IgwOut v) m =
      let public = public_of d v m.header.src in
      plain-or m (go_public d v m.header public) (go_public e v m.header (public_of e v m.header.src))
      (or-ends (go_public d v m.header public) (go_public e v m.header public) (go_public e v m.header (public_of e v m.header.src))
      (go_public-or v m.header public) (ap (go_public e v m.header) (sym (public_of-same v m.header.src))))
  step_at-or appliances label (places.IgwIn v) m =
      let own = private_of d v m.header.dst in
      plain-or m (go_private d v m.header own) (go_private e v m.header (private_of e v m.header.dst))
      (or-ends (go_private d v m.header own) (go_private e v m.header own) (go_private e v m.header (private_of e v m.header.dst))
      (go_private-or v m.header own) (ap (go_private e v m.header) (sym (private_of-same v m.header.dst))))
  step_at-or appliances label p m = inr (step_at-same appliances label p m refl)

  -- ---- where all modes are off

  off-blocked : IsOff d → (i : Option EniNo) → option_and_then (blocked d) i ≡ None
  off-blocked off None = refl
  off-blocked off (Some i) = ap (λ (a : Access). cond (stops_at a (is_some (nat_of d i))) (Some (stops.BlockPublicAccess (subnet_of d i))) None) (off (subnet_of d i))

  go_public-off : IsOff d → (v : VpcNo) (h : Header) (a : Option ℕ) → go_public d v h a ≡ go_public e v h a
  go_public-off off v h None = ap (λ (g : IgwNo). stop (stops.NoPublic g)) (sym (attached_gateway-same v))
  go_public-off off v h (Some a) =
      let next = go places.Internet (record h { src = a }) in
      ap (λ (o : Option Stop). unless_stopped o next) (off-blocked off (host_of d v h.src)) ∙ sym (free v h.src next)

  go_private-off : IsOff d → (v : VpcNo) (h : Header) (a : Option ℕ) → go_private d v h a ≡ go_private e v h a
  go_private-off off v h None = refl
  go_private-off off v h (Some a) =
      let next = go (places.Enter v through.Gateway) (record h { dst = a }) in
      ap (λ (o : Option Stop). unless_stopped o next) (off-blocked off (host_of d v a)) ∙ sym (free v a next)

  pub step_at-off : IsOff d → (appliances : Appliances) (label : Label) (p : Place) (m : Moment) → step_at d appliances label p m ≡ step_at e appliances label p m
  step_at-off off appliances label (places.IgwOut v) m =
      ap (plain m) (go_public-off off v m.header (public_of d v m.header.src) ∙ ap (go_public e v m.header) (sym (public_of-same v m.header.src)))
  step_at-off off appliances label (places.IgwIn v) m =
      ap (plain m) (go_private-off off v m.header (private_of d v m.header.dst) ∙ ap (go_private e v m.header) (sym (private_of-same v m.header.dst)))
  step_at-off off appliances label p m = step_at-same appliances label p m refl

-- The lists of an accepted description are short.
use Rattle.std.proofs.Common.{inl, inr, ◌≡◌, ◌||◌, Bool, List, [], ◌∷◌, ◌++◌, ap, arith, drop, false, filter, length, refl, subst}
use Rattle.std.specs.List.{Contains, list_any}
use Rattle.std.proofs.lemmas.Bool.{cases_Bool, ltb-false, or_parts}
use Rattle.std.proofs.lemmas.List.{length-drop}
use Rattle.vpc_base.proofs.Members.{append-nothing, filter-nothing, list_any-fails, map-nothing}
use Rattle.vpc_laws.specs.Types.{Acl, Appliance, Association, Attachment, Block, Description, Far, FarKind, FirewallEndpoint, Group, Interface, InternetGateway, ListName, NatGateway, Peering, Permission, PrefixList, Refusal, RouteTable, Subnet, TgwTable, Vpc}
use Rattle.vpc_model.specs.declared.refusals.ListName.TheVariants as lists
use Rattle.vpc_model.specs.declared.rows.FarKind.TheVariants as kinds
use Rattle.vpc_model.specs.declared.refusals.Refusal.TheVariants as refusals
use Rattle.vpc_model.specs.Accepted.{IsAccepted, is_long, is_long_far, is_long_group, is_long_rule, list_of_far, too_long, too_many_fars, too_many_rows}
use Rattle.vpc_laws.specs.Accepted.{HasShortLists, IsShort}
use Rattle.vpc_laws.proofs.Accepting.{AreEmpty, accepted_is_faultless, joined-nothing, nothing-joined}

is_long-short : {X : Type 0} (xs : List X) → is_long xs ≡ false → IsShort xs
is_long-short xs e = ltb-false 100000 (length xs) e

both-short : {X Y : Type 0} (xs : List X) (ys : List Y) → (is_long xs || is_long ys) ≡ false → IsShort xs × IsShort ys
both-short xs ys e = let parts = or_parts (is_long xs) (is_long ys) e in (is_long-short xs parts.0, is_long-short ys parts.1)

-- a list that isn't too long, and no row of which is
short-list : {X : Type 0} (name : ListName) (row_is_long : X → Bool) (rows : List X) → too_long name row_is_long rows ≡ [] → IsShort rows × ((x : X) → Contains rows x → row_is_long x ≡ false)
short-list name row_is_long rows e =
    elim (cases_Bool (is_long rows || list_any row_is_long rows)) [
      | inl long ↦ let some : refusals.TooManyRows name ∷ [] ≡ [] = (rw long at e) in absurd cc
      | inr short ↦
          let parts = or_parts (is_long rows) (list_any row_is_long rows) short in
          (is_long-short rows parts.0, λ x has. list_any-fails row_is_long rows x parts.1 has)
    ]

-- the rules of a group, and what one of them names
record IsShortGroup (g : Group) : Type 0 where
  pub inward : IsShort g.inward
  pub outward : IsShort g.outward
  pub rules : (p : Permission) → Contains (g.inward ++ g.outward) p → IsShort p.blocks × IsShort p.lists × IsShort p.groups

rule-short : (p : Permission) → is_long_rule p ≡ false → IsShort p.blocks × IsShort p.lists × IsShort p.groups
rule-short p e =
    let outer = or_parts (is_long p.blocks) (is_long p.lists || is_long p.groups) e in
    let inner = both-short p.lists p.groups outer.1 in
    (is_long-short p.blocks outer.0, inner.0, inner.1)

group-short : (g : Group) → is_long_group g ≡ false → IsShortGroup g
group-short g e =
    let outer = or_parts (is_long g.inward) (is_long g.outward || list_any is_long_rule (g.inward ++ g.outward)) e in
    let inner = or_parts (is_long g.outward) (list_any is_long_rule (g.inward ++ g.outward)) outer.1 in
    record {
      inward = is_long-short g.inward outer.0;
      outward = is_long-short g.outward inner.0;
      rules = λ p has. rule-short p (list_any-fails is_long_rule (g.inward ++ g.outward) p inner.1 has);
    }

-- the networks that aren't described, and the blocks of peerings
record AreShortFars (rows : List Far) : Type 0 where
  pub few : IsShort rows
  pub blocks : (f : Far) (requester accepter : List Block) → Contains rows f → f.kind ≡ kinds.Peering requester accepter → IsShort requester × IsShort accepter

rest-short : {X : Type 0} (xs : List X) → drop 100000 xs ≡ [] → IsShort xs
rest-short xs e = let none = ap length e in let left = length-drop 100000 xs in omega arith

fars-short : (d : Description) → too_many_fars d ≡ [] → AreShortFars d.fars
fars-short d e =
    let long : Far → Bool = λ f. is_long_far f.kind in
    let parts = append-nothing (drop 100000 d.fars) (filter long d.fars) (map-nothing (λ (f : Far). refusals.TooManyRows (list_of_far f.kind)) (drop 100000 d.fars ++ filter long d.fars) e) in
    record {
      few = rest-short d.fars parts.0;
      blocks = λ f requester accepter has is. both-short requester accepter (subst (λ (k : FarKind). is_long_far k ≡ false) is (filter-nothing long d.fars parts.1 f has));
    }

-- ---- the lists of a description

-- what is too long, by list
abbrev pub too_long_by_list : Description → List (List Refusal)
too_long_by_list d =
    too_long lists.Vpcs (λ (v : Vpc). is_long v.blocks) d.vpcs
    ∷ too_long lists.Subnets (λ (s : Subnet). false) d.subnets
    ∷ too_long lists.NetworkInterfaces (λ (e : Interface). is_long e.addresses || (is_long e.prefixes || is_long e.groups)) d.interfaces
    ∷ too_long lists.RouteTables (λ (t : RouteTable). is_long t.subnets || (is_long t.gateways || is_long t.routes)) d.tables
    ∷ too_long lists.PrefixLists (λ (l : PrefixList). is_long l.entries) d.lists
    ∷ too_long lists.NetworkAcls (λ (a : Acl). is_long a.subnets || is_long a.rows) d.acls
    ∷ too_long lists.SecurityGroups is_long_group d.groups
    ∷ too_long lists.InternetGateways (λ (g : InternetGateway). is_long g.vpcs) d.igws
    ∷ too_long lists.NatGateways (λ (n : NatGateway). false) d.nats
    ∷ too_long lists.VpcPeeringConnections (λ (x : Peering). false) d.peerings
    ∷ too_long lists.TransitGatewayVpcAttachments (λ (a : Attachment). is_long a.subnets) d.attachments
    ∷ too_long lists.TransitGatewayAttachments (λ (x : Association). false) d.associations
    ∷ too_long lists.TransitGatewayRoutes (λ (t : TgwTable). is_long t.routes) d.tgw_tables
    ∷ too_long lists.Appliances (λ (a : Appliance). false) d.appliances
    ∷ too_many_fars d
    ∷ too_long lists.VpcEndpoints (λ (e : FirewallEndpoint). false) d.firewalls
    ∷ []

pub none-too_long : (d : Description) → too_many_rows d ≡ [] → AreEmpty (too_long_by_list d)
none-too_long d none = (joined-nothing [] (too_long_by_list d) none).1

pub too_long-none : (d : Description) → AreEmpty (too_long_by_list d) → too_many_rows d ≡ []
too_long-none d none = nothing-joined [] (too_long_by_list d) refl none

pub accepted_has_short_lists : (d : Description) → IsAccepted d → HasShortLists d
accepted_has_short_lists d accepted = let faultless = accepted_is_faultless d accepted in by (none-too_long d faultless.lengths)
  where
    of_interface : (e : Interface) → (is_long e.addresses || (is_long e.prefixes || is_long e.groups)) ≡ false
        → (is_long e.addresses ≡ false) × ((is_long e.prefixes || is_long e.groups) ≡ false)
    of_interface e short = or_parts (is_long e.addresses) (is_long e.prefixes || is_long e.groups) short

    of_table : (t : RouteTable) → (is_long t.subnets || (is_long t.gateways || is_long t.routes)) ≡ false
        → (is_long t.subnets ≡ false) × ((is_long t.gateways || is_long t.routes) ≡ false)
    of_table t short = or_parts (is_long t.subnets) (is_long t.gateways || is_long t.routes) short

    by : AreEmpty (too_long_by_list d) → HasShortLists d
    by (of_vpcs, (of_subnets, (of_interfaces, (of_tables, (of_lists, (of_acls, (of_groups, (of_igws, (of_nats, (of_peerings, (of_attachments, (of_associations, (of_tgw_tables, (of_appliances, (of_fars, (of_firewalls, _)))))))))))))))) =
        let vpcs = short-list lists.Vpcs (λ (v : Vpc). is_long v.blocks) d.vpcs of_vpcs in
        let interfaces = short-list lists.NetworkInterfaces (λ (e : Interface). is_long e.addresses || (is_long e.prefixes || is_long e.groups)) d.interfaces of_interfaces in
        let tables = short-list lists.RouteTables (λ (t : RouteTable). is_long t.subnets || (is_long t.gateways || is_long t.routes)) d.tables of_tables in
        let entries = short-list lists.PrefixLists (λ (l : PrefixList). is_long l.entries) d.lists of_lists in
        let acls = short-list lists.NetworkAcls (λ (a : Acl). is_long a.subnets || is_long a.rows) d.acls of_acls in
        let groups = short-list lists.SecurityGroups is_long_group d.groups of_groups in
        let igws = short-list lists.InternetGateways (λ (g : InternetGateway). is_long g.vpcs) d.igws of_igws in
        let attachments = short-list lists.TransitGatewayVpcAttachments (λ (a : Attachment). is_long a.subnets) d.attachments of_attachments in
        let transit = short-list lists.TransitGatewayRoutes (λ (t : TgwTable). is_long t.routes) d.tgw_tables of_tgw_tables in
        record {
          vpcs = vpcs.0;
          blocks_of_vpc = λ v has. is_long-short v.blocks (vpcs.1 v has);
          subnets = (short-list lists.Subnets (λ (s : Subnet). false) d.subnets of_subnets).0;
          interfaces = interfaces.0;
          addresses_of_interface = λ e has. is_long-short e.addresses (of_interface e (interfaces.1 e has)).0;
          prefixes_of_interface = λ e has. (both-short e.prefixes e.groups (of_interface e (interfaces.1 e has)).1).0;
          groups_of_interface = λ e has. (both-short e.prefixes e.groups (of_interface e (interfaces.1 e has)).1).1;
          tables = tables.0;
          subnets_of_table = λ t has. is_long-short t.subnets (of_table t (tables.1 t has)).0;
          gateways_of_table = λ t has. (both-short t.gateways t.routes (of_table t (tables.1 t has)).1).0;
          routes_of_table = λ t has. (both-short t.gateways t.routes (of_table t (tables.1 t has)).1).1;
          lists = entries.0;
          entries_of_list = λ l has. is_long-short l.entries (entries.1 l has);
          acls = acls.0;
          subnets_of_acl = λ a has. (both-short a.subnets a.rows (acls.1 a has)).0;
          rows_of_acl = λ a has. (both-short a.subnets a.rows (acls.1 a has)).1;
          groups = groups.0;
          inward_of_group = λ g has. (group-short g (groups.1 g has)).inward;
          outward_of_group = λ g has. (group-short g (groups.1 g has)).outward;
          named_by_rule = λ g p has at. (group-short g (groups.1 g has)).rules p at;
          igws = igws.0;
          vpcs_of_gateway = λ g has. is_long-short g.vpcs (igws.1 g has);
          nats = (short-list lists.NatGateways (λ (n : NatGateway). false) d.nats of_nats).0;
          peerings = (short-list lists.VpcPeeringConnections (λ (x : Peering). false) d.peerings of_peerings).0;
          attachments = attachments.0;
          subnets_of_attachment = λ a has. is_long-short a.subnets (attachments.1 a has);
          associations = (short-list lists.TransitGatewayAttachments (λ (x : Association). false) d.associations of_associations).0;
          tgw_tables = transit.0;
          routes_of_tgw_table = λ t has. is_long-short t.routes (transit.1 t has);
          appliances = (short-list lists.Appliances (λ (a : Appliance). false) d.appliances of_appliances).0;
          fars = (fars-short d of_fars).few;
          blocks_of_far = λ f requester accepter has is. (fars-short d of_fars).blocks f requester accepter has is;
          firewalls = (short-list lists.VpcEndpoints (λ (e : FirewallEndpoint). false) d.firewalls of_firewalls).0;
        }

-- Cuts: the numbers at which the answers about headers may change. They are worked out in whole numbers, and
-- dropped where they lie past the last number of their side. Which lists give them in which order, and how
-- often, doesn't matter: a number is a cut where it is in the list.
use Rattle.std.specs.List.{flat_map}
use Rattle.std.specs.Prelude.{◌++◌, ◌∷◌, ◌+◌, ◌-◌, [], List, None, Option, Some, filter, map, nat_le, ℕ}
use Rattle.vpc_model.specs.Types.{Acl, AclRow, Appliance, Block, Box5, Description, EniNo, Far, FarKind, Group, Interface, Permission, Place, PrefixList, Reach, Route, RouteTable, TableNo, TgwRoute, TgwTable, TgwTableNo, Vpc}
use Rattle.vpc_model.specs.declared.places.Place.TheVariants as places
use Rattle.vpc_model.specs.declared.rows.FarKind.TheVariants as fars
use Rattle.vpc_model.specs.declared.rows.Reach.TheVariants as reaches
use Rattle.prefix_text.specs.Block.{last_of}
use Rattle.vpc_base.specs.Cuts.{CutLists, joined_cuts, no_cuts}
use Rattle.vpc_model.specs.Appliances.{boxes_of_kind}
use Rattle.vpc_model.specs.Far.{table_of_attachment_id}
use Rattle.vpc_model.specs.Firewalls.{entrance_table}
use Rattle.vpc_model.specs.Internet.{unroutable_blocks}
use Rattle.vpc_model.specs.Lookup.{entries_of, far_at, group_at, group_of_id, interface_at, table_at, table_of, tgw_table_at}
use Rattle.vpc_model.specs.Transit.{table_of_attachment}

-- ---- what each thing cuts

-- a block cuts before its first address and after its last
abbrev pub block_cuts : Block → List ℕ
block_cuts b = b.first ∷ (last_of b + 1) ∷ []

-- an address is cut out on both sides
abbrev pub address_cuts : ℕ → List ℕ
address_cuts a = a ∷ (a + 1) ∷ []

-- a public address, if there is one, is cut out on both sides
abbrev pub public_cuts : Option ℕ → List ℕ
public_cuts None = []
public_cuts (Some a) = address_cuts a

-- the private and the public address, if it has one
abbrev pub pair_cuts : ℕ × Option ℕ → List ℕ
pair_cuts x = address_cuts x.0 ++ public_cuts x.1

-- a protocol is cut out on both sides
abbrev pub proto_cuts : Option ℕ → List ℕ
proto_cuts None = []
proto_cuts (Some n) = n ∷ (n + 1) ∷ []

-- the first number of a range, and one past its last
abbrev pub edges : ℕ → ℕ → List ℕ
edges from to = from ∷ (to + 1) ∷ []

-- a source port may have come from a port 1,024 lower, at a NAT gateway (profile)
abbrev pub shifted_edges : List ℕ → List ℕ
shifted_edges es = es ++ map (λ e. e - 1024) (filter (nat_le 1024) es)

-- ---- what each row cuts

-- cuts of addresses, and of nothing else
abbrev pub cuts_of_blocks : List ℕ → CutLists
cuts_of_blocks addr = record no_cuts { addr = addr }

-- a rule cuts by its protocol, by the edges of its range and by its blocks
abbrev pub cuts_of_rule : Option ℕ → ℕ → ℕ → List Block → CutLists
cuts_of_rule proto from to blocks =
    record { proto = proto_cuts proto; addr = flat_map block_cuts blocks; p = shifted_edges (edges from to); q = edges from to }

-- the cuts of a row of an ACL
abbrev pub cuts_of_acl_row : AclRow → CutLists
cuts_of_acl_row r = cuts_of_rule r.proto r.q_from r.q_to (r.block ∷ [])

-- the blocks of a permission, with the entries of its prefix lists (EC2 API, DescribeSecurityGroups)
abbrev pub blocks_of_permission : Description → Permission → List Block
blocks_of_permission d p = p.blocks ++ flat_map (entries_of d) p.lists

-- the cuts of a permission
abbrev pub cuts_of_permission : Description → Permission → CutLists
cuts_of_permission d p = cuts_of_rule p.proto p.q_from p.q_to (blocks_of_permission d p)

-- the block of a route, or the entries of its prefix list (EC2 API, DescribeRouteTables)
abbrev pub blocks_of_reach : Description → Reach → List Block
blocks_of_reach d (reaches.Block b) = b ∷ []
blocks_of_reach d (reaches.List id) = entries_of d id

-- the cuts of a route
abbrev pub cuts_of_route : Description → Route → CutLists
cuts_of_route d r = cuts_of_blocks (flat_map block_cuts (blocks_of_reach d r.reach))

-- the cuts of a transit gateway route
abbrev pub cuts_of_tgw_route : TgwRoute → CutLists
cuts_of_tgw_route r = cuts_of_blocks (block_cuts r.block)

-- the cuts of all rows of a list
abbrev pub all_cuts : {X : Type 0} → (X → CutLists) → List X → CutLists
all_cuts f [] = no_cuts
all_cuts f (x ∷ xs) = joined_cuts (f x) (all_cuts f xs)

-- a box of an appliance cuts by all its sides, where the edges of p and of q cut both (profile)
abbrev pub cuts_of_box : Box5 → CutLists
cuts_of_box b =
    let rule_edges = edges b.p.0 b.p.1 ++ edges b.q.0 b.q.1 in
    record { proto = edges b.proto.0 b.proto.1; addr = edges b.src.0 b.src.1 ++ edges b.dst.0 b.dst.1; p = shifted_edges rule_edges; q = rule_edges }

-- ---- the whole description

-- the cuts of a VPC's blocks
abbrev pub cuts_of_vpc : Vpc → CutLists
cuts_of_vpc v = cuts_of_blocks (flat_map block_cuts v.blocks)

-- the cuts of an interface's addresses, and of the blocks that are delegated to it
abbrev pub cuts_of_interface : Interface → CutLists
cuts_of_interface e = cuts_of_blocks (flat_map pair_cuts e.addresses ++ flat_map block_cuts e.prefixes)

-- the cuts of an ACL's rows
abbrev pub cuts_of_acl : Acl → CutLists
cuts_of_acl a = all_cuts cuts_of_acl_row a.rows

-- the cuts of a prefix list's entries
abbrev pub cuts_of_list : PrefixList → CutLists
cuts_of_list l = cuts_of_blocks (flat_map block_cuts l.entries)

-- the cuts of a route table's routes
abbrev pub cuts_of_table : Description → RouteTable → CutLists
cuts_of_table d t = all_cuts (cuts_of_route d) t.routes

-- the blocks that a peering's two sides tell (EC2 API, DescribeVpcPeeringConnections)
abbrev pub blocks_of_far : FarKind → List Block
blocks_of_far (fars.PrivateGateway vpc) = []
blocks_of_far (fars.Attachment vpc) = []
blocks_of_far (fars.Peering requester accepter) = requester ++ accepter
blocks_of_far (fars.Endpoint vpc) = []

-- the cuts of these blocks
abbrev pub cuts_of_far : Far → CutLists
cuts_of_far f = cuts_of_blocks (flat_map block_cuts (blocks_of_far f.kind))

-- the cuts of an appliance's boxes
abbrev pub cuts_of_appliance : Appliance → CutLists
cuts_of_appliance a = all_cuts cuts_of_box (boxes_of_kind a.kind)

-- the rules of a group in both directions (EC2 API, DescribeSecurityGroups)
abbrev pub all_permissions : Group → List Permission
all_permissions g = g.inward ++ g.outward

-- the cuts of a group's permissions
abbrev pub cuts_of_group : Description → Group → CutLists
cuts_of_group d g = all_cuts (cuts_of_permission d) (all_permissions g)

-- the cuts of a transit gateway table's routes
abbrev pub cuts_of_tgw_table : TgwTable → CutLists
cuts_of_tgw_table t = all_cuts cuts_of_tgw_route t.routes

-- what is cut in every network: ICMP, TCP and UDP, the unroutable blocks, the well-known ports, and the echo request (profile)
abbrev pub fixed_cuts : CutLists
fixed_cuts = record {
  proto = 1 ∷ 2 ∷ 6 ∷ 7 ∷ 17 ∷ 18 ∷ [];
  addr = flat_map block_cuts unroutable_blocks;
  p = 1024 ∷ [];
  q = 2048 ∷ 2049 ∷ [];
}

-- what every place may ask: VPCs, interfaces, ACLs, appliances and the blocks of peerings
abbrev pub unbounded_standing : Description → CutLists
unbounded_standing d = joined_cuts fixed_cuts (joined_cuts (all_cuts cuts_of_vpc d.vpcs) (joined_cuts (all_cuts cuts_of_interface d.interfaces) (joined_cuts (all_cuts cuts_of_acl d.acls) (joined_cuts (all_cuts cuts_of_appliance d.appliances) (all_cuts cuts_of_far d.fars)))))

-- what only some places ask: prefix lists, route tables, groups and transit gateway tables
abbrev pub unbounded_asked : Description → CutLists
unbounded_asked d = joined_cuts (all_cuts cuts_of_list d.lists) (joined_cuts (all_cuts (cuts_of_table d) d.tables) (joined_cuts (all_cuts (cuts_of_group d) d.groups) (all_cuts cuts_of_tgw_table d.tgw_tables)))

-- the cuts that lie on their sides
abbrev pub on_sides : CutLists → CutLists
on_sides c = record {
  proto = filter (λ x. nat_le x 255) c.proto;
  addr = filter (λ x. nat_le x 4294967295) c.addr;
  p = filter (λ x. nat_le x 65535) c.p;
  q = filter (λ x. nat_le x 65535) c.q;
}

-- the cuts of a description
abbrev pub cuts_of : Description → CutLists
cuts_of d = on_sides (joined_cuts (unbounded_standing d) (unbounded_asked d))

-- the cuts that don't depend on the place
abbrev pub standing_cuts : Description → CutLists
standing_cuts d = on_sides (unbounded_standing d)

-- ---- the cuts at a place

-- the cuts of the group with this id, if it is described
abbrev pub cuts_of_group_id : Description → List ℕ → CutLists
cuts_of_group_id d id = elim (group_of_id d id) [ None ↦ no_cuts | Some g ↦ cuts_of_group d (group_at d g) ]

-- the cuts of an interface's groups
abbrev pub cuts_at_interface : Description → EniNo → CutLists
cuts_at_interface d i = let e = interface_at d i in all_cuts (cuts_of_group_id d) e.groups

-- the cuts of a transit gateway table, if there is one
abbrev pub cuts_at_tgw_table : Description → Option TgwTableNo → CutLists
cuts_at_tgw_table d None = no_cuts
cuts_at_tgw_table d (Some t) = cuts_of_tgw_table (tgw_table_at d t)

-- the cuts of a route table, if there is one
abbrev pub cuts_at_table : Description → Option TableNo → CutLists
cuts_at_table d None = no_cuts
cuts_at_table d (Some t) = cuts_of_table d (table_at d t)

-- the cuts of what routes packets from a network: the table of its attachment
abbrev pub cuts_from_far : Description → Far → CutLists
cuts_from_far d f =
    elim f.kind [
      | fars.PrivateGateway vpc ↦ no_cuts
      | fars.Attachment vpc ↦ cuts_at_tgw_table d (table_of_attachment_id d f.id)
      | fars.Peering requester accepter ↦ no_cuts
      | fars.Endpoint vpc ↦ no_cuts
    ]

-- the cuts of the rows that the place asks
abbrev pub asked_at : Description → Place → CutLists
asked_at d (places.OutOf i) = cuts_at_interface d i
asked_at d (places.Into i) = cuts_at_interface d i
asked_at d (places.Router s came) = cuts_of_table d (table_at d (table_of d s))
asked_at d (places.Tgw a entered) = cuts_at_tgw_table d (table_of_attachment d a)
asked_at d (places.Enter v by) = cuts_at_table d (entrance_table d v by)
asked_at d (places.IgwOut v) = no_cuts
asked_at d places.Internet = no_cuts
asked_at d (places.IgwIn v) = no_cuts
asked_at d (places.NatOut n) = no_cuts
asked_at d (places.NatIn n) = no_cuts
asked_at d (places.Peer x v) = no_cuts
asked_at d (places.TgwLeave a entered) = no_cuts
asked_at d (places.FarOut k) = no_cuts
asked_at d (places.FarIn k) = cuts_from_far d (far_at d k)
asked_at d (places.Inspect e) = no_cuts

-- the cuts on which the step at a place depends
abbrev pub cuts_at : Description → Place → CutLists
cuts_at d p = on_sides (joined_cuts (unbounded_standing d) (asked_at d p))

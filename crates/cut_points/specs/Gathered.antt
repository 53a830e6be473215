-- What is gathered: the cuts of each row, without the entries of the prefix lists that it names, since each
-- list gives its own.
use Rattle.std.specs.List.{flat_map}
use Rattle.std.specs.Prelude.{◌-◌, List, Option, filter, map, nat_le, ℕ}
use Rattle.cut_points.specs.Types.{ApplianceKind, Block, Description, FarKind, Group, Permission, Reach, Route, RouteTable}
use Rattle.vpc_model.specs.declared.rows.Reach.TheVariants as reaches
use Rattle.vpc_base.specs.Cuts.{CutLists, joined_cuts, no_cuts}
use Rattle.vpc_model.specs.Appliances.{boxes_of_kind}
use Rattle.vpc_model.specs.Cuts.{all_cuts, all_permissions, block_cuts, blocks_of_far, cuts_of_blocks, cuts_of_box, cuts_of_list, cuts_of_rule, cuts_of_tgw_table, on_sides, pair_cuts, unbounded_standing}

-- the gathered cuts and those of the others that lie on their sides
unfoldable pub gathered_with : CutLists → CutLists → CutLists
gathered_with gathered others = joined_cuts gathered (on_sides others)

-- the numbers that are not past a side's last one
abbrev pub up_to : ℕ → List ℕ → List ℕ
up_to last numbers = filter (λ n. nat_le n last) numbers

-- the source ports that a NAT gateway may have translated to these
abbrev pub translated_to : List ℕ → List ℕ
translated_to ports = map (λ e. e - 1024) (filter (nat_le 1024) ports)

-- the cuts of one block
abbrev pub cuts_of_block : Block → CutLists
cuts_of_block b = cuts_of_blocks (block_cuts b)

-- the cuts of a private address and its public one
abbrev pub cuts_of_pair : ℕ × Option ℕ → CutLists
cuts_of_pair x = cuts_of_blocks (pair_cuts x)

-- the cuts of what an appliance forwards
abbrev pub cuts_of_kind : ApplianceKind → CutLists
cuts_of_kind k = all_cuts cuts_of_box (boxes_of_kind k)

-- the cuts of the blocks that a peering's two sides tell
abbrev pub cuts_of_far_kind : FarKind → CutLists
cuts_of_far_kind k = cuts_of_blocks (flat_map block_cuts (blocks_of_far k))

-- the cuts of a permission but for its prefix lists
abbrev pub own_cuts_of_permission : Permission → CutLists
own_cuts_of_permission p = cuts_of_rule p.proto p.q_from p.q_to p.blocks

-- a prefix list is left out
abbrev pub own_cuts_of_reach : Reach → CutLists
own_cuts_of_reach (reaches.Block b) = cuts_of_block b
own_cuts_of_reach (reaches.List id) = no_cuts

-- the cuts of a route but for its prefix list
abbrev pub own_cuts_of_route : Route → CutLists
own_cuts_of_route r = own_cuts_of_reach r.reach

-- the cuts of a route table but for prefix lists
abbrev pub own_cuts_of_table : RouteTable → CutLists
own_cuts_of_table t = all_cuts own_cuts_of_route t.routes

-- the cuts of a group but for prefix lists
abbrev pub own_cuts_of_group : Group → CutLists
own_cuts_of_group g = all_cuts own_cuts_of_permission (all_permissions g)

-- the prefix lists, and what the other rows that only some places ask cut by themselves
abbrev pub own_asked : Description → CutLists
own_asked d = joined_cuts (all_cuts cuts_of_list d.lists) (joined_cuts (all_cuts own_cuts_of_table d.tables) (joined_cuts (all_cuts own_cuts_of_group d.groups) (all_cuts cuts_of_tgw_table d.tgw_tables)))

-- the cuts of a description, each prefix list's entries once
abbrev pub own_cuts : Description → CutLists
own_cuts d = joined_cuts (unbounded_standing d) (own_asked d)

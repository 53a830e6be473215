-- What decides of a packet at a place of its walk, in the order in which it is evaluated.
use Rattle.std.specs.Prelude.{◌∷◌, [], if◌then◌else◌, Bool, List, None, Option, Some, ℕ}
use Rattle.vpc_base.specs.declared.headers.Dir.TheVariants as dirs
use Rattle.vpc_laws.specs.Types.{AclNo, AttNo, By, Description, Dir, EnterBy, Far, FarKind, Header, Hop, Place, RuleRef, SubnetNo, TableNo, TgwTableNo, VpcNo}
use Rattle.vpc_model.specs.declared.outcomes.By.TheVariants as bys
use Rattle.vpc_model.specs.declared.places.Place.TheVariants as places
use Rattle.vpc_model.specs.Acls.{acl_verdict}
use Rattle.vpc_model.specs.Far.{table_of_attachment_id}
use Rattle.vpc_model.specs.Firewalls.{entrance_table}
use Rattle.vpc_model.specs.declared.rows.FarKind.TheVariants as fars
use Rattle.vpc_model.specs.Lookup.{acl_at, acl_of, far_at, host_of, table_at, table_of, tgw_table_at}
use Rattle.vpc_model.specs.Routes.{chosen_route}
use Rattle.vpc_model.specs.Transit.{chosen_tgw_route, table_of_attachment}
use Rattle.walk_reasons.specs.declared.borders.Borders.{Borders}
use Rattle.walk_reasons.specs.Borders.{of_entrance, of_host, of_route}

-- the rule of a group by which a packet passes, the row that a route table or a transit gateway's table chooses, what a network
-- ACL says of a packet that leaves or enters a subnet with the number of its rule, and the header that a gateway gives a packet
pub data Decision : Type 0 where
  group : RuleRef → Decision
  route : TableNo → ℕ → Decision
  transit : TgwTableNo → ℕ → Decision
  acl : AclNo → Dir → Bool × ℕ → Decision
  becomes : Header → Decision

-- a rule of a group, where one let the packet pass (VPC User Guide, "Security groups")
abbrev pub by_group : By → List Decision
by_group bys.Nothing = []
by_group bys.NoGroups = []
by_group bys.Tracked = []
by_group (bys.Rule r) = group r ∷ []

-- the verdict of a subnet's ACL (VPC User Guide, "Network ACL rules")
abbrev pub verdict_at : Description → Dir → Header → SubnetNo → Bool × ℕ
verdict_at d dir h s = let a = acl_at d (acl_of d s) in acl_verdict a.rows dir h

abbrev pub judgement : Description → Dir → Header → SubnetNo → Decision
judgement d dir h s = acl (acl_of d s) dir (verdict_at d dir h s)

-- that of the subnet that is entered, if one is
abbrev pub judged_in : Description → Header → Option SubnetNo → List Decision
judged_in d h None = []
judged_in d h (Some t) = judgement d dirs.Inward h t ∷ []

-- that of the subnet that is left, if one is, and then that of the one that is entered, unless the first one refuses (VPC User Guide, "Network ACLs")
abbrev pub judged_out : Description → Header → Option SubnetNo → List Decision → List Decision
judged_out d h None entering = entering
judged_out d h (Some s) entering = let verdict = verdict_at d dirs.Outward h s in judgement d dirs.Outward h s ∷ (if verdict.0 then entering else [])

-- what the ACLs at borders say of a packet, until one refuses it (VPC User Guide, "Network ACLs")
abbrev pub judged : Description → Header → Borders → List Decision
judged d h b = judged_out d h b.left (judged_in d h b.entered)

-- at a router, by the chosen route (VPC User Guide, "Route tables")
abbrev pub by_route : Description → SubnetNo → Header → TableNo → Option ℕ → List Decision
by_route d s h t None = []
by_route d s h t (Some k) = route t k ∷ judged d h (of_route d s h t k)

abbrev pub at_router : Description → SubnetNo → Header → List Decision
at_router d s h =
    let t = table_of d s in
    let table = table_at d t in
    by_route d s h t (chosen_route d table.routes h.dst)

-- by the chosen route of a gateway's table (VPC User Guide, "Gateway route tables")
abbrev pub by_entrance : Description → VpcNo → Header → TableNo → Option ℕ → List Decision
by_entrance d v h t None = []
by_entrance d v h t (Some k) = route t k ∷ judged d h (of_entrance d v h t k)

-- where a packet enters a VPC: by the table of the gateway if it has one (VPC User Guide, "Network ACLs")
abbrev pub at_table : Description → VpcNo → Header → Option TableNo → List Decision
at_table d v h None = judged d h (of_host d (host_of d v h.dst))
at_table d v h (Some t) = let table = table_at d t in by_entrance d v h t (chosen_route d table.routes h.dst)

abbrev pub at_entry : Description → VpcNo → EnterBy → Header → List Decision
at_entry d v by h = at_table d v h (entrance_table d v by)

-- at a transit gateway, by the chosen route of a table (Transit Gateways guide, "How transit gateways work")
abbrev pub by_tgw_route : TgwTableNo → Option ℕ → List Decision
by_tgw_route t None = []
by_tgw_route t (Some k) = transit t k ∷ []

abbrev pub by_tgw_table : Description → Header → Option TgwTableNo → List Decision
by_tgw_table d h None = []
by_tgw_table d h (Some t) = let table = tgw_table_at d t in by_tgw_route t (chosen_tgw_route table.routes h.dst)

abbrev pub at_transit : Description → AttNo → Header → List Decision
at_transit d a h = by_tgw_table d h (table_of_attachment d a)

-- from a network that isn't described: by the table of its attachment, where an attachment leads there
abbrev pub from_outside : Description → Header → Far → FarKind → List Decision
from_outside d h f (fars.PrivateGateway vpc) = []
from_outside d h f (fars.Attachment vpc) = by_tgw_table d h (table_of_attachment_id d f.id)
from_outside d h f (fars.Peering requester accepter) = []
from_outside d h f (fars.Endpoint vpc) = []

-- what decides at a place of a packet with this header, which passed groups by this
abbrev pub decided_at : Description → Header → By → Place → List Decision
decided_at d h by (places.OutOf i) = by_group by
decided_at d h by (places.Router s came) = at_router d s h
decided_at d h by (places.Enter v entry) = at_entry d v entry h
decided_at d h by (places.Into i) = by_group by
decided_at d h by (places.IgwOut v) = []
decided_at d h by places.Internet = []
decided_at d h by (places.IgwIn v) = []
decided_at d h by (places.NatOut n) = []
decided_at d h by (places.NatIn n) = []
decided_at d h by (places.Peer x v) = []
decided_at d h by (places.Tgw a entered) = at_transit d a h
decided_at d h by (places.TgwLeave a entered) = []
decided_at d h by (places.FarOut k) = []
decided_at d h by (places.FarIn k) = let f = far_at d k in from_outside d h f f.kind
decided_at d h by (places.Inspect e) = []

-- what decides at a hop
abbrev pub decided : Description → Hop → List Decision
decided d hop = decided_at d hop.header hop.by hop.place

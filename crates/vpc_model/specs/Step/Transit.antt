-- The transit gateway (Transit Gateways guide, "How transit gateways work").
use Rattle.std.specs.Prelude.{if◌then◌else◌, List, None, Option, Some, false, slice_index_or, true, ℕ}
use Rattle.vpc_model.specs.Types.{AttNo, Description, FarNo, Header, SubnetNo, TgwRoute, TgwTableNo}
use Rattle.vpc_model.specs.declared.stops.Foreign.TheVariants as foreign
use Rattle.vpc_model.specs.declared.places.Came.TheVariants as from
use Rattle.vpc_model.specs.declared.places.Place.TheVariants as places
use Rattle.vpc_model.specs.declared.stops.Stop.TheVariants as stops
use Rattle.vpc_model.specs.Far.{far_end_of_id}
use Rattle.vpc_model.specs.Lookup.{attachment_at, attachment_of_id, tgw_table_at}
use Rattle.vpc_model.specs.Step.Words.{Moment, Next, Step, go, plain, stop}
use Rattle.vpc_model.specs.Transit.{chosen_tgw_route, first_described, leave_subnet, table_of_attachment}

-- out by an attachment, of a packet that entered through no subnet: as if through the first one of the attachment (profile)
abbrev pub to_first : Header → AttNo → Option SubnetNo → Next
to_first h a None = stop (stops.Unmodelled (foreign.Attachment a))
to_first h a (Some s) = go (places.TgwLeave a s) h

-- out by an attachment
abbrev pub to_leave : Description → Header → AttNo → Option SubnetNo → Next
to_leave d h a None = let row = attachment_at d a in to_first h a (first_described d row.subnets)
to_leave d h a (Some entered) = go (places.TgwLeave a entered) h

-- out to a VPC by its attachment, where one is described (EC2 API, DescribeTransitGatewayVpcAttachments)
abbrev pub to_attachment : Description → Option SubnetNo → Header → TgwTableNo → ℕ → Option AttNo → Next
to_attachment d entered h t k None = stop (stops.Unmodelled (foreign.FarAttachment t k))
to_attachment d entered h t k (Some a) = to_leave d h a entered

-- into the network behind an attachment (EC2 API, DescribeTransitGatewayAttachments), else to a VPC
abbrev pub to_attached : Description → Option SubnetNo → Header → TgwTableNo → ℕ → List ℕ → Option FarNo → Next
to_attached d entered h t k id None = to_attachment d entered h t k (attachment_of_id d id)
to_attached d entered h t k id (Some far) = go (places.FarOut far) h

-- out by the attachment that the route names (EC2 API, SearchTransitGatewayRoutes)
abbrev pub by_attachment : Description → Option SubnetNo → Header → TgwTableNo → ℕ → Option (List ℕ) → Next
by_attachment d entered h t k None = stop (stops.Unmodelled (foreign.Table t))
by_attachment d entered h t k (Some id) = to_attached d entered h t k id (far_end_of_id d id)

-- a route that no table has
abbrev pub no_tgw_route : TgwRoute
no_tgw_route = record { block = record { first = 0; length = 32 }; blackhole = true; propagated = false; attachment = None }

-- by the chosen route; a blackhole stops the packet, which entered through a subnet, or from a network that isn't described (EC2 API, SearchTransitGatewayRoutes)
abbrev pub by_tgw_route : Description → Option SubnetNo → Header → TgwTableNo → Option ℕ → Next
by_tgw_route d entered h t None = stop (stops.TgwNoRoute t)
by_tgw_route d entered h t (Some k) =
    let table = tgw_table_at d t in
    let r = slice_index_or table.routes k no_tgw_route in
    if r.blackhole then stop (stops.TgwBlackhole t k) else by_attachment d entered h t k r.attachment

-- by the table of the attachment, its Association (EC2 API, DescribeTransitGatewayAttachments)
abbrev pub by_tgw_table : Description → AttNo → SubnetNo → Header → Option TgwTableNo → Next
by_tgw_table d a entered h None = stop (stops.TgwNoTable a)
by_tgw_table d a entered h (Some t) = let table = tgw_table_at d t in by_tgw_route d (Some entered) h t (chosen_tgw_route table.routes h.dst)

-- into a transit gateway (Transit Gateways guide, "How transit gateways work")
abbrev pub step_tgw : Description → AttNo → SubnetNo → Moment → Step
step_tgw d a entered m = plain m (by_tgw_table d a entered m.header (table_of_attachment d a))

-- on to the router of the subnet by which the packet leaves (Transit Gateways guide, "How transit gateways work")
abbrev pub leave_by : AttNo → Header → Option SubnetNo → Next
leave_by a h None = stop (stops.Unmodelled (foreign.Attachment a))
leave_by a h (Some s) = go (places.Router s (from.Transit a)) h

-- out of a transit gateway, in the zone where the packet entered if there is a subnet (profile)
abbrev pub step_tgw_leave : Description → AttNo → SubnetNo → Moment → Step
step_tgw_leave d a entered m = plain m (leave_by a m.header (leave_subnet d a entered))

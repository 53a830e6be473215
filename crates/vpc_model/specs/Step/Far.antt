-- Into a network that isn't described, and from there.
use Rattle.std.specs.Prelude.{if◌then◌else◌, List, None, Option, Some, not, ℕ}
use Rattle.vpc_model.specs.Types.{Block, Description, Far, FarKind, FarNo, Header, Label, PeerNo, TgwTableNo, VpcNo}
use Rattle.vpc_base.specs.declared.headers.Label.TheVariants as labels
use Rattle.vpc_model.specs.declared.places.End.TheVariants as ends
use Rattle.vpc_model.specs.declared.places.EnterBy.TheVariants as through
use Rattle.vpc_model.specs.declared.places.Place.TheVariants as places
use Rattle.vpc_model.specs.declared.rows.FarKind.TheVariants as kinds
use Rattle.vpc_model.specs.declared.stops.Stop.TheVariants as stops
use Rattle.vpc_model.specs.Far.{blocks_beyond, is_within, peering_to, table_of_attachment_id, vpc_beside}
use Rattle.vpc_model.specs.Lookup.{far_at, tgw_table_at}
use Rattle.vpc_model.specs.Peerings.{has_block}
use Rattle.vpc_model.specs.Step.Transit.{by_tgw_route}
use Rattle.vpc_model.specs.Step.Words.{Moment, Next, Step, arrive, go, plain, stop}
use Rattle.vpc_model.specs.Transit.{chosen_tgw_route}

-- ---- out

-- over a peering: from a block of the described VPC to one of the other (profile)
abbrev pub over_half_peering : Description → FarNo → PeerNo → Header → List Block → Option VpcNo → Next
over_half_peering d k x h beyond None = stop (stops.PeerNotActive x)
over_half_peering d k x h beyond (Some v) =
    if not (has_block d v h.src) then stop (stops.PeerSource x)
    else (if not (is_within beyond h.dst) then stop (stops.PeerDestination x) else arrive (ends.Far k))

-- to the service of a gateway endpoint: from a block of its VPC (AWS PrivateLink Guide, "Gateway endpoints")
abbrev pub to_service : Description → FarNo → Header → Option VpcNo → Next
to_service d k h None = stop (stops.FarSource k)
to_service d k h (Some v) = if has_block d v h.src then arrive (ends.Far k) else stop (stops.FarSource k)

-- by what leads there
abbrev pub out_by : Description → FarNo → Far → Header → FarKind → Next
out_by d k f h (kinds.PrivateGateway vpc) = arrive (ends.Far k)
out_by d k f h (kinds.Attachment vpc) = arrive (ends.Far k)
out_by d k f h (kinds.Peering requester accepter) = over_half_peering d k (peering_to d f) h (blocks_beyond d f) (vpc_beside d f)
out_by d k f h (kinds.Endpoint vpc) = to_service d k h (vpc_beside d f)

-- arrived, where the peering carries the packet, and a gateway endpoint serves its source
abbrev pub step_far_out : Description → FarNo → Moment → Step
step_far_out d k m = let f = far_at d k in plain m (out_by d k f m.header f.kind)

-- ---- in

-- by a virtual private gateway, which is attached to a described VPC (Site-to-Site VPN User Guide, "How it works")
abbrev pub in_by_gateway : FarNo → Header → Option VpcNo → Next
in_by_gateway k h None = stop (stops.FarDetached k)
in_by_gateway k h (Some v) = go (places.Enter v (through.Far k)) h

-- over a peering: from a block of the VPC that isn't described to one of the other (profile)
abbrev pub in_by_peering : Description → PeerNo → Header → List Block → Option VpcNo → Next
in_by_peering d x h beyond None = stop (stops.PeerNotActive x)
in_by_peering d x h beyond (Some v) =
    if not (is_within beyond h.src) then stop (stops.PeerSource x)
    else (if not (has_block d v h.dst) then stop (stops.PeerDestination x) else go (places.Enter v (through.Peering x)) h)

-- what a gateway endpoint's service sends: answers alone (AWS PrivateLink Guide, "Gateway endpoints")
abbrev pub in_by_endpoint : Label → FarNo → Header → Option VpcNo → Next
in_by_endpoint labels.Opening k h v = stop (stops.FarOpens k)
in_by_endpoint labels.Answer k h v = in_by_gateway k h v

-- by the route that the table of the attachment chooses (Transit Gateways guide, "How transit gateways work")
abbrev pub in_by_attachment : Description → FarNo → Header → Option TgwTableNo → Next
in_by_attachment d k h None = stop (stops.FarNoTable k)
in_by_attachment d k h (Some t) = let table = tgw_table_at d t in by_tgw_route d None h t (chosen_tgw_route table.routes h.dst)

-- by what leads there
abbrev pub in_by : Description → Label → FarNo → Far → Header → FarKind → Next
in_by d label k f h (kinds.PrivateGateway vpc) = in_by_gateway k h (vpc_beside d f)
in_by d label k f h (kinds.Attachment vpc) = in_by_attachment d k h (table_of_attachment_id d f.id)
in_by d label k f h (kinds.Peering requester accepter) = in_by_peering d (peering_to d f) h (blocks_beyond d f) (vpc_beside d f)
in_by d label k f h (kinds.Endpoint vpc) = in_by_endpoint label k h (vpc_beside d f)

-- from a network that isn't described
abbrev pub step_far_in : Description → Label → FarNo → Moment → Step
step_far_in d label k m = let f = far_at d k in plain m (in_by d label k f m.header f.kind)

-- What the rows of TransitGatewayVpcAttachments, TransitGatewayAttachments and TransitGatewayRoutes mean (EC2 API,
-- DescribeTransitGatewayVpcAttachments, DescribeTransitGatewayAttachments and SearchTransitGatewayRoutes).
use Rattle.std.specs.Prelude.{ℕ, ◌||◌, ◌==◌, Bool, List, Option, Some, None, bytes_eq, codes, option_map, slice_get, Result, Ok, if◌then◌else◌}
use Rattle.std.specs.List.{list_any}
use Rattle.serde_json.specs.Data.{Data}
use Rattle.serde_json.specs.Find.{as_str}
use Rattle.prefix_text.specs.Block.{Block, prefix_of}
use Rattle.json_fields.specs.FieldFault.{and_then, if_there, in_grammar, in_shape}
use Rattle.json_fields.specs.Fields.{id_if_of, id_in, id_of, needed, text_of, within_part}
use Rattle.json_fields.specs.Kept.{each_item, each_kept_item}
use Rattle.json_fields.specs.Paths.{at_member}
use Rattle.json_fields.specs.declared.fault.FieldFault.{FieldFault}
use Rattle.vpc_model.specs.declared.rows.Association.{Association}
use Rattle.vpc_model.specs.declared.rows.Attachment.{Attachment}
use Rattle.vpc_model.specs.declared.rows.TgwRoute.{TgwRoute}
use Rattle.vpc_model.specs.declared.rows.TgwTable.{TgwTable}
use Rattle.read_gateways.specs.Texts.{text_is}
use Rattle.read_gateways.specs.declared.transit.AttachmentHead.{AttachmentHead}

-- an id that is an item of a list itself
abbrev pub id_item : Data → List ℕ → Result (List ℕ) FieldFault
id_item item path = and_then (in_shape path (as_str item)) (λ text. in_grammar path (id_in text))

-- whether an attachment in this state carries packets (profile)
abbrev pub is_usable : List ℕ → Bool
is_usable state = bytes_eq state (codes "available") || bytes_eq state (codes "modifying")

-- the ids of an attachment, before its subnets in the order of reading
abbrev pub head_of : Data → List ℕ → Result AttachmentHead FieldFault
head_of row path =
    and_then (id_of row path (codes "TransitGatewayAttachmentId")) (λ id.
    and_then (id_of row path (codes "TransitGatewayId")) (λ gateway.
    and_then (id_of row path (codes "VpcId")) (λ vpc.
    Ok (record { id = id; gateway = gateway; vpc = vpc }))))

-- whether the attachment carries packets
abbrev pub is_usable_of : Data → List ℕ → Result Bool FieldFault
is_usable_of row path = and_then (needed text_of row path (codes "State")) (λ state. Ok (is_usable state))

-- an attachment, unless it is in another state
abbrev pub attachment_of : Data → List ℕ → Result (Option Attachment) FieldFault
attachment_of row path =
    and_then (head_of row path) (λ head.
    and_then (each_item id_item row path (codes "SubnetIds")) (λ subnets.
    and_then (is_usable_of row path) (λ usable.
    Ok (if usable then Some (record { id = head.id; gateway = head.gateway; vpc = head.vpc; subnets = subnets }) else None))))

-- an attachment with its table, unless it has none
abbrev pub association_of : Data → List ℕ → Result (Option Association) FieldFault
association_of row path =
    and_then (id_of row path (codes "TransitGatewayAttachmentId")) (λ attachment.
    and_then (within_part id_if_of row path (codes "Association") (codes "TransitGatewayRouteTableId")) (λ table.
    Ok (option_map (λ t. record { attachment = attachment; table = t }) table)))

-- whether a block's text is one of IPv6: it has a colon
abbrev pub is_ipv6 : List ℕ → Bool
is_ipv6 text = list_any (λ c. c == 58) text

-- the IPv4 block that a route serves, unless it serves one of IPv6
abbrev pub destination_of : Data → List ℕ → Result (Option Block) FieldFault
destination_of row path =
    and_then (needed text_of row path (codes "DestinationCidrBlock")) (λ text.
    if is_ipv6 text then Ok None else and_then (in_grammar (at_member path (codes "DestinationCidrBlock")) (prefix_of text)) (λ block. Ok (Some block)))

-- the attachment that an item of a route names
abbrev pub named_attachment : Data → List ℕ → Result (List ℕ) FieldFault
named_attachment item path = id_of item path (codes "TransitGatewayAttachmentId")

-- the first attachment that a route lists: it counts (profile)
abbrev pub first_attachment : Data → List ℕ → Result (Option (List ℕ)) FieldFault
first_attachment row path =
    and_then (each_item named_attachment row path (codes "TransitGatewayAttachments")) (λ attachments.
    Ok (slice_get attachments 0))

-- a route to a block
abbrev pub ipv4_route_of : Block → Data → List ℕ → Result TgwRoute FieldFault
ipv4_route_of block row path =
    and_then (text_is (codes "propagated") row path (codes "Type")) (λ propagated.
    and_then (text_is (codes "blackhole") row path (codes "State")) (λ blackhole.
    and_then (first_attachment row path) (λ attachment.
    Ok (record { block = block; blackhole = blackhole; propagated = propagated; attachment = attachment }))))

-- a route, unless it serves IPv6: then nothing else of it is read
abbrev pub tgw_route_of : Data → List ℕ → Result (Option TgwRoute) FieldFault
tgw_route_of row path = and_then (destination_of row path) (if_there (λ block. ipv4_route_of block row path))

-- a route table
abbrev pub tgw_table_of : Data → List ℕ → Result TgwTable FieldFault
tgw_table_of row path =
    and_then (id_of row path (codes "TransitGatewayRouteTableId")) (λ id.
    and_then (each_kept_item tgw_route_of row path (codes "Routes")) (λ routes.
    Ok (record { id = id; routes = routes })))

-- Where security groups count beside their own VPC (EC2 API, DescribeTransitGateways, DescribeTransitGatewayVpcAttachments and
-- DescribeSecurityGroupVpcAssociations).
use Rattle.std.specs.Prelude.{ℕ, Bool, List, Option, Some, None, codes, filter, map, Result, Ok, if◌then◌else◌}
use Rattle.serde_json.specs.Data.{Data}
use Rattle.json_fields.specs.FieldFault.{and_then}
use Rattle.json_fields.specs.Fields.{has_text, id_of, within_part}
use Rattle.json_fields.specs.Kept.{each_of, each_kept_of, first_of_each}
use Rattle.json_fields.specs.declared.fault.FieldFault.{FieldFault}
use Rattle.vpc_model.specs.declared.rows.GroupScope.{GroupScope}
use Rattle.vpc_model.specs.declared.rows.GroupVpc.{GroupVpc}
use Rattle.read_gateways.specs.Transit.{is_usable_of}
use Rattle.read_gateways.specs.declared.scope.NamingOption.{NamingOption}

-- whether groups may be named over a gateway or an attachment: that must be told
abbrev pub is_on_of : Data → List ℕ → Result Bool FieldFault
is_on_of row path = within_part (has_text (codes "enable")) row path (codes "Options") (codes "SecurityGroupReferencingSupport")

-- a transit gateway with its option
abbrev pub gateway_option_of : Data → List ℕ → Result NamingOption FieldFault
gateway_option_of row path =
    and_then (id_of row path (codes "TransitGatewayId")) (λ id.
    and_then (is_on_of row path) (λ on.
    Ok (record { id = id; on = on })))

-- an attachment that carries packets, with its option
abbrev pub attachment_option_of : Data → List ℕ → Result (Option NamingOption) FieldFault
attachment_option_of row path =
    and_then (id_of row path (codes "TransitGatewayAttachmentId")) (λ id.
    and_then (is_on_of row path) (λ on.
    and_then (is_usable_of row path) (λ usable.
    Ok (if usable then Some (record { id = id; on = on }) else None))))

-- a further VPC of a group, where the two are associated
abbrev pub group_vpc_of : Data → List ℕ → Result (Option GroupVpc) FieldFault
group_vpc_of row path =
    and_then (id_of row path (codes "GroupId")) (λ group.
    and_then (id_of row path (codes "VpcId")) (λ vpc.
    and_then (has_text (codes "associated") row path (codes "State")) (λ associated.
    Ok (if associated then Some (record { group = group; vpc = vpc }) else None))))

-- the ids of those whose option is on
abbrev pub ids_on : List NamingOption → List (List ℕ)
ids_on rows = map (λ row. row.id) (filter (λ row. row.on) rows)

-- the transit gateways over which groups may be named: of each, its first row counts
abbrev pub naming_gateways_of : Data → Result (List (List ℕ)) FieldFault
naming_gateways_of bundle =
    and_then (each_of gateway_option_of bundle (codes "TransitGateways")) (λ all.
    Ok (ids_on (first_of_each (λ row. row.id) all)))

-- the attachments that let them be named: of each, the first row that carries packets counts
abbrev pub naming_attachments_of : Data → Result (List (List ℕ)) FieldFault
naming_attachments_of bundle =
    and_then (each_kept_of attachment_option_of bundle (codes "TransitGatewayVpcAttachments")) (λ all.
    Ok (ids_on (first_of_each (λ row. row.id) all)))

-- where groups count beside their own VPC, or the first fault
abbrev pub scope_of : Data → Result GroupScope FieldFault
scope_of bundle =
    and_then (naming_gateways_of bundle) (λ gateways.
    and_then (naming_attachments_of bundle) (λ attachments.
    and_then (each_kept_of group_vpc_of bundle (codes "SecurityGroupVpcAssociations")) (λ vpcs.
    Ok (record { gateways = gateways; attachments = attachments; vpcs = vpcs }))))

-- What the lists of gateways in a bundle mean.
use Rattle.std.specs.Prelude.{List, codes, Result, Ok}
use Rattle.serde_json.specs.Data.{Data}
use Rattle.json_fields.specs.FieldFault.{and_then}
use Rattle.json_fields.specs.Kept.{each_of, each_kept_of, first_of_each}
use Rattle.json_fields.specs.declared.fault.FieldFault.{FieldFault}
use Rattle.vpc_model.specs.declared.rows.Association.{Association}
use Rattle.vpc_model.specs.declared.rows.Attachment.{Attachment}
use Rattle.vpc_model.specs.declared.rows.InternetGateway.{InternetGateway}
use Rattle.vpc_model.specs.declared.rows.NatGateway.{NatGateway}
use Rattle.vpc_model.specs.declared.rows.Peering.{Peering}
use Rattle.vpc_model.specs.declared.rows.TgwTable.{TgwTable}
use Rattle.read_gateways.specs.Internet.{internet_gateway_of}
use Rattle.read_gateways.specs.Nat.{nat_gateway_of}
use Rattle.read_gateways.specs.Peerings.{peering_of}
use Rattle.read_gateways.specs.Transit.{association_of, attachment_of, tgw_table_of}
use Rattle.read_gateways.specs.declared.reader.GatewayRows.{GatewayRows}
use Rattle.read_gateways.specs.declared.reader.TransitRows.{TransitRows}

-- the internet gateways
abbrev pub igws_of : Data → Result (List InternetGateway) FieldFault
igws_of bundle = each_of internet_gateway_of bundle (codes "InternetGateways")

-- the NAT gateways
abbrev pub nats_of : Data → Result (List NatGateway) FieldFault
nats_of bundle = each_of nat_gateway_of bundle (codes "NatGateways")

-- the peerings, each once, since both of its accounts may list it (profile)
abbrev pub peerings_of : Data → Result (List Peering) FieldFault
peerings_of bundle =
    and_then (each_of peering_of bundle (codes "VpcPeeringConnections")) (λ all.
    Ok (first_of_each (λ row. row.id) all))

-- the attachments of VPCs that carry packets, each once
abbrev pub attachments_of : Data → Result (List Attachment) FieldFault
attachments_of bundle =
    and_then (each_kept_of attachment_of bundle (codes "TransitGatewayVpcAttachments")) (λ all.
    Ok (first_of_each (λ row. row.id) all))

-- the tables of attachments that have one, each attachment once
abbrev pub associations_of : Data → Result (List Association) FieldFault
associations_of bundle =
    and_then (each_kept_of association_of bundle (codes "TransitGatewayAttachments")) (λ all.
    Ok (first_of_each (λ row. row.attachment) all))

-- the route tables of transit gateways
abbrev pub tgw_tables_of : Data → Result (List TgwTable) FieldFault
tgw_tables_of bundle = each_of tgw_table_of bundle (codes "TransitGatewayRoutes")

-- the lists of transit gateways, in the order of reading
abbrev pub transit_of : Data → Result TransitRows FieldFault
transit_of bundle =
    and_then (attachments_of bundle) (λ attachments.
    and_then (associations_of bundle) (λ associations.
    and_then (tgw_tables_of bundle) (λ tgw_tables.
    Ok (record { attachments = attachments; associations = associations; tgw_tables = tgw_tables }))))

-- the lists of all gateways, in the order of reading, or the first fault
abbrev pub gateways_of : Data → Result GatewayRows FieldFault
gateways_of bundle =
    and_then (igws_of bundle) (λ igws.
    and_then (nats_of bundle) (λ nats.
    and_then (peerings_of bundle) (λ peerings.
    and_then (transit_of bundle) (λ transit.
    Ok (record {
      igws = igws;
      nats = nats;
      peerings = peerings;
      attachments = transit.attachments;
      associations = transit.associations;
      tgw_tables = transit.tgw_tables;
    })))))

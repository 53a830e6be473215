-- How refusals of descriptions and of queries are printed, and the packets of a replay.
use Rattle.std.specs.Prelude.{◌∷◌, ◌≡◌, [], List, codes, map, ℕ}
use Rattle.vpc_laws.specs.Types.{Description, ListName}
use Rattle.query_words.specs.declared.refusal.QueryRefusal.TheVariants as queries
use Rattle.vpc_model.specs.declared.refusals.ListName.TheVariants as named
use Rattle.vpc_model.specs.declared.refusals.Refusal.TheVariants as refusals
use Rattle.report_examples.specs.Printed.{lines}
use Rattle.vpc_examples.specs.Networks.{behind_nat, open_rows}
use Rattle.vpc_examples.specs.Replayed.{answer_from_server, open_from}
use Rattle.vpc_examples.specs.Examples.{a_to_server, b_to_server}
use Rattle.block_report.specs.Queries.{query_refusal_text}
use Rattle.block_report.specs.Refusals.{refusal_text}
use Rattle.block_report.specs.Replays.{replay_text}
use Rattle.vpc_model.specs.Appliances.{appliances_of}
use Rattle.vpc_model.specs.Replay.{replay_of}

-- a list that is too long is told by the name that it has in a bundle
abbrev pub PrintsListNames : Type 0
PrintsListNames =
    let told : ListName → List ℕ = (λ name. refusal_text (refusals.TooManyRows name)) in
    map told (named.Vpcs ∷ named.Subnets ∷ named.NetworkInterfaces ∷ named.RouteTables ∷ named.PrefixLists ∷ named.NetworkAcls ∷ named.SecurityGroups ∷ [])
    ≡ codes "TooManyRows Vpcs"
    ∷ codes "TooManyRows Subnets"
    ∷ codes "TooManyRows NetworkInterfaces"
    ∷ codes "TooManyRows RouteTables"
    ∷ codes "TooManyRows PrefixLists"
    ∷ codes "TooManyRows NetworkAcls"
    ∷ codes "TooManyRows SecurityGroups"
    ∷ []

-- and so the lists of gateways, attachments, appliances and endpoints
abbrev pub PrintsGatewayListNames : Type 0
PrintsGatewayListNames =
    let told : ListName → List ℕ = (λ name. refusal_text (refusals.TooManyRows name)) in
    map told (named.InternetGateways ∷ named.NatGateways ∷ named.VpcPeeringConnections ∷ named.TransitGatewayVpcAttachments ∷ named.TransitGatewayAttachments ∷ named.TransitGatewayRoutes ∷ named.Appliances ∷ named.VpnGateways ∷ named.VpcEndpoints ∷ [])
    ≡ codes "TooManyRows InternetGateways"
    ∷ codes "TooManyRows NatGateways"
    ∷ codes "TooManyRows VpcPeeringConnections"
    ∷ codes "TooManyRows TransitGatewayVpcAttachments"
    ∷ codes "TooManyRows TransitGatewayAttachments"
    ∷ codes "TooManyRows TransitGatewayRoutes"
    ∷ codes "TooManyRows Appliances"
    ∷ codes "TooManyRows VpnGateways"
    ∷ codes "TooManyRows VpcEndpoints"
    ∷ []

-- each refusal of a query or packet with its argument
abbrev pub PrintsQueryRefusals : Type 0
PrintsQueryRefusals =
    map query_refusal_text (queries.BadWord 18 ∷ queries.UnknownId 4 ∷ queries.NotAnEnd (codes "eni-n") ∷ queries.NotAStart 4 ∷ queries.BothInternet ∷ queries.EmptyRange 8 ∷ queries.MaxOutOfRange ∷ queries.NoAddress (codes "eni-a") ∷ [])
    ≡ codes "BadWord 18"
    ∷ codes "UnknownId 4"
    ∷ codes "NotAnEnd eni-n"
    ∷ codes "NotAStart 4"
    ∷ codes "BothInternet"
    ∷ codes "EmptyRange 8"
    ∷ codes "MaxOutOfRange"
    ∷ codes "NoAddress eni-a"
    ∷ []

-- the packets of a replay: two hosts send from one port to one server, which answers to both ports and to a third one
abbrev pub PrintsReplay : Type 0
PrintsReplay =
    let d : Description = behind_nat open_rows in
    replay_text d (replay_of d (appliances_of d) (open_from 0 (a_to_server 5000) ∷ open_from 1 (b_to_server 5000) ∷ answer_from_server 5001 ∷ answer_from_server 5000 ∷ answer_from_server 5002 ∷ []))
    ≡ lines (codes "event 1 arrived internet tcp 203.0.113.5 198.51.100.7 5000 443"
    ∷ codes "event 2 arrived internet tcp 203.0.113.5 198.51.100.7 5001 443"
    ∷ codes "event 3 arrived eni-b tcp 198.51.100.7 10.0.2.20 443 5000"
    ∷ codes "event 4 arrived eni-a tcp 198.51.100.7 10.0.1.10 443 5000"
    ∷ codes "event 5 stopped NatUnsolicited nat-1 -"
    ∷ [])

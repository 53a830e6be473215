-- What the rows of Appliances mean, which are written by hand.
use Rattle.std.specs.Prelude.{ℕ, List, Option, Some, None, Result, Ok, Err, bytes_eq, codes, nat_le, option_and_then, option_map, if◌then◌else◌}
use Rattle.serde_json.specs.Data.{Data}
use Rattle.json_fields.specs.FieldFault.{and_then, in_shape}
use Rattle.json_fields.specs.Fields.{id_if_of, needed, prefix_of_field, text_in, text_of}
use Rattle.json_fields.specs.Kept.{each_of}
use Rattle.json_fields.specs.Paths.{at_member}
use Rattle.json_fields.specs.declared.fault.FieldFault.{FieldFault}
use Rattle.json_fields.specs.declared.fault.FieldFault.TheVariants.{BadText}
use Rattle.prefix_text.specs.Range.{range_of}
use Rattle.vpc_model.specs.declared.rows.Appliance.{Appliance}
use Rattle.vpc_model.specs.declared.rows.ApplianceAt.TheVariants as places
use Rattle.vpc_model.specs.declared.rows.ApplianceKind.{ApplianceKind}
use Rattle.vpc_model.specs.declared.rows.ApplianceKind.TheVariants as kinds
use Rattle.read_network.specs.declared.appliances.Standing.{Standing}

-- the range, where a port is in it
abbrev pub some_ports : ℕ × ℕ → Option (ℕ × ℕ)
some_ports range = if nat_le range.0 range.1 then Some range else None

-- the ports that the text writes, where it writes some
abbrev pub ports_of : List ℕ → Option (ℕ × ℕ)
ports_of text = option_and_then some_ports (range_of text)

-- a service's ports
abbrev pub service_of : Data → List ℕ → Result ApplianceKind FieldFault
service_of row path = and_then (needed (text_in ports_of) row path (codes "Ports")) (λ ports. Ok (kinds.Service ports.0 ports.1))

-- a peer's block
abbrev pub peer_of : Data → List ℕ → Result ApplianceKind FieldFault
peer_of row path = and_then (needed prefix_of_field row path (codes "Prefix")) (λ block. Ok (kinds.Peer block))

-- what the appliance forwards, by the text of its kind
abbrev pub kind_by : Data → List ℕ → List ℕ → Result ApplianceKind FieldFault
kind_by row path text =
    if bytes_eq text (codes "all") then Ok kinds.All
    else (if bytes_eq text (codes "none") then Ok kinds.Nothing
    else (if bytes_eq text (codes "service") then service_of row path
    else (if bytes_eq text (codes "peer") then peer_of row path
    else Err (BadText (at_member path (codes "Kind"))))))

-- what the appliance forwards
abbrev pub kind_at : Data → List ℕ → Result ApplianceKind FieldFault
kind_at row path = and_then (needed text_of row path (codes "Kind")) (kind_by row path)

-- it stands behind an endpoint; where none is told, it is an interface that lacks
abbrev pub behind_endpoint : Data → List ℕ → Result Standing FieldFault
behind_endpoint row path =
    and_then (id_if_of row path (codes "VpcEndpointId")) (λ endpoint.
    in_shape (at_member path (codes "NetworkInterfaceId")) (option_map (λ id. record { id = id; at = places.Endpoint }) endpoint))

-- it stands at an interface; an endpoint isn't read then
abbrev pub standing_by : Data → List ℕ → Option (List ℕ) → Result Standing FieldFault
standing_by row path None = behind_endpoint row path
standing_by row path (Some id) = Ok (record { id = id; at = places.Interface })

-- where the appliance stands
abbrev pub standing_of : Data → List ℕ → Result Standing FieldFault
standing_of row path = and_then (id_if_of row path (codes "NetworkInterfaceId")) (standing_by row path)

-- an appliance
abbrev pub appliance_of : Data → List ℕ → Result Appliance FieldFault
appliance_of row path =
    and_then (standing_of row path) (λ standing.
    and_then (kind_at row path) (λ kind.
    Ok (record { id = standing.id; at = standing.at; kind = kind })))

-- the appliances of a bundle
abbrev pub appliances_of : Data → Result (List Appliance) FieldFault
appliances_of bundle = each_of appliance_of bundle (codes "Appliances")

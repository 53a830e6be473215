-- What the rows of NetworkInterfaces mean (EC2 API, DescribeNetworkInterfaces).
use Rattle.std.specs.Prelude.{ℕ, ◌∷◌, ◌==◌, ◌&&◌, ◌||◌, ◌+◌, nat_le, Bool, false, not, List, Option, Some, None, Result, Ok, bytes_eq, codes, filter, map, unwrap_or, if◌then◌else◌, true}
use Rattle.std.specs.List.{list_any}
use Rattle.serde_json.specs.Data.{Data}
use Rattle.json_fields.specs.FieldFault.{and_then}
use Rattle.json_fields.specs.Fields.{addr_of_field, flag_of, has_text, id_of, needed, prefix_of_field, text_of, within_part}
use Rattle.json_fields.specs.Kept.{each_item}
use Rattle.json_fields.specs.declared.fault.FieldFault.{FieldFault}
use Rattle.prefix_text.specs.Block.{Block}
use Rattle.vpc_model.specs.declared.rows.Interface.{Interface}
use Rattle.vpc_model.specs.declared.rows.InterfaceKind.{InterfaceKind}
use Rattle.vpc_model.specs.declared.rows.InterfaceKind.TheVariants.{Host, Gateway}
use Rattle.read_network.specs.declared.interfaces.Addresses.{Addresses}
use Rattle.read_network.specs.declared.interfaces.Manner.{Manner}

-- ---- addresses

-- a private address, with its public one if it has one
abbrev pub private_address : Data → List ℕ → Result (ℕ × Option ℕ) FieldFault
private_address row path =
    and_then (needed addr_of_field row path (codes "PrivateIpAddress")) (λ own.
    and_then (within_part addr_of_field row path (codes "Association") (codes "PublicIp")) (λ public.
    Ok (own, public)))

-- the address is among those of the rows
abbrev pub is_listed : ℕ → List (ℕ × Option ℕ) → Bool
is_listed own listed = list_any (λ a. a.0 == own) listed

-- the addresses; the primary one stands before them, without a public address, where it isn't listed
abbrev pub with_primary : Option ℕ → List (ℕ × Option ℕ) → List (ℕ × Option ℕ)
with_primary None listed = listed
with_primary (Some own) listed = if is_listed own listed then listed else (own, None) ∷ listed

-- the primary address, and all of them
abbrev pub addresses_of : Data → List ℕ → Result Addresses FieldFault
addresses_of row path =
    and_then (addr_of_field row path (codes "PrivateIpAddress")) (λ primary.
    and_then (each_item private_address row path (codes "PrivateIpAddresses")) (λ listed.
    Ok (record { primary = primary; all = with_primary primary listed })))

-- ---- kinds

-- the small letter, where the character is an ASCII capital
abbrev pub small_letter : ℕ → ℕ
small_letter c = if nat_le 65 c && nat_le c 90 then c + 32 else c

-- the character is an underscore or a dash
abbrev pub is_joint : ℕ → Bool
is_joint c = (c == 95) || (c == 45)

-- the text in small letters, without what joins its words
abbrev pub letters_of : List ℕ → List ℕ
letters_of text = map small_letter (filter (λ c. not (is_joint c)) text)

-- whether the text, spelled in any of the ways that the calls of AWS use, names a gateway's interface (profile)
abbrev pub is_gateway_type : List ℕ → Bool
is_gateway_type text = bytes_eq (letters_of text) (codes "natgateway") || bytes_eq (letters_of text) (codes "transitgateway")

-- an interface of another type, or of none, is a host's (profile)
abbrev pub kind_of : Option (List ℕ) → InterfaceKind
kind_of None = Host
kind_of (Some text) = if is_gateway_type text then Gateway else Host

-- the kind of the row
abbrev pub kind_at : Data → List ℕ → Result InterfaceKind FieldFault
kind_at row path = and_then (text_of row path (codes "InterfaceType")) (λ text. Ok (kind_of text))

-- ---- the whole row

abbrev pub group_id : Data → List ℕ → Result (List ℕ) FieldFault
group_id row path = id_of row path (codes "GroupId")

-- its groups, whether it checks addresses, whether it is attached to nothing, and its kind
abbrev pub manner_of : Data → List ℕ → Result Manner FieldFault
manner_of row path =
    and_then (each_item group_id row path (codes "Groups")) (λ groups.
    and_then (flag_of row path (codes "SourceDestCheck")) (λ checked.
    and_then (has_text (codes "available") row path (codes "Status")) (λ idle.
    and_then (kind_at row path) (λ kind.
    Ok (record { groups = groups; checked = unwrap_or checked true; idle = idle; kind = kind })))))

-- a block that is delegated to an interface
abbrev pub delegated_prefix : Data → List ℕ → Result Block FieldFault
delegated_prefix item path = needed prefix_of_field item path (codes "Ipv4Prefix")

-- an interface
abbrev pub interface_of : Data → List ℕ → Result Interface FieldFault
interface_of row path =
    and_then (id_of row path (codes "NetworkInterfaceId")) (λ id.
    and_then (id_of row path (codes "SubnetId")) (λ subnet.
    and_then (addresses_of row path) (λ addresses.
    and_then (manner_of row path) (λ manner.
    and_then (each_item delegated_prefix row path (codes "Ipv4Prefixes")) (λ prefixes.
    Ok (record {
      id = id;
      subnet = subnet;
      primary = addresses.primary;
      addresses = addresses.all;
      prefixes = prefixes;
      groups = manner.groups;
      checked = manner.checked;
      idle = manner.idle;
      kind = manner.kind;
    }))))))

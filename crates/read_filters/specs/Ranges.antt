-- Ranges of q: of destination ports, or of ICMP messages, each as 256 times its type plus its code.
use Rattle.std.specs.Prelude.{ℕ, ◌+◌, ◌*◌, ◌==◌, ◌||◌, ℤ, pos, negsuc, List, Option, Some, None, unwrap_or, Result, Ok, if◌then◌else◌}
use Rattle.serde_json.specs.Data.{Data}
use Rattle.json_fields.specs.FieldFault.{and_then}
use Rattle.json_fields.specs.Fields.{number_of}
use Rattle.json_fields.specs.declared.fault.FieldFault.{FieldFault}
use Rattle.read_filters.specs.declared.ranges.QRange.{QRange}
use Rattle.read_filters.specs.declared.ranges.QKind.{QKind}
use Rattle.read_filters.specs.declared.ranges.QKind.TheVariants.{Ports, Messages, Anything}

-- what q holds under a protocol: ports for TCP and UDP, messages for ICMP (EC2 API, IpPermission and NetworkAclEntry)
abbrev pub kind_of : Option ℕ → QKind
kind_of None = Anything
kind_of (Some proto) = if proto == 6 || proto == 17 then Ports else if proto == 1 then Messages else Anything

-- the number, where one is told: -1 says all, as an absent number does (EC2 API, IpPermission)
abbrev pub told : Option ℤ → Option ℕ
told None = None
told (Some (pos n)) = Some n
told (Some (negsuc n)) = None

-- every q
abbrev pub every_q : QRange
every_q = record { first = 0; last = 65535 }

-- the ports from the first to the last, where an end that isn't told is open (profile)
abbrev pub port_range : Option ℕ → Option ℕ → QRange
port_range first last = record { first = unwrap_or first 0; last = unwrap_or last 65535 }

-- the messages of a type and a code, or of all codes, or all (EC2 API, IcmpTypeCode)
abbrev pub message_range : Option ℕ → Option ℕ → QRange
message_range None code = every_q
message_range (Some kind) None = record { first = kind * 256; last = kind * 256 + 255 }
message_range (Some kind) (Some code) = record { first = kind * 256 + code; last = kind * 256 + code }

-- the number of this member up to the greatest one, if it is there and isn't -1
abbrev pub number_up_to : ℕ → Data → List ℕ → List ℕ → Result (Option ℕ) FieldFault
number_up_to most row path field = and_then (number_of (negsuc 0) (pos most) row path field) (λ n. Ok (told n))

-- the range that two members of a row tell: the first and the last port, or the type and the code
abbrev pub range_of : QKind → Data → List ℕ → List ℕ → List ℕ → Result QRange FieldFault
range_of Ports row path first last =
    and_then (number_up_to 65535 row path first) (λ from.
    and_then (number_up_to 65535 row path last) (λ to.
    Ok (port_range from to)))
range_of Messages row path first last =
    and_then (number_up_to 255 row path first) (λ kind.
    and_then (number_up_to 255 row path last) (λ code.
    Ok (message_range kind code)))
range_of Anything row path first last = Ok every_q

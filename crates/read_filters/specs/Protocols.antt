-- Protocols as rules name them.
use Rattle.std.specs.Prelude.{ℕ, List, Option, Some, None, option_map, bytes_eq, codes, if◌then◌else◌}
use Rattle.prefix_text.specs.Number.{number_of}

-- a protocol by its number, or all of them, which are none of these numbers (EC2 API, NetworkAclEntry)
abbrev pub numbered_protocol : List ℕ → Option (Option ℕ)
numbered_protocol text = if bytes_eq text (codes "-1") then Some None else option_map Some (number_of text 255)

-- a protocol by its name or its number, or all of them (EC2 API, IpPermission)
abbrev pub named_protocol : List ℕ → Option (Option ℕ)
named_protocol text =
    if bytes_eq text (codes "tcp") then Some (Some 6)
    else if bytes_eq text (codes "udp") then Some (Some 17)
    else if bytes_eq text (codes "icmp") then Some (Some 1)
    else if bytes_eq text (codes "icmpv6") then Some (Some 58)
    else numbered_protocol text

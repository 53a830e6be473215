-- What the rows of NetworkAcls mean (EC2 API, DescribeNetworkAcls).
use Rattle.std.specs.Prelude.{ℕ, Bool, true, false, pos, List, Option, Some, None, bytes_eq, codes, Result, Ok, if◌then◌else◌}
use Rattle.serde_json.specs.Data.{Data}
use Rattle.json_fields.specs.FieldFault.{and_then, if_there}
use Rattle.json_fields.specs.Fields.{flag_of, id_of, member_of, needed, number_of, part_of, prefix_of_field, text_in}
use Rattle.json_fields.specs.Kept.{each_item, each_kept_item}
use Rattle.json_fields.specs.Paths.{at_member}
use Rattle.json_fields.specs.declared.fault.FieldFault.{FieldFault}
use Rattle.vpc_model.specs.declared.rows.Acl.{Acl}
use Rattle.vpc_model.specs.declared.rows.AclRow.{AclRow}
use Rattle.read_filters.specs.Protocols.{numbered_protocol}
use Rattle.read_filters.specs.Ranges.{kind_of, every_q, range_of, told}
use Rattle.read_filters.specs.declared.acls.AclHead.{AclHead}
use Rattle.read_filters.specs.declared.ranges.QRange.{QRange}
use Rattle.read_filters.specs.declared.ranges.QKind.{QKind}
use Rattle.read_filters.specs.declared.ranges.QKind.TheVariants.{Ports, Messages, Anything}

-- whether an action allows
abbrev pub action_of : List ℕ → Option Bool
action_of text =
    if bytes_eq text (codes "allow") then Some true
    else if bytes_eq text (codes "deny") then Some false
    else None

-- the number of a row, by which rows are tried
abbrev pub rule_number_of : Data → List ℕ → List ℕ → Result (Option ℕ) FieldFault
rule_number_of row path field = and_then (number_of (pos 1) (pos 65535) row path field) (λ n. Ok (told n))

-- what stands before the block in the order of reading
abbrev pub head_of : Data → List ℕ → Result AclHead FieldFault
head_of row path =
    and_then (needed rule_number_of row path (codes "RuleNumber")) (λ number.
    and_then (needed flag_of row path (codes "Egress")) (λ outward.
    and_then (needed (text_in numbered_protocol) row path (codes "Protocol")) (λ proto.
    and_then (needed (text_in action_of) row path (codes "RuleAction")) (λ allow.
    Ok (record { number = number; outward = outward; proto = proto; allow = allow })))))

-- the ports or the messages of an entry, each told by an object of its own
abbrev pub entry_range : QKind → Data → List ℕ → Result QRange FieldFault
entry_range Ports row path = range_of Ports (part_of row (codes "PortRange")) (at_member path (codes "PortRange")) (codes "From") (codes "To")
entry_range Messages row path = range_of Messages (part_of row (codes "IcmpTypeCode")) (at_member path (codes "IcmpTypeCode")) (codes "Type") (codes "Code")
entry_range Anything row path = Ok every_q

-- an entry for IPv4
abbrev pub ipv4_entry_of : Data → List ℕ → Result AclRow FieldFault
ipv4_entry_of row path =
    and_then (head_of row path) (λ head.
    and_then (needed prefix_of_field row path (codes "CidrBlock")) (λ block.
    and_then (entry_range (kind_of head.proto) row path) (λ q.
    Ok (record {
      number = head.number;
      outward = head.outward;
      allow = head.allow;
      proto = head.proto;
      q_from = q.first;
      q_to = q.last;
      block = block;
    }))))

-- an entry, unless it has no IPv4 block: then nothing else of it is read
abbrev pub entry_of : Data → List ℕ → Result (Option AclRow) FieldFault
entry_of row path = if_there (λ block. ipv4_entry_of row path) (member_of row (codes "CidrBlock"))

-- the subnet of an association
abbrev pub associated_subnet : Data → List ℕ → Result (List ℕ) FieldFault
associated_subnet row path = id_of row path (codes "SubnetId")

-- an ACL, with its subnets and its entries for IPv4
abbrev pub acl_of : Data → List ℕ → Result Acl FieldFault
acl_of row path =
    and_then (id_of row path (codes "NetworkAclId")) (λ id.
    and_then (each_item associated_subnet row path (codes "Associations")) (λ subnets.
    and_then (each_kept_item entry_of row path (codes "Entries")) (λ rows.
    Ok (record { id = id; subnets = subnets; rows = rows }))))

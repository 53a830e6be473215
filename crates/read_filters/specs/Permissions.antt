-- What the permissions of security groups mean (EC2 API, IpPermission).
use Rattle.std.specs.Prelude.{ℕ, List, Option, None, codes, Result, Ok}
use Rattle.serde_json.specs.Data.{Data}
use Rattle.prefix_text.specs.Block.{Block}
use Rattle.json_fields.specs.FieldFault.{and_then}
use Rattle.json_fields.specs.Fields.{id_if_of, id_of, needed, prefix_of_field, text_in}
use Rattle.json_fields.specs.Kept.{each_item, each_kept_item}
use Rattle.json_fields.specs.declared.fault.FieldFault.{FieldFault}
use Rattle.vpc_model.specs.declared.rows.Permission.{Permission}
use Rattle.read_filters.specs.Protocols.{named_protocol}
use Rattle.read_filters.specs.Ranges.{kind_of, range_of}
use Rattle.read_filters.specs.declared.permissions.Traffic.{Traffic}
use Rattle.read_filters.specs.declared.permissions.Targets.{Targets}

-- the packets that a permission is for, told by its protocol and two numbers: ports, or an ICMP type and code
abbrev pub traffic_of : Data → List ℕ → Result Traffic FieldFault
traffic_of row path =
    and_then (needed (text_in named_protocol) row path (codes "IpProtocol")) (λ proto.
    and_then (range_of (kind_of proto) row path (codes "FromPort") (codes "ToPort")) (λ q.
    Ok (record { proto = proto; q = q })))

-- the block of an IPv4 range
abbrev pub range_block : Data → List ℕ → Result Block FieldFault
range_block row path = needed prefix_of_field row path (codes "CidrIp")

-- the id of a prefix list
abbrev pub named_list : Data → List ℕ → Result (List ℕ) FieldFault
named_list row path = id_of row path (codes "PrefixListId")

-- the group of a pair, which may have none
abbrev pub paired_group : Data → List ℕ → Result (Option (List ℕ)) FieldFault
paired_group row path = id_if_of row path (codes "GroupId")

-- the sources or destinations
abbrev pub targets_of : Data → List ℕ → Result Targets FieldFault
targets_of row path =
    and_then (each_item range_block row path (codes "IpRanges")) (λ blocks.
    and_then (each_item named_list row path (codes "PrefixListIds")) (λ lists.
    and_then (each_kept_item paired_group row path (codes "UserIdGroupPairs")) (λ groups.
    Ok (record { blocks = blocks; lists = lists; groups = groups }))))

-- a permission, which has no id of its own
abbrev pub permission_of : Data → List ℕ → Result Permission FieldFault
permission_of row path =
    and_then (traffic_of row path) (λ traffic.
    and_then (targets_of row path) (λ targets.
    Ok (record {
      id = None;
      proto = traffic.proto;
      q_from = traffic.q.first;
      q_to = traffic.q.last;
      blocks = targets.blocks;
      lists = targets.lists;
      groups = targets.groups;
    })))

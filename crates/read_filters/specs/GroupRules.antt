-- What the rows of SecurityGroupRules mean (EC2 API, DescribeSecurityGroupRules): where they tell rules of a group, they
-- stand in place of the group's permissions.
use Rattle.std.specs.Prelude.{ℕ, ◌+◌, ◌==◌, ◌∷◌, ◌++◌, ◌||◌, ◌&&◌, Bool, not, List, [], Option, Some, None, bytes_eq, codes, filter, is_some, length, map, option_to_list, position, Result, Ok, if◌then◌else◌}
use Rattle.std.specs.List.{list_any}
use Rattle.serde_json.specs.Data.{Data}
use Rattle.prefix_text.specs.Block.{Block}
use Rattle.json_fields.specs.Bundle.{rows_of}
use Rattle.json_fields.specs.FieldFault.{and_then, if_there}
use Rattle.json_fields.specs.Fields.{flag_of, id_if_of, id_of, member_of, needed, part_of, prefix_of_field, within_part}
use Rattle.json_fields.specs.Paths.{at_row}
use Rattle.json_fields.specs.declared.fault.FieldFault.{FieldFault}
use Rattle.vpc_model.specs.declared.rows.Group.{Group}
use Rattle.vpc_model.specs.declared.rows.Permission.{Permission}
use Rattle.read_filters.specs.Permissions.{traffic_of}
use Rattle.read_filters.specs.declared.group_rules.GroupRule.{GroupRule}
use Rattle.read_filters.specs.declared.group_rules.RuleBody.{RuleBody}
use Rattle.read_filters.specs.declared.group_rules.RuleHead.{RuleHead}
use Rattle.read_filters.specs.declared.permissions.Targets.{Targets}

-- the ids of a rule and of its group, which are read of each row
abbrev pub head_of : Data → List ℕ → Result RuleHead FieldFault
head_of row path =
    and_then (id_of row path (codes "SecurityGroupRuleId")) (λ id.
    and_then (id_of row path (codes "GroupId")) (λ group.
    Ok (record { id = id; group = group })))

-- whether the row names a group
abbrev pub names_group : Data → Bool
names_group row = is_some (member_of (part_of row (codes "ReferencedGroupInfo")) (codes "GroupId"))

-- whether the row names an IPv4 block, a prefix list or a group: others, as those of IPv6, are dropped
abbrev pub has_target : Data → Bool
has_target row =
    is_some (member_of row (codes "CidrIpv4"))
    || (is_some (member_of row (codes "PrefixListId")) || names_group row)

-- a block, else a list, else a group (profile)
abbrev pub one_target : Option Block → Option (List ℕ) → Option (List ℕ) → Targets
one_target (Some block) list group = record { blocks = block ∷ []; lists = []; groups = [] }
one_target None (Some list) group = record { blocks = []; lists = list ∷ []; groups = [] }
one_target None None (Some group) = record { blocks = []; lists = []; groups = group ∷ [] }
one_target None None None = record { blocks = []; lists = []; groups = [] }

-- what the row names, all of which is read
abbrev pub target_of : Data → List ℕ → Result Targets FieldFault
target_of row path =
    and_then (prefix_of_field row path (codes "CidrIpv4")) (λ block.
    and_then (id_if_of row path (codes "PrefixListId")) (λ list.
    and_then (within_part id_if_of row path (codes "ReferencedGroupInfo") (codes "GroupId")) (λ group.
    Ok (one_target block list group))))

-- what a rule says beside its ids
abbrev pub body_of : Data → List ℕ → Result RuleBody FieldFault
body_of row path =
    and_then (needed flag_of row path (codes "IsEgress")) (λ outward.
    and_then (traffic_of row path) (λ traffic.
    and_then (target_of row path) (λ targets.
    Ok (record { outward = outward; traffic = traffic; targets = targets }))))

-- a rule with this id, of the group of this number
abbrev pub rule_with : List ℕ → ℕ → RuleBody → GroupRule
rule_with id number body = record {
  number = number;
  outward = body.outward;
  permission = record {
    id = Some id;
    proto = body.traffic.proto;
    q_from = body.traffic.q.first;
    q_to = body.traffic.q.last;
    blocks = body.targets.blocks;
    lists = body.targets.lists;
    groups = body.targets.groups;
  };
}

-- the number of its group, where the row is kept: it names a target, its group is described, and no row with its id was
-- kept before it
abbrev pub kept_for : (List ℕ → Option ℕ) → List (List ℕ) → Data → RuleHead → Option ℕ
kept_for number_of seen row head =
    if has_target row && not (list_any (bytes_eq head.id) seen) then number_of head.group else None

-- a rule, unless the row is dropped: then nothing else of it is read
abbrev pub rule_if : (List ℕ → Option ℕ) → List (List ℕ) → Data → List ℕ → Result (Option GroupRule) FieldFault
rule_if number_of seen row path =
    and_then (head_of row path) (λ head.
    if_there (λ number. and_then (body_of row path) (λ body. Ok (rule_with head.id number body))) (kept_for number_of seen row head))

-- the ids of rows that were kept, after this one
abbrev pub seen_with : List (List ℕ) → Option GroupRule → List (List ℕ)
seen_with seen None = seen
seen_with seen (Some rule) = seen ++ option_to_list rule.permission.id

-- the rules of the rows from the number k on, after rows with these ids were kept, or the first fault
abbrev pub rules_from : (List ℕ → Option ℕ) → List (List ℕ) → ℕ → List Data → Result (List GroupRule) FieldFault
rules_from number_of seen k [] = Ok []
rules_from number_of seen k (row ∷ rows) =
    and_then (rule_if number_of seen row (at_row (codes "SecurityGroupRules") k)) (λ rule.
    and_then (rules_from number_of (seen_with seen rule) (k + 1) rows) (λ others.
    Ok (option_to_list rule ++ others)))

-- the rules of a bundle with these groups: a rule is of the first group with the id that it names
abbrev pub rules_of : Data → List Group → Result (List GroupRule) FieldFault
rules_of bundle groups =
    and_then (rows_of bundle (codes "SecurityGroupRules")) (rules_from (λ id. position (λ g. bytes_eq g.id id) groups) [] 0)

-- the permissions of the rules of one direction
abbrev pub permissions_of : (GroupRule → Bool) → List GroupRule → List Permission
permissions_of directed rules = map (λ rule. rule.permission) (filter directed rules)

-- the group with these rules in place of its permissions, where there are any
abbrev pub with_rules : List GroupRule → Group → Group
with_rules rules group =
    if length rules == 0 then group
    else (record {
      id = group.id;
      vpc = group.vpc;
      inward = permissions_of (λ rule. not rule.outward) rules;
      outward = permissions_of (λ rule. rule.outward) rules;
    })

-- the rules of the group of this number
abbrev pub rules_at : ℕ → List GroupRule → List GroupRule
rules_at number rules = filter (λ rule. rule.number == number) rules

-- the groups, from the number n on, each with its rules
abbrev pub groups_from : ℕ → List GroupRule → List Group → List Group
groups_from n rules [] = []
groups_from n rules (group ∷ groups) = with_rules (rules_at n rules) group ∷ groups_from (n + 1) rules groups

-- the groups with the rules that the bundle tells of them, or the first fault
abbrev pub group_rules_of : Data → List Group → Result (List Group) FieldFault
group_rules_of bundle groups = and_then (rules_of bundle groups) (λ rules. Ok (groups_from 0 rules groups))

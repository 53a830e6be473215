-- What is wrong with a description, in the parts in which it is looked for.
use Rattle.std.specs.Prelude.{◌++◌, List}
use Rattle.vpc_model.specs.declared.refusals.Refusal.{Refusal}
use Rattle.vpc_model.specs.declared.rows.Description.{Description}
use Rattle.vpc_model.specs.Accepted.{duplicate_addresses, duplicate_ids, duplicate_publics, missing_references, too_many_rows, two_acls, two_gateways, two_tables, without_acl, without_table}

-- what rows name and isn't there, and addresses that stand twice
abbrev pub causes_of_names : Description → List Refusal
causes_of_names d = missing_references d ++ (duplicate_addresses d ++ duplicate_publics d)

-- subnets and VPCs without what they need
abbrev pub causes_of_lack : Description → List Refusal
causes_of_lack d = without_table d ++ without_acl d

-- subnets and VPCs with two of what they may have once
abbrev pub causes_of_doubles : Description → List Refusal
causes_of_doubles d = two_gateways d ++ (two_tables d ++ two_acls d)

-- both of these
abbrev pub causes_of_subnets : Description → List Refusal
causes_of_subnets d = causes_of_lack d ++ causes_of_doubles d

-- what is wrong with a description whose ids differ
abbrev pub causes_of_rows : Description → List Refusal
causes_of_rows d = causes_of_names d ++ (causes_of_subnets d ++ too_many_rows d)

-- all of it
abbrev pub causes_by_part : Description → List Refusal
causes_by_part d = duplicate_ids d ++ causes_of_rows d

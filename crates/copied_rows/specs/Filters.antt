-- Descriptions with other network ACLs and security groups.
use Rattle.std.specs.Prelude.{List}
use Rattle.vpc_model.specs.declared.rows.Acl.{Acl}
use Rattle.vpc_model.specs.declared.rows.Description.{Description}
use Rattle.vpc_model.specs.declared.rows.Group.{Group}

-- these in place of its own, and all else the same
abbrev pub with_filters : Description → List Acl → List Group → Description
with_filters d acls groups = record d { acls = acls; groups = groups }

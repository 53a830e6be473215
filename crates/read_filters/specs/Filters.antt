-- What the lists of filters in a bundle mean.
use Rattle.std.specs.Prelude.{codes, Result, Ok}
use Rattle.serde_json.specs.Data.{Data}
use Rattle.json_fields.specs.FieldFault.{and_then}
use Rattle.json_fields.specs.Kept.{each_of}
use Rattle.json_fields.specs.declared.fault.FieldFault.{FieldFault}
use Rattle.read_filters.specs.Acls.{acl_of}
use Rattle.read_filters.specs.Groups.{group_of}
use Rattle.read_filters.specs.declared.reader.FilterRows.{FilterRows}

-- the ACLs and then the groups, or the first fault
abbrev pub filters_of : Data → Result FilterRows FieldFault
filters_of bundle =
    and_then (each_of acl_of bundle (codes "NetworkAcls")) (λ acls.
    and_then (each_of group_of bundle (codes "SecurityGroups")) (λ groups.
    Ok (record { acls = acls; groups = groups })))

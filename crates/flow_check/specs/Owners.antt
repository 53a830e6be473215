-- What is known of an address by the interface of the VPC that has it.
use Rattle.std.specs.Prelude.{◌==◌, Bool, None, Option, Some, bytes_eq, false}
use Rattle.vpc_laws.specs.Types.{Description, EniNo}
use Rattle.vpc_model.specs.Lookup.{interface_at}

-- it is this interface's own
abbrev pub is_own : EniNo → Option EniNo → Bool
is_own i None = false
is_own i (Some j) = j.0 == i.0

-- it is one of the interface's subnet
abbrev pub is_near : Description → EniNo → Option EniNo → Bool
is_near d i None = false
is_near d i (Some j) = let e = interface_at d i in let o = interface_at d j in bytes_eq o.subnet e.subnet

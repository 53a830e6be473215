-- Rows that others name.
use Rattle.std.specs.Prelude.{Bool, List, ℕ}
use Rattle.vpc_model.specs.declared.rows.Description.{Description}
use Rattle.vpc_model.specs.Lookup.{has_group, has_igw, has_interface, has_list, has_subnet, has_vpc}
use Rattle.reference_check.specs.declared.directory.Kind.{Kind}
use Rattle.reference_check.specs.declared.directory.Kind.TheVariants as kinds

-- the row is described
abbrev pub has_row : Description → Kind → List ℕ → Bool
has_row d kinds.Vpc id = has_vpc d id
has_row d kinds.Subnet id = has_subnet d id
has_row d kinds.Interface id = has_interface d id
has_row d kinds.Group id = has_group d id
has_row d kinds.List id = has_list d id
has_row d kinds.InternetGateway id = has_igw d id

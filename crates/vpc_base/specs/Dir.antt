-- Directions.
use Rattle.std.specs.Prelude.{Bool, true, false}
use Rattle.vpc_base.specs.declared.headers.Dir.{Dir}
use Rattle.vpc_base.specs.declared.headers.Dir.TheVariants.{Inward, Outward}

-- the two directions are one
abbrev pub same_dir : Dir → Dir → Bool
same_dir Inward Inward = true
same_dir Outward Outward = true
same_dir Inward Outward = false
same_dir Outward Inward = false

-- the other direction
abbrev pub opposite : Dir → Dir
opposite Inward = Outward
opposite Outward = Inward

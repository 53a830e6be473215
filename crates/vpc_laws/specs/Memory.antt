-- What the network remembers of an open, by the place where it is.
use Rattle.vpc_base.specs.declared.headers.Dir.{Dir}
use Rattle.vpc_base.specs.declared.headers.Dir.TheVariants as dirs
use Rattle.vpc_model.specs.declared.numbers.EniNo.{EniNo}
use Rattle.vpc_model.specs.declared.numbers.NatNo.{NatNo}
use Rattle.vpc_model.specs.declared.places.Place.{Place}
use Rattle.vpc_model.specs.declared.places.Place.TheVariants as places

pub data Memory : Type 0 where
  -- a connection through an interface
  connection : EniNo → Dir → Memory
  -- a translation of a NAT gateway
  translation : NatNo → Memory
  nothing : Memory

abbrev pub memory_at : Place → Memory
memory_at (places.OutOf i) = connection i dirs.Outward
memory_at (places.Into i) = connection i dirs.Inward
memory_at (places.NatOut n) = translation n
memory_at _ = nothing

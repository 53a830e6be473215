-- Places.
use Rattle.vpc_model.specs.Types.{End, Place}
use Rattle.vpc_model.specs.declared.places.End.TheVariants as ends
use Rattle.vpc_model.specs.declared.places.Place.TheVariants as places

-- where the walk of a packet from an end begins (profile)
abbrev pub start_of : End → Place
start_of (ends.Interface i) = places.OutOf i
start_of ends.Internet = places.Internet
start_of (ends.Far k) = places.FarIn k

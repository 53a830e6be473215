-- What comes next, in the words of the model, without the header.
use Rattle.std.specs.Prelude.{if◌then◌else◌, Bool, None, Option, Some}
use Rattle.box_images.specs.declared.images.Part.{Part}
use Rattle.box_steps.specs.declared.onward.Onward.{Onward}
use Rattle.box_steps.specs.declared.onward.Onward.TheVariants as onwards
use Rattle.edge_gateways.specs.declared.peerings.Carry.{Carry}
use Rattle.edge_gateways.specs.declared.peerings.Carry.TheVariants as carries
use Rattle.vpc_laws.specs.Types.{PeerNo, Stop, VpcNo}
use Rattle.vpc_model.specs.Step.Words.{Next, arrive, go, stop}
use Rattle.vpc_model.specs.declared.places.EnterBy.TheVariants as through
use Rattle.vpc_model.specs.declared.places.Place.TheVariants as places
use Rattle.vpc_model.specs.declared.stops.Stop.TheVariants as stops

abbrev pub onward_of : Next → Onward
onward_of (go p h) = onwards.Go p
onward_of (arrive e) = onwards.Arrive e
onward_of (stop s) = onwards.Stop s

-- what comes next, unless something stops the headers
abbrev pub onward_unless : Option Stop → Onward → Onward
onward_unless None next = next
onward_unless (Some s) next = onwards.Stop s

-- what comes next where a test holds of all headers of a body; else a stop
abbrev pub onward_if : Part Bool → Onward → Stop → Part Onward
onward_if x next s = record { body = x.body; told = if x.told then next else onwards.Stop s }

-- over a peering to its other VPC, by what it carries
abbrev pub after_carry : PeerNo → VpcNo → Carry → Onward
after_carry x other carries.BadSource = onwards.Stop (stops.PeerSource x)
after_carry x other carries.BadDestination = onwards.Stop (stops.PeerDestination x)
after_carry x other carries.Yes = onwards.Go (places.Enter other (through.Peering x))

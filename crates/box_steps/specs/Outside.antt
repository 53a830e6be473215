-- Networks that aren't described, by what leads there.
use Rattle.std.specs.Prelude.{if◌then◌else◌, Bool, List, Option, ◌≡◌, ℕ}
use Rattle.box_images.specs.declared.images.Part.{Part}
use Rattle.box_steps.specs.Onward.{onward_if}
use Rattle.box_steps.specs.declared.onward.Onward.{Onward}
use Rattle.box_steps.specs.declared.onward.Onward.TheVariants as onwards
use Rattle.vpc_laws.specs.Types.{FarKind, PeerNo}
use Rattle.vpc_model.specs.declared.rows.FarKind.TheVariants as kinds
use Rattle.vpc_model.specs.declared.stops.Stop.TheVariants as stops

-- an attachment of a transit gateway, of a VPC or of something else
abbrev pub IsAttachment : FarKind → Type 0
IsAttachment kind = (vpc : Option (List ℕ)) × (kind ≡ kinds.Attachment vpc)

-- over a peering, by whether the blocks of one side hold the sources and, where they do, those of the other the destinations
abbrev pub over_sides : PeerNo → Part Bool → Part Bool → Onward → Part Onward
over_sides x source destination next =
    if source.told then onward_if destination next (stops.PeerDestination x) else (record { body = source.body; told = onwards.Stop (stops.PeerSource x) })

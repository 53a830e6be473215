-- What changes for a request between two networks.
use Rattle.std.specs.Prelude.{Bool, Err, None, Ok, Option, Some, bytes_eq, false, if◌then◌else◌, true}
use Rattle.described_hosts.specs.Hosts.{id_of}
use Rattle.described_hosts.specs.Outside.{far_id}
use Rattle.vpc_base.specs.Cuts.{CutLists, joined_cuts}
use Rattle.vpc_base.specs.declared.headers.Header.{Header}
use Rattle.vpc_laws.specs.Types.{Description, End}
use Rattle.vpc_model.specs.Cuts.{cuts_of}
use Rattle.vpc_model.specs.declared.places.End.TheVariants as ends
use Rattle.journey_changes.specs.Fates.{Fate}
use Rattle.journey_changes.specs.Sent.{Sent, fate, near}
use Rattle.journey_changes.specs.declared.changes.Change.{Change}
use Rattle.journey_changes.specs.declared.changes.Change.TheVariants as changes

-- an end of each network: both are the internet, or interfaces with one id, or networks to which what has one id leads
abbrev pub have_one_id : Description → Description → End → End → Bool
have_one_id before after ends.Internet ends.Internet = true
have_one_id before after (ends.Interface i) (ends.Interface j) = bytes_eq (id_of before i) (id_of after j)
have_one_id before after (ends.Far k) (ends.Far l) = bytes_eq (far_id before k) (far_id after l)
have_one_id before after e f = false

-- from one end to another, where they are two
abbrev pub moved : Description → Description → End → End → Option Change
moved before after e f = if have_one_id before after e f then None else Some (changes.Moved e f)

-- by what becomes of the request in each: nothing, where it is kept from an end in both or reaches one end in both
abbrev pub change_by : Description → Description → Fate → Fate → Option Change
change_by before after (Err b) (Err a) = None
change_by before after (Err b) (Ok f) = Some (changes.Opened f b)
change_by before after (Ok e) (Err a) = Some (changes.Closed e a)
change_by before after (Ok e) (Ok f) = moved before after e f

-- what changes for a request with this header, which is sent in both
abbrev pub change_of : Sent → Sent → Header → Option Change
change_of before after h = change_by before.network after.network (fate before h) (fate after h)

-- the cuts that it depends on
abbrev pub change_cuts : Sent → Sent → Header → CutLists
change_cuts before after h = joined_cuts (near before h) (near after h)

-- those of both descriptions
abbrev pub cuts_of_both : Description → Description → CutLists
cuts_of_both before after = joined_cuts (cuts_of before) (cuts_of after)

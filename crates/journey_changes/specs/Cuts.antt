-- The cuts that a change depends on.
use Rattle.std.proofs.Common.{None, Option, Some}
use Rattle.box_walk.specs.Open.{open_cuts_are_among_all}
use Rattle.cut_laws.proofs.Among.{joined_among, none_among}
use Rattle.cut_laws.proofs.Places.{near_cuts_are_among_all}
use Rattle.vpc_base.specs.Cuts.{AreAmong}
use Rattle.vpc_base.specs.declared.headers.Header.{Header}
use Rattle.vpc_laws.specs.Types.{Description, End}
use Rattle.vpc_model.specs.Appliances.{appliances_of}
use Rattle.vpc_model.specs.Cuts.{cuts_of}
use Rattle.journey_changes.specs.Changes.{change_cuts, cuts_of_both}
use Rattle.journey_changes.specs.Sent.{Sent, cuts_along, cuts_from, near}
use Rattle.journey_changes.specs.declared.fates.Toward.{Toward}
use Rattle.journey_changes.specs.declared.fates.Toward.TheVariants as towards

from_among : (d : Description) (start : End) (toward : Toward) (h : Header) → AreAmong (cuts_from d start toward h) (cuts_of d)
from_among d start towards.Any h = open_cuts_are_among_all d start h
from_among d start towards.Missing h = open_cuts_are_among_all d start h
from_among d start (towards.Goal goal) h = near_cuts_are_among_all d (appliances_of d) start goal h

-- the near cuts are among those of the description
pub along_among : (d : Description) (start : Option End) (toward : Toward) (h : Header) → AreAmong (cuts_along d start toward h) (cuts_of d)
along_among d None toward h = none_among (cuts_of d)
along_among d (Some start) toward h = from_among d start toward h

-- they are among those of both descriptions
pub change_cuts_are_among_all : (before after : Sent) (h : Header) → AreAmong (change_cuts before after h) (cuts_of_both before.network after.network)
change_cuts_are_among_all before after h =
    joined_among (near before h) (near after h) (cuts_of before.network) (cuts_of after.network)
    (along_among before.network before.start before.toward h) (along_among after.network after.start after.toward h)

-- Changes that can be told: the ends and the stops in them have ids.
use Rattle.std.specs.Prelude.{◌≡◌, Some, true}
use Rattle.vpc_base.specs.declared.headers.Header.{Header}
use Rattle.vpc_laws.specs.Types.{Description}
use Rattle.vpc_model.specs.Accepted.{IsAccepted}
use Rattle.vpc_model.specs.Sound.{has_text, is_end}
use Rattle.journey_changes.specs.Changes.{change_of}
use Rattle.journey_changes.specs.Sent.{AreSentWell, Sent}
use Rattle.journey_changes.specs.declared.changes.Change.{Change}
use Rattle.journey_changes.specs.declared.changes.Change.TheVariants as changes
use Rattle.journey_changes.specs.declared.fates.Barrier.{Barrier}
use Rattle.journey_changes.specs.declared.fates.Barrier.TheVariants as barriers

-- a stop has a text; that a start is absent is told by its id
abbrev pub CanBeTold : Description → Barrier → Type 0
CanBeTold d barriers.Absent = Unit {0}
CanBeTold d (barriers.Stopped phase s) = has_text d s ≡ true

abbrev pub IsTellable : Description → Description → Change → Type 0
IsTellable before after (changes.Opened end barrier) = (is_end after end ≡ true) × CanBeTold before barrier
IsTellable before after (changes.Closed end barrier) = (is_end before end ≡ true) × CanBeTold after barrier
IsTellable before after (changes.Moved e f) = (is_end before e ≡ true) × (is_end after f ≡ true)

-- between accepted networks each change can be told
abbrev pub ChangesAreTellable : Type 0
ChangesAreTellable =
    (before after : Sent) (h : Header) (change : Change) → IsAccepted before.network → IsAccepted after.network → AreSentWell before → AreSentWell after
    → change_of before after h ≡ Some change → IsTellable before.network after.network change

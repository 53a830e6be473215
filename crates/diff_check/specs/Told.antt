-- What is told of requests that are sent in two networks, as a text, and whether that is what is wanted.
use Rattle.std.proofs.Props.{props}
use Rattle.std.specs.Prelude.{◌≡◌, List, Option, Some, option_map, ℕ}
use Rattle.change_report.specs.Texts.{change_text}
use Rattle.journey_changes.specs.Changes.{change_of}
use Rattle.journey_changes.specs.Sent.{Sent}
use Rattle.journey_changes.specs.Telling.{CanBeTold, IsTellable}
use Rattle.journey_changes.specs.declared.changes.Change.{Change}
use Rattle.journey_changes.specs.declared.changes.Change.TheVariants as changes
use Rattle.journey_changes.specs.declared.fates.Barrier.{Barrier}
use Rattle.journey_changes.specs.declared.fates.Barrier.TheVariants as barriers
use Rattle.vpc_laws.specs.Types.{Description, Header}

-- a change, as it is printed for the start with this id
abbrev pub change_told : Description → Description → List ℕ → Option Change → Option (List ℕ)
change_told before after id change = option_map (change_text before after id) change

-- that of a request with this header
abbrev pub told_of : List ℕ → Sent → Sent → Header → Option (List ℕ)
told_of id before after h = change_told before.network after.network id (change_of before after h)

-- ---- changes that can be told

abbrev pub AreTellable : Sent → Sent → Type 0
AreTellable before after = (h : Header) (change : Change) → change_of before after h ≡ Some change → IsTellable before.network after.network change

-- there is one proof of it at most
CanBeTold-prop : (d : Description) (barrier : Barrier) → IsProp (CanBeTold d barrier)
CanBeTold-prop d barriers.Absent = hlevel props
CanBeTold-prop d (barriers.Stopped phase s) = hlevel props

IsTellable-prop : (before after : Description) (change : Change) → IsProp (IsTellable before after change)
IsTellable-prop before after (changes.Opened e barrier) = hlevel (props, CanBeTold-prop)
IsTellable-prop before after (changes.Closed e barrier) = hlevel (props, CanBeTold-prop)
IsTellable-prop before after (changes.Moved e f) = hlevel props

pub AreTellable-prop : (before after : Sent) → IsProp (AreTellable before after)
AreTellable-prop before after = hlevel (props, IsTellable-prop)

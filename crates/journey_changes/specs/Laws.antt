-- Laws of changes.
use Rattle.std.specs.Prelude.{◌≡◌, ◌↔◌, List, None, Option, Some, option_map}
use Rattle.box_walk.specs.Journeys.{reached_of}
use Rattle.vpc_base.specs.declared.headers.Header.{Header}
use Rattle.vpc_laws.specs.Types.{Description, End, FarNo}
use Rattle.vpc_model.specs.Appliances.{appliances_of}
use Rattle.vpc_model.specs.Verdict.{homes_among}
use Rattle.journey_changes.specs.Changes.{change_of}
use Rattle.journey_changes.specs.Sent.{Sent, reached, sent}
use Rattle.journey_changes.specs.declared.changes.Change.{Change}
use Rattle.journey_changes.specs.declared.changes.Change.TheVariants as changes
use Rattle.journey_changes.specs.declared.fates.Toward.TheVariants as towards

-- ---- turned round

-- the same change, the other way round
abbrev pub turned : Change → Change
turned (changes.Opened end barrier) = changes.Closed end barrier
turned (changes.Closed end barrier) = changes.Opened end barrier
turned (changes.Moved e f) = changes.Moved f e

-- from the later network to the earlier one what is opened is closed, and what is closed is opened
abbrev pub ChangesTurnRound : Type 0
ChangesTurnRound = (before after : Sent) (h : Header) → change_of after before h ≡ option_map turned (change_of before after h)

-- ---- from nothing

-- what is opened, without what kept it closed
abbrev pub opened_end : Option Change → Option End
opened_end None = None
opened_end (Some (changes.Opened end barrier)) = Some end
opened_end (Some (changes.Closed end barrier)) = None
opened_end (Some (changes.Moved e f)) = None

-- where no request reaches an end, exactly those are opened that reach one afterwards, and nothing else changes
abbrev pub AllIsOpenedFromNothing : Type 0
AllIsOpenedFromNothing =
    (before after : Sent) (h : Header) → reached before h ≡ None
    → (opened_end (change_of before after h) ≡ reached after h) × ((change_of before after h ≡ None) ↔ (reached after h ≡ None))

-- what a request reaches is what `reach` tells: toward a goal, or without one
abbrev pub ReachedIsReach : Type 0
ReachedIsReach =
    (d : Description) (start : End) (links : List FarNo) (h : Header)
    → (reached (sent d (Some start) links towards.Any) h ≡ reached_of d (appliances_of d) (homes_among links start) None h)
    × ((goal : End) → reached (sent d (Some start) links (towards.Goal goal)) h ≡ reached_of d (appliances_of d) (homes_among links start) (Some goal) h)

-- ---- one network

-- between one network and itself nothing changes
abbrev pub NothingChangesInOne : Type 0
NothingChangesInOne = (s : Sent) (h : Header) → change_of s s h ≡ None

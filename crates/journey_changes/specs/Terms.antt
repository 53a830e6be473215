-- The definitions that longer pages take, from one place.
pub use Rattle.journey_changes.specs.Alike.{AskAlike, ComeTo, LetInAlike, has_groups}
pub use Rattle.journey_changes.specs.Changes.{change_by, change_cuts, change_of, have_one_id}
pub use Rattle.journey_changes.specs.Fates.{Fate, fate_by, fate_from, fate_of, fate_unless, missing_by, reached_by}
pub use Rattle.journey_changes.specs.Sent.{IsToward, Sent, fate, goal_or, near, reached, sent, start_or}
pub use Rattle.journey_changes.specs.Telling.{CanBeTold, ChangesAreTellable, IsTellable}
pub use Rattle.journey_changes.specs.declared.changes.Change.{Change}
pub use Rattle.journey_changes.specs.declared.fates.Toward.{Toward}

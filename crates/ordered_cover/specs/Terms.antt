-- The definitions that longer pages take, from one place.
pub use Rattle.ordered_cover.specs.Cover.{IsBlocked, IsMore}
pub use Rattle.ordered_cover.specs.Gathered.{HoldAllTold, IsGathered, LeaveSomeOut}
pub use Rattle.ordered_cover.specs.Joined.{AreJoined, CanJoin, GoesOn, GoesOnEitherWay, GoesOnInP}
pub use Rattle.ordered_cover.specs.Kept.{GoesOnBy, IsOneWithLast, KeepsSplit, joined_row, span}
pub use Rattle.ordered_cover.specs.Open.{AreSplit, AreSplitBySome, IsAsked, IsLeast, every, holders, one_if, row_holders, told}
pub use Rattle.ordered_cover.specs.declared.joining.Along.{Along}

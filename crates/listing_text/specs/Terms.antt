-- The definitions that longer pages take, from one place.
pub use Rattle.listing_text.specs.Answered.{IsDecidedBy, IsTold}
pub use Rattle.listing_text.specs.Sides.{AreSidesOf, alone}
pub use Rattle.listing_text.specs.Texts.{given_words, told_lines_from}
pub use Rattle.listing_text.specs.Told.{AreToldAll, AreToldInPart, FewCells, IsToldFrom, SomeTold, StartRows, Wanted, row_count}

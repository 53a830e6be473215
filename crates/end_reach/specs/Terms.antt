-- The definitions that longer pages take, from one place.
pub use Rattle.end_reach.specs.Answered.{IsAnswerTo, IsReachAnswered, IsReachTold, IsToldUnlessTooMany, IsTooMany}
pub use Rattle.end_reach.specs.Asked.{AreStarts, AreTargets, boxes_at, links_of}
pub use Rattle.end_reach.specs.Texts.{row_line, row_lines_from, whole_text}
pub use Rattle.end_reach.specs.Told.{AreToldAll, StartRows, reached_in, wanted}

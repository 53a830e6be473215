-- The definitions that longer pages take, from one place.
pub use Rattle.change_report.specs.Answered.{IsAnswerTo, IsDiffAnswered, IsDiffTold, IsToldUnlessTooMany, IsTooMany}
pub use Rattle.changed_ends.specs.Asked.{AreStarts, AreTargets, Comparison, StartAt, boxes_at, changed_id, comparison, from_after, from_before, hosts_of_either, id_or, is_goal, is_new, is_start, starts_among}
pub use Rattle.change_report.specs.Texts.{barrier_text, change_text, lines_at, row_line, row_lines_from, start_id, whole_text}
pub use Rattle.change_report.specs.Told.{AreToldAll, ChangeRows, change_in, cuts_in, wanted}
pub use Rattle.change_report.specs.Walked.{nowhere}

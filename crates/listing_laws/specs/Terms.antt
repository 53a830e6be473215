-- The definitions that longer pages take, from one place.
pub use Rattle.block_report.specs.Walks.{phase_text, stop_text}
pub use Rattle.block_report.specs.Words.{word}
pub use Rattle.command_job.specs.declared.status.Status.{Status}
pub use Rattle.journey_changes.specs.declared.changes.Change.{Change}
pub use Rattle.journey_changes.specs.declared.fates.Barrier.{Barrier}
pub use Rattle.listing_check.specs.Answered.{origins_of}
pub use Rattle.listing_check.specs.Asked.{IsTrueOf}
pub use Rattle.listing_laws.specs.DiffTexts.{DiffTextsAreTrue, DiffTextsFit, DiffTextsPass}
pub use Rattle.listing_laws.specs.Networks.{CanBeListed}
pub use Rattle.listing_laws.specs.Typed.{HasTypedFars, HasTypedInterfaces, HasTypedRows}
pub use Rattle.listing_reader.specs.Printed.{Printed, lines_from, lists_of}
pub use Rattle.listing_reader.specs.ReadsBack.{ArePrintable, IsPrintable}
pub use Rattle.listing_text.specs.Texts.{given_words, told_lines_from}
pub use Rattle.listing_text.specs.Told.{IsToldFrom, row_count}
pub use Rattle.query_words.specs.ChangeQuery.{change_query_of}
pub use Rattle.query_words.specs.ReachQuery.{reach_query_of}
pub use Rattle.query_words.specs.declared.changes.ChangeQuery.{ChangeQuery}
pub use Rattle.query_words.specs.declared.changes.ChangedEnd.{ChangedEnd}
pub use Rattle.query_words.specs.declared.reaches.ReachQuery.{ReachQuery}
pub use Rattle.report_reader.specs.ReadsBack.{length_limit}
pub use Rattle.std.specs.Result.{result_ok}

-- The definitions that longer pages take, from one place.
pub use Rattle.block_report.specs.Hops.{hop_lines}
pub use Rattle.block_report.specs.Reports.{addresses_text, arrived_header, box_line, box_text, ends_line, lines_of_walk, reachable_text, reply_lines, report_of, report_text, row_line, row_lines_from}
pub use Rattle.block_report.specs.Walks.{outcome_line, phase_text, stop_text}
pub use Rattle.block_report.specs.Words.{header_text, line_end, word}

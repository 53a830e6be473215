-- The definitions that longer pages take, from one place.
pub use Rattle.listing_reader.specs.Listings.{end_after, is_row, lists_at, lists_before, lists_in, row_before, row_count, row_of, rows_at}
pub use Rattle.listing_reader.specs.Printed.{Printed, end_line, lines_from, lists_of, origins_of}
pub use Rattle.listing_reader.specs.Reading.{asked_part, row_with}
pub use Rattle.listing_reader.specs.ReadsBack.{ArePrintable, HasNoBlank, IsOneLine, IsPrintable, IsPrintableRow}
pub use Rattle.listing_reader.specs.declared.origins.Origin.{Origin}

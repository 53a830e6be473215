-- Rows of a printed report.
use Rattle.std.proofs.Common.{◌≡◌, All, true}
use Rattle.header_boxes.specs.Boxes.{IsWithin}
use Rattle.vpc_laws.specs.Types.{Box5, Description, Row, StopText}
use Rattle.vpc_model.specs.Id.{is_id}
use Rattle.report_reader.specs.ReadsBack.{IsPrintable, Listed}

-- a row of a report about this box
pub record IsRowOf (whole : Box5) (row : Row StopText) : Type 0 where
  pub within : IsWithin row.part whole
  pub id : is_id row.word.id ≡ true
  pub rule : is_id row.word.rule ≡ true

pub rows_of : (d : Description) (r : Listed) → IsPrintable d r → All (IsRowOf r.sides) r.rows
rows_of d r h = λ k row at. let ids = h.ids.rows k row at in record { within = h.within k row at; id = ids.0; rule = ids.1 }

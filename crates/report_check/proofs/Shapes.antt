-- The rows of a report, by how its boxes are given.
use Rattle.std.proofs.Common.{◌≡◌, ◌≤◌, List, ap, length, subst, sym, true}
use Rattle.std.specs.Prelude.{All, slice_index_or}
use Rattle.header_boxes.proofs.Held.{valid_if_within}
use Rattle.header_boxes.specs.Boxes.{IsValid, IsWithin}
use Rattle.header_boxes.specs.Rows.{AreWhole, IsTrueReport}
use Rattle.ordered_cover.proofs.Leaves.{leaves_are_apart, leaves_are_whole, trees_are_reports}
use Rattle.ordered_cover.specs.Trees.{IsCutTree, leaf_count, leaves_of}
use Rattle.ordered_cover.specs.declared.trees.Node.{Node}
use Rattle.report_reader.specs.Nodes.{leaf_limit}
use Rattle.report_reader.specs.Reports.{IsSoundReport, IsSoundShape, row_limit, rows_in_shape, rows_of}
use Rattle.report_reader.specs.declared.report.Report.{Report}
use Rattle.report_reader.specs.declared.report.Shape.{Shape}
use Rattle.report_reader.specs.declared.report.Shape.TheVariants as shapes
use Rattle.vpc_laws.specs.Types.{Box5, Description, Row, StopText}
use Rattle.report_check.specs.Checked.{AreApart, AreTrue, IsReportTrue, meaning_in}

module _ (d : Description) (r : Report) where
  -- ---- rows

  pub rows_are : (rows : List (Row StopText)) → r.shape ≡ shapes.List rows → rows ≡ rows_of r
  rows_are rows is = sym (ap (rows_in_shape r.sides) is)

  pub rows_are_sound : (rows : List (Row StopText)) → IsSoundReport d r → r.shape ≡ shapes.List rows → All (λ row. IsWithin row.part r.sides) rows × (length rows ≤ row_limit)
  rows_are_sound rows sound is = subst (IsSoundShape r.sides) is sound.shape

  -- ---- trees

  pub leaves_are : (nodes : List (Node StopText)) → r.shape ≡ shapes.Tree nodes → leaves_of nodes r.sides ≡ rows_of r
  leaves_are nodes is = sym (ap (rows_in_shape r.sides) is)

  pub tree_is_sound : (nodes : List (Node StopText)) → IsSoundReport d r → r.shape ≡ shapes.Tree nodes → IsCutTree nodes r.sides × (leaf_count nodes ≤ leaf_limit)
  tree_is_sound nodes sound is = subst (IsSoundShape r.sides) is sound.shape

  -- its rows share no header, and hold all
  pub rows_are_apart : (nodes : List (Node StopText)) → IsCutTree nodes r.sides → leaves_of nodes r.sides ≡ rows_of r → AreApart (rows_of r)
  rows_are_apart nodes tree are = subst AreApart are (leaves_are_apart nodes r.sides tree)

  pub rows_are_whole : (nodes : List (Node StopText)) → IsCutTree nodes r.sides → leaves_of nodes r.sides ≡ rows_of r → AreWhole r.sides (rows_of r)
  rows_are_whole nodes tree are = subst (AreWhole r.sides) are (leaves_are_whole nodes r.sides tree)

  pub tree_is_true : (nodes : List (Node StopText)) → IsSoundReport d r → IsCutTree nodes r.sides → leaves_of nodes r.sides ≡ rows_of r → AreTrue d r (rows_of r) → IsReportTrue d r
  tree_is_true nodes sound tree are true_rows =
      subst (IsTrueReport (meaning_in d r) r.sides) are (trees_are_reports (meaning_in d r) nodes r.sides tree sound.valid (subst (AreTrue d r) (sym are) true_rows))

-- rows in a valid box are valid
pub valid_rows : (whole : Box5) (rows : List (Row StopText)) → All (λ row. IsWithin row.part whole) rows → All (λ row. IsValid row.part) rows
valid_rows whole rows within = λ k none below. let row = slice_index_or rows k none in valid_if_within row.part whole (within k none below)

-- A printed report reads as what was printed, and is short enough to be read as a file.
use Rattle.std.specs.Prelude.{◌≡◌, ◌≤◌, ◌<◌, ◌^◌, ◌&&◌, All, List, Ok, Some, bytes_eq, codes, false, length, true, ℕ}
use Rattle.vpc_laws.specs.Types.{Box5, Description, End, EniNo, FarNo, Row, StopText}
use Rattle.header_boxes.specs.Boxes.{IsValid, IsWithin}
use Rattle.vpc_model.specs.declared.places.End.TheVariants as ends
use Rattle.vpc_model.specs.Accepted.{IsAccepted}
use Rattle.vpc_model.specs.Far.{far_end_of_id}
use Rattle.vpc_model.specs.Lookup.{far_at, has_interface, interface_at}
use Rattle.vpc_model.specs.Sound.{is_eni}
use Rattle.vpc_model.specs.Step.Crossing.{is_gateway}
use Rattle.ordered_cover.specs.Trees.{IsCutTree, leaf_count}
use Rattle.ordered_cover.specs.declared.trees.Node.{Node}
use Rattle.query_words.specs.Ends.{is_service}
use Rattle.block_report.specs.Reports.{AreIds, report_text}
use Rattle.block_report.specs.Trees.{AreTreeIds, tree_text}
use Rattle.report_reader.specs.declared.report.Report.{Report}
use Rattle.report_reader.specs.declared.report.Shape.TheVariants as shapes
use Rattle.report_reader.specs.Nodes.{leaf_limit}
use Rattle.report_reader.specs.Lines.{is_internet}
use Rattle.report_reader.specs.Reports.{report_of_text, row_limit}

-- a described interface that belongs to no gateway, whose id doesn't mean the internet
pub record CanBeNamed (d : Description) (i : EniNo) : Type 0 where
  pub described : is_eni d i ≡ true
  pub host : let e = interface_at d i in is_gateway e.kind ≡ false
  pub other : let e = interface_at d i in bytes_eq e.id (codes "internet") ≡ false

-- a network that isn't described and is an end, the first of its id, which no interface has and doesn't mean the internet
pub record CanBeNamedFar (d : Description) (k : FarNo) : Type 0 where
  pub named : let far = far_at d k in far_end_of_id d far.id ≡ Some k
  pub alone : let far = far_at d k in has_interface d far.id ≡ false
  pub other : let far = far_at d k in bytes_eq far.id (codes "internet") ≡ false

-- an end that a query can name
abbrev pub IsNamed : Description → End → Type 0
IsNamed d (ends.Interface i) = CanBeNamed d i
IsNamed d ends.Internet = Unit {0}
IsNamed d (ends.Far k) = CanBeNamedFar d k

-- two such ends, not both of them the internet, the first of which opens connections
pub record AreNamed (d : Description) (from to : End) : Type 0 where
  pub start : IsNamed d from
  pub opens : is_service d from ≡ false
  pub goal : IsNamed d to
  pub apart : (is_internet from && is_internet to) ≡ false

-- the ranges hold numbers of their fields
pub record Fits (b : Box5) : Type 0 where
  pub proto : b.proto.1 < 2 ^ 8
  pub src : b.src.1 < 2 ^ 32
  pub dst : b.dst.1 < 2 ^ 32
  pub p : b.p.1 < 2 ^ 16
  pub q : b.q.1 < 2 ^ 16

-- ---- reports of rows

-- what is printed of a query with rows
pub record Listed : Type 0 where
  pub start : End
  pub goal : End
  pub sides : Box5
  pub rows : List (Row StopText)

-- the report that it is
abbrev pub listed_report : Listed → Report
listed_report r = record { start = r.start; goal = r.goal; sides = r.sides; shape = shapes.List r.rows }

-- it can be printed and read
pub record IsPrintable (d : Description) (r : Listed) : Type 0 where
  pub ends : AreNamed d r.start r.goal
  pub valid : IsValid r.sides
  pub fits : Fits r.sides
  pub few : length r.rows ≤ row_limit
  pub within : All (λ row. IsWithin row.part r.sides) r.rows
  pub ids : AreIds d r.start r.goal r.rows

-- it reads as itself
abbrev pub PrintedReportsReadBack : Type 0
PrintedReportsReadBack =
    (d : Description) (r : Listed) → IsAccepted d → IsPrintable d r
    → report_of_text d (report_text d r.start r.goal r.sides r.rows) ≡ Ok (listed_report r)

-- the most bytes of a file that is read
abbrev pub length_limit : ℕ
length_limit = 67108864

-- it is short enough to be read as a file
abbrev pub PrintedReportsFit : Type 0
PrintedReportsFit =
    (d : Description) (r : Listed) → IsAccepted d → IsPrintable d r
    → length (report_text d r.start r.goal r.sides r.rows) ≤ length_limit

-- ---- reports of trees

-- what is printed of a query with the nodes of a tree
pub record Treed : Type 0 where
  pub start : End
  pub goal : End
  pub sides : Box5
  pub nodes : List (Node StopText)

abbrev pub treed_report : Treed → Report
treed_report r = record { start = r.start; goal = r.goal; sides = r.sides; shape = shapes.Tree r.nodes }

pub record IsPrintableTree (d : Description) (r : Treed) : Type 0 where
  pub ends : AreNamed d r.start r.goal
  pub valid : IsValid r.sides
  pub fits : Fits r.sides
  pub tree : IsCutTree r.nodes r.sides
  pub few : leaf_count r.nodes ≤ leaf_limit
  pub ids : AreTreeIds d r.start r.goal r.nodes

-- it reads as itself
abbrev pub PrintedTreesReadBack : Type 0
PrintedTreesReadBack =
    (d : Description) (r : Treed) → IsAccepted d → IsPrintableTree d r
    → report_of_text d (tree_text d r.start r.goal r.sides r.nodes) ≡ Ok (treed_report r)

-- it is short enough to be read as a file
abbrev pub PrintedTreesFit : Type 0
PrintedTreesFit =
    (d : Description) (r : Treed) → IsAccepted d → IsPrintableTree d r
    → length (tree_text d r.start r.goal r.sides r.nodes) ≤ length_limit

-- What `ask` answers in a described network.
use Rattle.std.specs.Prelude.{◌≡◌, ◌≤◌, ◌<◌, Err, List, Ok, length, true, ℕ}
use Rattle.header_boxes.specs.Boxes.{holds}
use Rattle.header_boxes.specs.Rows.{IsFirstThrough, NoneThrough}
use Rattle.block_report.specs.Reports.{more_text, reachable_text, report_text}
use Rattle.block_report.specs.Trees.{tree_text}
use Rattle.ordered_cover.specs.Joined.{GoesOnEitherWay}
use Rattle.ordered_cover.specs.Trees.{leaf_count}
use Rattle.ordered_cover.specs.declared.trees.Node.{Node}
use Rattle.network_reach.specs.Reached.{AreJoinedIn, IsPartReportIn, IsQueryIn, IsReportIn, IsTreeIn, goes_on_in, meaning_in, most_rows}
use Rattle.query_words.specs.Query.{query_of}
use Rattle.query_words.specs.declared.queries.Query.{Query}
use Rattle.query_words.specs.declared.refusal.QueryRefusal.{QueryRefusal}
use Rattle.report_reader.specs.ReadsBack.{AreNamed}
use Rattle.report_reader.specs.Nodes.{leaf_limit}
use Rattle.report_reader.specs.Reports.{report_of_text}
use Rattle.report_reader.specs.declared.report.Report.{Report}
use Rattle.report_reader.specs.declared.report.Shape.TheVariants as shapes
use Rattle.vpc_laws.specs.Types.{Description, Header, Row, StopText}
use Rattle.vpc_model.specs.Appliances.{appliances_of}
use Rattle.vpc_model.specs.Report.{IsCellCount}
use Rattle.vpc_model.specs.Verdict.{verdict_of}
use Rattle.vpc_model.specs.declared.outcomes.Verdict.TheVariants as verdicts
use Rattle.command_job.specs.Files.{file_limit}
use Rattle.command_job.specs.Lines.{query_refusal_line}
use Rattle.command_job.specs.declared.status.Status.{Status}
use Rattle.command_job.specs.declared.status.Status.TheVariants as ends

-- a query that can be answered: its ends can be named in a report, which has no more boxes than are read
pub record IsPut (d : Description) (query : Query) : Type 0 where
  pub known : IsQueryIn d query
  pub ends : AreNamed d query.start query.goal
  pub few : query.max ≤ leaf_limit

-- the first header that gets through, with the hops of its request and of its reply
pub record IsReachable (d : Description) (query : Query) (text : List ℕ) : Type 0 where
  pub header : Header
  pub first : IsFirstThrough (meaning_in d query) query.sides header
  pub text_is : text ≡ reachable_text d (appliances_of d) query.start query.goal header

-- the report that rows make about a query
abbrev pub report_about : Query → List (Row StopText) → Report
report_about query rows = record { start = query.start; goal = query.goal; sides = query.sides; shape = shapes.List rows }

-- and that a tree makes
abbrev pub tree_about : Query → List (Node StopText) → Report
tree_about query nodes = record { start = query.start; goal = query.goal; sides = query.sides; shape = shapes.Tree nodes }

-- an ordered true report of at most max rows, of which none could be one with the next, by p or by q; its text reads as that report, and is short enough for a file
pub record IsReported (d : Description) (query : Query) (text : List ℕ) : Type 0 where
  pub listed : query.max ≤ most_rows
  pub rows : List (Row StopText)
  pub report : IsReportIn d query rows
  pub joined : AreJoinedIn GoesOnEitherWay d query rows
  pub few : length rows ≤ query.max
  pub text_is : text ≡ report_text d query.start query.goal query.sides rows
  pub reads : report_of_text d text ≡ Ok (report_about query rows)
  pub short : length text ≤ file_limit

-- a true tree of at most max leaves, where max is more than a report of rows may have; its text reads as that report, and is short enough for a file
pub record IsReportedAsTree (d : Description) (query : Query) (text : List ℕ) : Type 0 where
  pub many : most_rows < query.max
  pub nodes : List (Node StopText)
  pub tree : IsTreeIn d query nodes
  pub few : leaf_count nodes ≤ query.max
  pub text_is : text ≡ tree_text d query.start query.goal query.sides nodes
  pub reads : report_of_text d text ≡ Ok (tree_about query nodes)
  pub short : length text ≤ file_limit

-- exactly max true rows, of which none could be one with the next, by p or by q (by q alone where max is more than a report of rows may have), the first header that they leave out, and the number of cells, which is greater; no header gets through
pub record IsReportedInPart (d : Description) (query : Query) (text : List ℕ) : Type 0 where
  pub rows : List (Row StopText)
  pub next : Header
  pub cells : ℕ
  pub report : IsPartReportIn d query rows next cells
  pub joined : AreJoinedIn (goes_on_in query) d query rows
  pub text_is : text ≡ more_text d query.start query.goal query.sides rows next cells

-- ---- answers

-- what is answered to a query: the first header that gets through, a report of rows or of a tree, or rows that leave headers out
pub data IsAnswerTo (d : Description) (query : Query) (status : Status) (text : List ℕ) : Type 0 where
  through : status ≡ ends.Yes → IsReachable d query text → IsAnswerTo d query status text
  blocked : status ≡ ends.No → IsReported d query text → IsAnswerTo d query status text
  treed : status ≡ ends.No → IsReportedAsTree d query text → IsAnswerTo d query status text
  more : status ≡ ends.More → IsReportedInPart d query text → IsAnswerTo d query status text

-- what `ask` answers to its words: why they give no query, or what is known of the query
pub data IsAsked (d : Description) (words : List (List ℕ)) (status : Status) (text : List ℕ) : Type 0 where
  refused : (refusal : QueryRefusal) → query_of d words ≡ Err refusal → status ≡ ends.Query → text ≡ query_refusal_line refusal → IsAsked d words status text
  answered : (query : Query) → query_of d words ≡ Ok query → IsAnswerTo d query status text → IsAsked d words status text

-- ---- completeness

-- some header of the query gets through
pub record SomeThrough (d : Description) (query : Query) : Type 0 where
  pub header : Header
  pub inside : holds header query.sides ≡ true
  pub through : verdict_of d (appliances_of d) query.start query.goal header ≡ verdicts.Through

-- none does, and the cells are at most max
pub record NoneInFewCells (d : Description) (query : Query) : Type 0 where
  pub none : NoneThrough (meaning_in d query) query.sides
  pub cells : ℕ
  pub cells_are : IsCellCount d query.sides cells
  pub few : cells ≤ query.max

-- yes where some header gets through, and no where none does and the cells are few
pub record IsDecided (d : Description) (query : Query) (status : Status) : Type 0 where
  pub yes : SomeThrough d query → status ≡ ends.Yes
  pub no : NoneInFewCells d query → status ≡ ends.No

-- where the words give a query, it is decided
abbrev pub IsAskDecided : Description → List (List ℕ) → Status → Type 0
IsAskDecided d words status = (query : Query) → query_of d words ≡ Ok query → IsDecided d query status

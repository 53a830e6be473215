-- What is answered to a query, in the words of the model.
use Rattle.std.specs.Prelude.{◌≡◌, ◌≤◌, ◌<◌, All, Bool, List, Option, false, length, nat_le, true, ℕ}
use Rattle.header_boxes.specs.Boxes.{IsValid, low_of}
use Rattle.header_boxes.specs.Cells.{IsAligned}
use Rattle.header_boxes.specs.Rows.{IsFirstThrough, IsTrueReport}
use Rattle.block_report.specs.Reports.{HaveText, told_rows}
use Rattle.block_report.specs.Trees.{NodesHaveText, told_nodes}
use Rattle.ordered_cover.specs.Joined.{AreJoined, GoesOn, GoesOnEitherWay}
use Rattle.ordered_cover.specs.Trees.{IsCutTree, leaf_count, leaves_of}
use Rattle.ordered_cover.specs.declared.trees.Node.{Node}
use Rattle.query_words.specs.declared.queries.Query.{Query}
use Rattle.vpc_laws.specs.Types.{Box5, Description, Header, Row, StopText, Verdict}
use Rattle.vpc_model.specs.Appliances.{appliances_of}
use Rattle.vpc_model.specs.Cuts.{cuts_of}
use Rattle.vpc_model.specs.Report.{IsOrderedReport, IsPartReport, meaning_of}
use Rattle.vpc_model.specs.Sound.{is_end}
use Rattle.vpc_model.specs.Verdict.{verdict_of}
use Rattle.network_reach.specs.declared.reach.Reached.{Reached}
use Rattle.network_reach.specs.declared.reach.Reached.TheVariants as answers

-- the ends are described, no side is empty, and a report may have a row
pub record IsQueryIn (d : Description) (query : Query) : Type 0 where
  pub start : is_end d query.start ≡ true
  pub goal : is_end d query.goal ≡ true
  pub sides : IsValid query.sides
  pub some : 1 ≤ query.max

-- what stops each request of a query, or its reply, with the described appliances
abbrev pub meaning_in : Description → Query → Header → Option StopText
meaning_in d query = meaning_of d (appliances_of d) query.start query.goal

-- an ordered true report of the query
abbrev pub IsReportIn : Description → Query → List (Row StopText) → Type 0
IsReportIn d query rows = IsOrderedReport d (appliances_of d) query.start query.goal query.sides rows

-- a true tree of the query: a cut tree of its box whose leaves are a true report, each of them aligned to the cuts of the description
pub record IsTreeIn (d : Description) (query : Query) (nodes : List (Node StopText)) : Type 0 where
  pub tree : IsCutTree nodes query.sides
  pub report : IsTrueReport (meaning_in d query) query.sides (leaves_of nodes query.sides)
  pub aligned : All (λ leaf. IsAligned (cuts_of d) leaf.part query.sides) (leaves_of nodes query.sides)

-- max ordered true rows that leave headers out
abbrev pub IsPartReportIn : Description → Query → List (Row StopText) → Header → ℕ → Type 0
IsPartReportIn d query rows next cells = IsPartReport d (appliances_of d) query.start query.goal query.sides query.max rows next cells

-- the verdict of each request of a query, with the described appliances
abbrev pub verdict_in : Description → Query → Header → Verdict
verdict_in d query = verdict_of d (appliances_of d) query.start query.goal

-- a report of more boxes than so many is a tree
abbrev pub most_rows : ℕ
most_rows = 20000

-- by p or by q, or by q alone
abbrev pub either_way_if : Bool → Box5 → Box5 → Type 0
either_way_if true = GoesOnEitherWay
either_way_if false = GoesOn

-- how one row of a query goes on from another: by p or by q where its report may have no more boxes than a list; by q alone where it is a tree
abbrev pub goes_on_in : Query → Box5 → Box5 → Type 0
goes_on_in query = either_way_if (nat_le query.max most_rows)

-- the other box goes on from the first, and the first request of each ends in the same verdict
pub record GoesOnAlike (On : Box5 → Box5 → Type 0) (d : Description) (query : Query) (first other : Box5) : Type 0 where
  pub on : On first other
  pub alike : verdict_in d query (low_of first) ≡ verdict_in d query (low_of other)

-- no row of a report goes on from the one before it and tells of the same verdict
abbrev pub AreJoinedIn : (Box5 → Box5 → Type 0) → Description → Query → List (Row StopText) → Type 0
AreJoinedIn On d query rows = AreJoined (GoesOnAlike On d query) rows

-- the first header that gets through; or an ordered true report of at most max rows, or a true tree of at most max leaves; or max rows that leave headers out. No row could be one with the next
abbrev pub IsReached : Description → Query → Reached → Type 0
IsReached d query (answers.Through h) = IsFirstThrough (meaning_in d query) query.sides h
IsReached d query (answers.Blocked rows) = (query.max ≤ most_rows) × (HaveText d rows.items × (IsReportIn d query (told_rows d rows.items) × ((length rows.items ≤ query.max) × (AreJoined GoesOnEitherWay rows.items × AreJoinedIn GoesOnEitherWay d query (told_rows d rows.items)))))
IsReached d query (answers.Tree nodes) =
    (most_rows < query.max) × (NodesHaveText d nodes.items × (IsTreeIn d query (told_nodes d nodes.items) × (leaf_count (told_nodes d nodes.items) ≤ query.max)))
IsReached d query (answers.More rows next cells) =
    HaveText d rows.items × (IsPartReportIn d query (told_rows d rows.items) next cells × (AreJoined (goes_on_in query) rows.items × AreJoinedIn (goes_on_in query) d query (told_rows d rows.items)))

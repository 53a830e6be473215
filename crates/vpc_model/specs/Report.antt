-- What a report about a query says: boxes that hold its headers, each with the phase, the component and the rule
-- that stop the request or the reply of every header of the box.
use Rattle.std.specs.Prelude.{◌≡◌, ◌<◌, All, List, None, Option, Some, length, ℕ}
use Rattle.vpc_model.specs.Types.{Box5, Description, End, Header, Row, StopText, Verdict}
use Rattle.vpc_model.specs.declared.outcomes.Verdict.TheVariants as verdicts
use Rattle.header_boxes.specs.Boxes.{low_of}
use Rattle.header_boxes.specs.Cells.{AreAscending, cells_of}
use Rattle.header_boxes.specs.Rows.{AreOrdered, AreTrueRows, IsFirstOutside, IsTrueReport, NoneThrough}
use Rattle.vpc_base.specs.Cuts.{AreAmong, CutLists}
use Rattle.vpc_base.specs.Header.{IsBefore}
use Rattle.vpc_model.specs.Appliances.{Appliances}
use Rattle.vpc_model.specs.Cuts.{cuts_of}
use Rattle.vpc_model.specs.Told.{told_stop}
use Rattle.vpc_model.specs.Verdict.{verdict_of}

-- what stops a request or its reply; none where the request gets through
abbrev pub ending_of : Description → Verdict → Option StopText
ending_of d verdicts.Through = None
ending_of d (verdicts.Stopped phase s) = Some (told_stop d phase s)

-- what stops each header of a query from the start to the goal
abbrev pub meaning_of : Description → Appliances → End → End → Header → Option StopText
meaning_of d appliances start goal h = ending_of d (verdict_of d appliances start goal h)

-- an ordered true report: true rows, ascending and aligned to the cuts of the description, that hold every header of the whole
pub record IsOrderedReport (d : Description) (appliances : Appliances) (start goal : End) (whole : Box5) (rows : List (Row StopText)) : Type 0 where
  pub report : IsTrueReport (meaning_of d appliances start goal) whole rows
  pub ordered : AreOrdered (cuts_of d) whole rows

-- how many cells the cuts of the description make of the box
pub record IsCellCount (d : Description) (whole : Box5) (n : ℕ) : Type 0 where
  pub cuts : CutLists
  pub ascending : AreAscending cuts
  pub no_others : AreAmong cuts (cuts_of d)
  pub all : AreAmong (cuts_of d) cuts
  pub count : n ≡ cells_of cuts whole

-- exactly max ordered true rows, each beginning before the first header that they leave out, where no header gets through and the cells are more than max
pub record IsPartReport (d : Description) (appliances : Appliances) (start goal : End) (whole : Box5) (max : ℕ) (rows : List (Row StopText)) (next : Header) (cells : ℕ) : Type 0 where
  pub are_true : AreTrueRows (meaning_of d appliances start goal) whole rows
  pub ordered : AreOrdered (cuts_of d) whole rows
  pub count : length rows ≡ max
  pub next_is : IsFirstOutside whole rows next
  pub begun : All (λ row. IsBefore (low_of row.part) next) rows
  pub none : NoneThrough (meaning_of d appliances start goal) whole
  pub cells_are : IsCellCount d whole cells
  pub many : max < cells

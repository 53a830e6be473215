-- What rows lack to be a report where they don't ascend, and to be a part of one where a row begins after the first header that they
-- leave out: nothing else.
use Rattle.std.specs.Prelude.{◌∷◌, [], All, List, true, ℕ, codes, Option}
use Rattle.vpc_laws.specs.Types.{Box5, Description, End, Header, Row, StopText}
use Rattle.vpc_model.specs.declared.places.End.TheVariants as ends
use Rattle.vpc_model.specs.declared.outcomes.Phase.TheVariants as phases
use Rattle.vpc_model.specs.declared.stops.StopName.TheVariants as names
use Rattle.header_boxes.specs.Cells.{IsAligned}
use Rattle.header_boxes.specs.Rows.{AreOrdered, AreTrueRows, IsFirstOutside, IsTrueReport}
use Rattle.vpc_examples.specs.Examples.{eni, tcp}
use Rattle.vpc_examples.specs.Networks.{v4}
use Rattle.vpc_examples.specs.Stops.{eni_a, eni_b, with_hosts}
use Rattle.vpc_model.specs.Cuts.{cuts_of}
use Rattle.vpc_model.specs.Report.{IsOrderedReport, IsPartReport, meaning_of}

-- the first host is attached to nothing, so that nothing it sends gets through
abbrev pub detached : Description
detached = with_hosts (record eni_a { idle = true }) eni_b

abbrev pub from_a : End
from_a = ends.Interface (eni 0)

abbrev pub to_b : End
to_b = ends.Interface (eni 1)

-- TCP from the first host to the second, to one port or to those of a range
abbrev pub to_port : ℕ → Header
to_port q = tcp (v4 10 0 1 10) (v4 10 0 2 20) 5000 q

abbrev pub to_ports : ℕ × ℕ → Box5
to_ports q = record { proto = (6, 6); src = (v4 10 0 1 10, v4 10 0 1 10); dst = (v4 10 0 2 20, v4 10 0 2 20); p = (5000, 5000); q = q }

abbrev pub row_to : ℕ × ℕ → Row StopText
row_to q = record { word = record { phase = phases.Request; name = names.Detached; id = codes "eni-a"; rule = codes "-" }; part = to_ports q }

-- what stops each header
abbrev pub detached_means : Header → Option StopText
detached_means h = meaning_of detached [] from_a to_b h

-- two rows are an ordered report in the one order; in the other they are a true report as well, and aligned, but not an ordered one
abbrev pub ReportsAscend : Type 0
ReportsAscend =
    let whole : Box5 = to_ports (0, 4095) in
    let down : List (Row StopText) = row_to (2048, 4095) ∷ row_to (0, 2047) ∷ [] in
    IsOrderedReport detached [] from_a to_b whole (row_to (0, 2047) ∷ row_to (2048, 4095) ∷ [])
    × (IsTrueReport detached_means whole down
    × (All (λ r. IsAligned (cuts_of detached) r.part whole) down
    × (IsOrderedReport detached [] from_a to_b whole down → ⊥)))

-- the first row alone is a part of that report, which has five cells, with the first port that it leaves out; the second alone is
-- none, with the first port that this one leaves out: that comes before it
abbrev pub PartReportsLeaveNothingBefore : Type 0
PartReportsLeaveNothingBefore =
    let whole : Box5 = to_ports (0, 4095) in
    let late : List (Row StopText) = row_to (2048, 4095) ∷ [] in
    IsPartReport detached [] from_a to_b whole 1 (row_to (0, 2047) ∷ []) (to_port 2048) 5
    × (AreTrueRows detached_means whole late
    × (AreOrdered (cuts_of detached) whole late
    × (IsFirstOutside whole late (to_port 0)
    × (IsPartReport detached [] from_a to_b whole 1 late (to_port 0) 5 → ⊥))))

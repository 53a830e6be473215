use Rattle.box_survey.proofs.Found.{surveyed_gap, surveyed_settled}
use Rattle.box_survey.proofs.cells.find_gap.Goals as goal

pub returns-then-is_past : goal.returns-then-is_past
returns-then-is_past g c =
    let past = c.is_past.ensures c.if-is_past.true in
    surveyed_settled (g.G.Gaps.matters c.args.gaps.now) c.args.boxes.now c.args.cell.now c.args.found.now c.requires.numbers c.requires.there (λ h inside matter. past h inside)

pub returns-in-Some : goal.returns-in-Some
returns-in-Some g c =
    surveyed_gap (g.G.Gaps.matters c.args.gaps.now) c.args.boxes.now c.args.cell.now c.in-Some.h c.args.found.now c.add_uncovered.new.self c.requires.numbers c.requires.there
    (rw c.in-Some.is at c.in_ok-h.ensures) c.add_uncovered.ensures.least c.add_uncovered.ensures.outside c.add_uncovered.ensures.upto_found

pub returns-in_default : goal.returns-in_default
returns-in_default g c =
    let none = rw c.in_default.is at c.in_ok-h.ensures in
    surveyed_settled (g.G.Gaps.matters c.args.gaps.now) c.args.boxes.now c.args.cell.now c.args.found.now c.requires.numbers c.requires.there (λ h inside matter. absurd (none h inside matter))

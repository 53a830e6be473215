use Rattle.std.proofs.Common.{refl}
use Rattle.box_survey.specs.Findings as findings
use Rattle.box_survey.proofs.cells.compare.Goals as goal

pub returns-in-Some : goal.returns-in-Some
returns-in-Some c =
    findings.sharing c.in-Some.number (rw c.in-Some.is at c.first_sharing.ensures) c.add_overlap.ensures.least c.add_overlap.ensures.upto_found c.add_overlap.ensures.outside

pub returns-in_default : goal.returns-in_default
returns-in_default c = findings.apart (rw c.in_default.is at c.first_sharing.ensures) refl

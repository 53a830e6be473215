use Rattle.std.proofs.Common.{◌∙◌, IfOk, List, subst}
use Rattle.box_gather.specs.Over.{IsGatheredOver}
use Rattle.header_boxes.specs.declared.boxes.Box5.{Box5}
use Rattle.change_report.specs.Told.{change_in, cuts_in}
use Rattle.change_report.proofs.gathered.gather_at.Goals as goal

pub returns-clause-gathered : goal.returns-clause-gathered
returns-clause-gathered g c =
    subst (λ (l : List Box5). IfOk c.gather_from.result (IsGatheredOver (change_in c.args.compared.now c.args.start) (cuts_in c.args.compared.now) l c.args.room))
    (c.as_slice.ensures.value ∙ c.in_ok-boxes.ensures.value) c.gather_from.ensures.gathered

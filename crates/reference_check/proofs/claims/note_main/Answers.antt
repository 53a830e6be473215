use Rattle.std.proofs.Common.{◌∙◌, ap}
use Rattle.reference_check.specs.Claims.{noted_at}
use Rattle.reference_check.proofs.Distinct.{distinct}
use Rattle.reference_check.proofs.Marks.{noted_main, noted_no_main}
use Rattle.reference_check.proofs.claims.note_main.Goals as goal

pub returns-then-table : goal.returns-then-table
returns-then-table c = λ f e.
    c.note.ensures
    ∙ ap (noted_at c.args.vpcs.now c.args.row c.args.table.now.vpc) e
    ∙ noted_main c.args.vpcs.now c.args.row c.args.table.now f (distinct _ c.requires.differ) c.if-table.true

pub returns-else-table : goal.returns-else-table
returns-else-table c = λ f e. e ∙ noted_no_main c.args.vpcs.now c.args.row c.args.table.now f c.if-table.false

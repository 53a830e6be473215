use Rattle.std.proofs.Common.{◌∙◌, ap}
use Rattle.vpc_base.proofs.Results.{if_ok}
use Rattle.command_job.specs.Lines.{line}
use Rattle.vpc_commands.specs.Files as files
use Rattle.vpc_commands.proofs.Taken.{is_too_big, taken_of_bytes}
use Rattle.vpc_commands.proofs.files.describe.Goals as goal

pub returns-in-Ok-clause-described : goal.returns-in-Ok-clause-described
returns-in-Ok-clause-described g c =
    if_ok _ _ c.describe_bytes.result
    (λ x. taken_of_bytes c.args.which (g.S.Shelf.told c.args.shelf.now) _ c.args.file.now c.in-Ok.bytes.items x c.in-Ok.ensures.whole c.in-Ok.ensures.within)
    (rw c.as_slice.ensures.value at c.describe_bytes.ensures)

pub returns-in_ok-answer_line-in-Err-Failed-clause-described : goal.returns-in_ok-answer_line-in-Err-Failed-clause-described
returns-in_ok-answer_line-in-Err-Failed-clause-described g c =
    let failure = c.take.ensures.failed_only_where_faults_rose (rw c.in-Err-Failed.field-0-is at c.in-Err-Failed.is) in
    let says = c.in_ok-answer_line-in-Err-Failed.ensures in
    files.not_read failure says.0 (says.1 ∙ ap line c.read_fault.ensures)

pub returns-in_ok-refuse_description-in-Err-TooLong-clause-described : goal.returns-in_ok-refuse_description-in-Err-TooLong-clause-described
returns-in_ok-refuse_description-in-Err-TooLong-clause-described g c =
    let long = c.take.ensures.too_long (rw c.in-Err-TooLong.field-0-is at c.in-Err-TooLong.is) in
    is_too_big c.args.which (g.S.Shelf.told c.args.shelf.now) _ c.args.file.now _ _ long c.in_ok-refuse_description-in-Err-TooLong.ensures

use Rattle.vpc_base.proofs.Results.{if_ok}
use Rattle.vpc_commands.specs.Files as files
use Rattle.vpc_commands.specs.Files.{second_fault}
use Rattle.vpc_commands.proofs.Taken.{text_is_too_big, text_of_bytes}
use Rattle.vpc_commands.proofs.files.answer_second.Goals as goal

pub returns-in-Ok : goal.returns-in-Ok
returns-in-Ok g c =
    if_ok _ _ c.answer.result
    (λ a. text_of_bytes second_fault (g.S.Shelf.told c.args.shelf.now) _ c.args.file.now c.in-Ok.bytes.items _ _ a.status a.text.items c.in-Ok.ensures.whole c.in-Ok.ensures.within)
    (rw c.as_slice.ensures.value at c.answer.ensures)

pub returns-in-Err-Failed : goal.returns-in-Err-Failed
returns-in-Err-Failed g c =
    let failure = c.take.ensures.failed_only_where_faults_rose (rw c.in-Err-Failed.field-0-is at c.in-Err-Failed.is) in
    if_ok _ _ c.answer_line.result (λ a says. files.not_read failure says.0 says.1) c.answer_line.ensures

pub returns-in-Err-TooLong : goal.returns-in-Err-TooLong
returns-in-Err-TooLong g c =
    let long = c.take.ensures.too_long (rw c.in-Err-TooLong.field-0-is at c.in-Err-TooLong.is) in
    if_ok _ _ c.refuse.result
    (λ a. text_is_too_big second_fault (g.S.Shelf.told c.args.shelf.now) _ c.args.file.now _ _ a.status a.text.items long)
    c.refuse.ensures

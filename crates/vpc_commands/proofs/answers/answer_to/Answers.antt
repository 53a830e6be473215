use Rattle.std.proofs.Common.{◌∙◌, sym}
use Rattle.vpc_base.proofs.Results.{if_ok}
use Rattle.vpc_commands.specs.Due as due
use Rattle.vpc_commands.proofs.answers.answer_to.Goals as goal

pub returns-in-Err : goal.returns-in-Err
returns-in-Err g c =
    if_ok _ _ c.refuse_words.result (λ a h. due.not_words c.in-Err.refusal (sym c.read_words.ensures.command ∙ c.in-Err.is) h.0 h.1) c.refuse_words.ensures

pub returns-in-Ok : goal.returns-in-Ok
returns-in-Ok g c =
    if_ok _ _ c.answer_command.result (λ a so. due.answered c.in-Ok.command (sym c.read_words.ensures.command ∙ c.in-Ok.is) so) c.answer_command.ensures

use Rattle.std.proofs.Common.{◌∙◌, ap, sym}
use Rattle.vpc_base.proofs.Results.{if_ok}
use Rattle.made_reach.specs.Made.{made_count}
use Rattle.made_reach.specs.Made as surveys
use Rattle.made_reach.proofs.makes.make.Goals as goal

pub returns-in-Some : goal.returns-in-Some
returns-in-Some c =
    if_ok _ _ c.survey.result (λ a survey. surveys.surveyed c.in-Some.n (ap made_count (sym c.word.ensures) ∙ (sym c.made_count.ensures.value ∙ c.in-Some.is)) survey) c.survey.ensures

use Rattle.std.proofs.Common.{◌∙◌, map, string_bytes, sym}
use Rattle.std.proofs.lemmas.Bool.{false≢true}
use Rattle.vpc_base.proofs.Results.{if_ok}
use Rattle.end_reach.specs.Answered as answered
use Rattle.end_reach.specs.Answered.{IsAnswerTo, IsToldUnlessTooMany}
use Rattle.end_reach.proofs.answers.tell.Goals as goal

pub returns-else-is_too_many : goal.returns-else-is_too_many
returns-else-is_too_many c =
    let d = c.args.network in
    let q = c.args.query.now in
    let words = map string_bytes c.args.words.now in
    if_ok (λ a. IsAnswerTo d q words a.status a.text.items) (λ a. IsToldUnlessTooMany d q words a.status a.text.items) c.answer_job.result
    (λ a answer. answered.told (λ many. absurd (false≢true (sym c.if-is_too_many.false ∙ c.is_too_many.ensures.1 many))) answer)
    c.answer_job.ensures

use Rattle.command_job.specs.Lines.{line}
use Rattle.std.proofs.Common.{◌≡◌}
use Rattle.vpc_base.proofs.Results.{if_ok_two}
use Rattle.listing_check.proofs.Decided.{found_names_start}
use Rattle.listing_check.specs.Answered.{IsVerdict, found_status}
use Rattle.listing_check.specs.Texts.{found_text}
use Rattle.listing_check.proofs.answers.answer_lists.Goals as goal

pub answer_found-requires : goal.answer_found-requires
answer_found-requires g c = found_names_start (g.Q.Question.asked c.args.q.now) c.args.lists.now c.in_ok-found.found c.requires.count c.in_ok-found.ensures

pub returns : goal.returns
returns g c =
    let asked = g.Q.Question.asked c.args.q.now in
    let f = c.in_ok-found.found in
    if_ok_two (λ a. a.status ≡ found_status f) (λ a. a.text.items ≡ line (found_text asked f)) (λ a. IsVerdict asked c.args.lists.now a.status a.text.items) c.answer_found.result
    (λ a status text. record { found = f; is_found = c.in_ok-found.ensures; status_is = status; text_is = text }) c.answer_found.ensures.status c.answer_found.ensures.text

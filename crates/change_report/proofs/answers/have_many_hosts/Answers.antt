use Rattle.std.proofs.Common.{◌≡◌, ◌∙◌, ap, length, nat_lt, rules}
use Rattle.listing_text.specs.Answered.{host_limit}
use Rattle.change_report.proofs.AnswerLemmas.{many_by}
use Rattle.change_report.proofs.answers.have_many_hosts.Goals as goal

pub returns : goal.returns
returns c =
    let count : c.len.result ≡ length c.in_ok-hosts.hosts.items = search rules in
    c.is_many.ensures ∙ (ap (nat_lt host_limit) count ∙ many_by c.args.before.now c.args.after.now c.in_ok-hosts.hosts.items c.in_ok-hosts.ensures)

use Rattle.std.proofs.Common.{◌∙◌, ◌++◌, List, ap, codes, decimal, refl, subst, ℕ}
use Rattle.block_report.specs.Words.{line_end, word}
use Rattle.query_words.specs.declared.queries.Query.{Query}
use Rattle.made_reach.specs.Made.{Adds, IsPair}
use Rattle.made_reach.proofs.MadeLemmas.{survey_is}
use Rattle.made_reach.proofs.makes.SurveyingJob.answer_with.Goals as goal

pub returns : goal.returns
returns g c = record {
  status_is = refl;
  survey = survey_is c.args.f.now c.args.self.now.count c.put_number_line.new.out.items c.put_hosts.new.out.items c.put_pair.new.out.items c.requires.fits.made_is
      (c.in_ok-put_number_line.ensures
      ∙ (ap (λ (t : List ℕ). t ++ (codes "make" ++ word (decimal c.from.result) ++ line_end)) c.new-text.ensures.items
      ∙ ap (λ (n : ℕ). codes "make" ++ word (decimal n) ++ line_end) c.from.ensures))
      c.in_ok-put_hosts.ensures
      (subst (λ (q : Query). Adds (IsPair c.args.f.now q (codes "internet")) c.put_hosts.new.out.items c.put_pair.new.out.items) c.to_internet.ensures c.in_ok-put_pair.ensures);
}

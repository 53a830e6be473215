use Rattle.std.proofs.Common.{◌++◌, ◌∙◌, List, Option, ap, sym, ℕ}
use Rattle.vpc_laws.specs.Types.{SubnetNo}
use Rattle.walk_reasons.specs.Decisions.{judged_in}
use Rattle.walk_reasons.specs.Reasons.{decision_lines}
use Rattle.walk_reasons.proofs.ToldPlaces.{judged_in-some}
use Rattle.walk_reasons.proofs.Texts.{put_none}
use Rattle.walk_reasons.proofs.judging.put_judged_in.Goals as goal

pub returns-in_ok-put_judgement-in-Some : goal.returns-in_ok-put_judgement-in-Some
returns-in_ok-put_judgement-in-Some c =
    c.in_ok-put_judgement-in-Some.ensures.text
    ∙ ap (λ (t : List ℕ). c.args.out.now.items ++ t) (judged_in-some c.args.f.now c.args.h.now c.in-Some.t c.args.entered c.in-Some.is)

pub returns-in-None : goal.returns-in-None
returns-in-None c =
    put_none c.args.out.now.items
    ∙ ap (λ (o : Option SubnetNo). c.args.out.now.items ++ decision_lines c.args.f.now (judged_in c.args.f.now c.args.h.now o)) (sym c.in-None.is)

use Rattle.std.proofs.Common.{◌≡◌, ◌∷◌, ◌∙◌, [], IfOk, Option, ap, map, subst, sym}
use Rattle.std.specs.Prelude.{codes, drop}
use Rattle.std.specs.Result.{result_ok}
use Rattle.query_words.specs.ReachQuery.{reach_query_of}
use Rattle.query_words.specs.declared.reaches.ReachQuery.{ReachQuery}
use Rattle.reach_check.proofs.Checked.{reach_question-none, reach_question-some}
use Rattle.reach_check.proofs.reaches.read_question.Goals as goal

pub returns-in-Some-clause-question : goal.returns-in-Some-clause-question
returns-in-Some-clause-question c =
    let d = c.args.n.now in
    subst (λ (q : Option ReachQuery). IfOk c.read_words.result (λ r. r ≡ q))
    (ap (λ ws. result_ok (reach_query_of d (codes "reach" ∷ [] ∷ drop 1 (map (λ w. w.now) ws)))) c.as_slice.ensures.value
    ∙ sym (reach_question-some d (map (λ l. l.now) c.args.lines.now) (map (λ w. w.now) c.in-Some.words.items) (rw c.in-Some.is at c.in_ok-words.ensures.words)))
    c.read_words.ensures.question

pub returns-in-None-clause-question : goal.returns-in-None-clause-question
returns-in-None-clause-question c = sym (reach_question-none c.args.n.now (map (λ l. l.now) c.args.lines.now) (rw c.in-None.is at c.in_ok-words.ensures.none))

use Rattle.std.proofs.Common.{◌≡◌, ◌∷◌, ◌∙◌, [], Bor, IfOk, List, Option, ap, arith, codes, length, map, subst, sym, ℕ}
use Rattle.std.specs.Result.{result_ok}
use Rattle.std.proofs.lemmas.List.{length-map}
use Rattle.query_words.specs.ChangeQuery.{change_query_of}
use Rattle.query_words.specs.declared.changes.ChangeQuery.{ChangeQuery}
use Rattle.diff_check.proofs.Checking.{diff_question-none, diff_question-some, question_has_words}
use Rattle.diff_check.proofs.diffs.diff_question.Goals as goal

pub query_of-requires : goal.query_of-requires
query_of-requires c =
    let words = c.in-Some.words.items in
    let some = question_has_words (map (λ l. l.now) c.args.lines.now) (map (λ w. w.now) words) (rw c.in-Some.is at c.in_ok-words.ensures.words) in
    let long = length-map words (λ (w : Bor (List ℕ)). w.now) in
    let lent = ap length c.as_slice.ensures.value in
    omega (arith, some, long, lent)

pub returns-in-Some-clause-value : goal.returns-in-Some-clause-value
returns-in-Some-clause-value c =
    let before = c.args.before.now in
    let after = c.args.after.now in
    subst (λ (q : Option ChangeQuery). IfOk c.query_of.result (λ r. r ≡ q))
    (ap (λ ws. result_ok (change_query_of before after (codes "diff" ∷ [] ∷ map (λ w. w.now) ws))) c.as_slice.ensures.value
    ∙ sym (diff_question-some before after (map (λ l. l.now) c.args.lines.now) (map (λ w. w.now) c.in-Some.words.items) (rw c.in-Some.is at c.in_ok-words.ensures.words)))
    c.query_of.ensures.value

pub returns-in-None-clause-value : goal.returns-in-None-clause-value
returns-in-None-clause-value c = sym (diff_question-none c.args.before.now c.args.after.now (map (λ l. l.now) c.args.lines.now) (rw c.in-None.is at c.in_ok-words.ensures.none))

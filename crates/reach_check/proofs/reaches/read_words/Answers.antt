use Rattle.std.proofs.Common.{◌≡◌, ◌∷◌, ◌∙◌, [], List, ap, map, sym, ℕ}
use Rattle.std.specs.Prelude.{codes, drop}
use Rattle.std.specs.Result.{result_ok}
use Rattle.std.proofs.lemmas.List.{drop-map}
use Rattle.query_words.proofs.EventLemmas.{refused_if_told}
use Rattle.query_words.specs.ReachQuery.{reach_query_of}
use Rattle.reach_check.proofs.reaches.read_words.Goals as goal

pub returns-in_ok-unless_memory-in-Err-clause-question : goal.returns-in_ok-unless_memory-in-Err-clause-question
returns-in_ok-unless_memory-in-Err-clause-question c =
    let d = c.args.n.now in
    let given : List (List ℕ) = map (λ w. w.now) c.asked_words.result.now in
    let same : given ≡ drop 1 (map (λ w. w.now) c.args.words.now) = ap (map (λ w. w.now)) c.asked_words.ensures ∙ sym (drop-map _ 1 c.args.words.now) in
    sym
    (ap (λ (ws : List (List ℕ)). result_ok (reach_query_of d (codes "reach" ∷ [] ∷ ws))) (sym same)
    ∙ ap result_ok (refused_if_told (reach_query_of d (codes "reach" ∷ [] ∷ given)) c.in-Err.refusal c.in-Err.ensures.answer c.in_ok-unless_memory-in-Err.ensures))

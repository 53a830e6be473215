use Rattle.std.proofs.Common.{◌≡◌, ◌∙◌, Bool, List, Ok, ap, bytes_eq, codes, cond, false, subst, sym, ℕ}
use Rattle.vpc_model.specs.declared.places.End.TheVariants as ends
use Rattle.query_words.proofs.ends.read_end.Goals as goal
use Rattle.query_words.specs.Ends.{known_end}
use Rattle.query_words.specs.Refusal.{Answers}

-- a word that doesn't mean the internet is an id
pub returns-else-eq-clause-answer : goal.returns-else-eq-clause-answer
returns-else-eq-clause-answer g c =
    let d = c.args.n.now in
    let word = c.word-word.result.now in
    let other : bytes_eq word (codes "internet") ≡ false = sym (ap (bytes_eq word) c.as_slice.ensures) ∙ (sym c.eq.ensures ∙ c.if-eq.false) in
    subst (λ (w : List ℕ). Answers (cond (bytes_eq w (codes "internet")) (Ok ends.Internet) (known_end d w c.args.number)) c.known_end.result) c.word-word.ensures
    (subst (λ (b : Bool). Answers (cond b (Ok ends.Internet) (known_end d word c.args.number)) c.known_end.result) (sym other) c.known_end.ensures.answer)

use Rattle.std.proofs.Common.{◌≡◌, List, Ok, Result, codes, false, if◌then◌else◌, subst, sym, ℕ}
use Rattle.std.specs.Str.{bytes_eq}
use Rattle.std.proofs.lemmas.Bool.{cond-false}
use Rattle.vpc_laws.specs.Types.{Description}
use Rattle.query_words.specs.ChangeQuery.{changed_end_of, internet_in_both, named_end}
use Rattle.query_words.specs.Refusal.{Answers}
use Rattle.query_words.specs.Words.{word_at}
use Rattle.query_words.specs.declared.changes.ChangedEnd.{ChangedEnd}
use Rattle.query_words.specs.declared.refusal.QueryRefusal.{QueryRefusal}
use Rattle.query_words.proofs.changes.read_changed_end.Goals as goal

-- a word other than `internet` is the id of an end
named_by : (before after : Description) (words : List (List ℕ)) (n : ℕ) (id : List ℕ) (r : Result ChangedEnd QueryRefusal) → id ≡ word_at words n → bytes_eq id (codes "internet") ≡ false
    → Answers (named_end before after id n) r → Answers (changed_end_of before after words n) r
named_by before after words n id r is other answer =
    subst (λ (w : List ℕ). Answers (if bytes_eq w (codes "internet") then Ok internet_in_both else named_end before after w n) r) is
    (subst (λ (m : Result ChangedEnd QueryRefusal). Answers m r) (sym (cond-false _ _ _ other)) answer)

pub returns-else-eq-clause-answer : goal.returns-else-eq-clause-answer
returns-else-eq-clause-answer g c =
    let id = c.word-id.result.now in
    let other : bytes_eq id (codes "internet") ≡ false = cc in
    named_by c.args.before.now c.args.after.now (g.W.NumberedWords.words c.args.words.now) c.args.number id c.named_end.result c.word-id.ensures other c.named_end.ensures.answer

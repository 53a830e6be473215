use Rattle.std.proofs.Common.{◌∙◌, ◌++◌, ◌<◌, List, Ok, ap, length, map, rules, subst, tests, ℕ}
use Rattle.std.specs.Borrow.{Bor}
use Rattle.std.proofs.lemmas.Iterator.Splits.{YieldsList-from_slice_split}
use Rattle.query_words.specs.Events.{words_of}
use Rattle.report_reader.proofs.WordLemmas.{longer_if_more, map_from_extend}
use Rattle.report_reader.proofs.words.few_words.Goals as goal

pub returns-in-Ok-clause-all : goal.returns-in-Ok-clause-all
returns-in-Ok-clause-all c =
    map_from_extend {E = ℕ} {all = words_of c.args.line.now} (λ w. w.now) c.new-words.result.items c.extend.new.self.items (Ok c.in-Ok.field-0) c.in-Ok.ensures.ran
    (YieldsList-from_slice_split _ _ c.args.line.now (cc) (cc) (cc) (λ x r q k. search (rules, tests)))
    (λ xs gives. gives)
    ∙ ap (λ (none : List (Bor (List ℕ))). map (λ w. w.now) none ++ words_of c.args.line.now) c.new-words.ensures

pub returns-in-Err-clause-many : goal.returns-in-Err-clause-many
returns-in-Err-clause-many c =
    let more = c.in-Err.ensures.one_more in
    subst (λ n. n < length (words_of c.args.line.now)) c.in-Err.ensures.full
    (longer_if_more (λ w. w.now) more.1 c.extend.new.self.items more.2 more.3 more.4 more.5 (more.6 ∙ ap (λ (none : List (Bor (List ℕ))). none ++ more.1) c.new-words.ensures)
    (YieldsList-from_slice_split _ _ c.args.line.now (cc) (cc) (cc) (λ x r q k. search (rules, tests))))

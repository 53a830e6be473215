use Rattle.std.proofs.Common.{◌≡◌, ◌∙◌, ◌∷◌, [], None, rules, sym}
use Rattle.listing_reader.proofs.CutLemmas.{none_then, not_begun-blank_within, not_begun-no_blank, not_begun-other, words_of-stripped}
use Rattle.listing_reader.proofs.cuts.after_word.Goals as goal

pub returns-in_err-after : goal.returns-in_err-after
returns-in_err-after c =
    let none : c.from_residual.result ≡ None = search rules in
    none_then _ _ c.from_residual.result none (not_begun-other c.args.text.now c.args.word.now c.in_err-after.ensures.cases)

pub returns-in_err-rest : goal.returns-in_err-rest
returns-in_err-rest c =
    let none : c.from_residual-in_err-rest.result ≡ None = search rules in
    let blank : c.as_slice.result.now ≡ 32 ∷ [] = search rules in
    let front = c.in_ok-after.ensures.cases in
    none_then _ _ c.from_residual-in_err-rest.result none
    (not_begun-no_blank c.args.text.now c.args.word.now c.in_ok-after.after.now c.as_slice.result.now front.0 front.1 blank c.in_err-rest.ensures.cases)

pub returns-then-has_no_blank : goal.returns-then-has_no_blank
returns-then-has_no_blank c =
    let blank : c.as_slice.result.now ≡ 32 ∷ [] = search rules in
    let front = c.in_ok-after.ensures.cases in
    let middle = c.in_ok-rest.ensures.cases in
    words_of-stripped c.args.text.now c.args.word.now c.in_ok-after.after.now c.as_slice.result.now c.in_ok-rest.rest.now front.0 front.1 blank middle.0 middle.1 (sym c.has_no_blank.ensures ∙ c.if-has_no_blank.true)

pub returns-else-has_no_blank : goal.returns-else-has_no_blank
returns-else-has_no_blank c = not_begun-blank_within c.args.text.now c.args.word.now (sym c.has_no_blank.ensures ∙ c.if-has_no_blank.false)

use Rattle.std.proofs.Common.{◌∙◌, List, ap, arith, bytes_eq, codes, string_bytes, sym, ℕ}
use Rattle.listing_text.proofs.WordLemmas.{slice_all, slice_but_max}
use Rattle.listing_text.proofs.words.given_words.Goals as goal

pub returns-then-eq : goal.returns-then-eq
returns-then-eq c =
    slice_but_max string_bytes c.args.before c.args.words.now c.saturating_sub.result (omega (arith, c.saturating_sub.ensures))
    (ap (λ (w : List ℕ). bytes_eq w (codes "max")) (sym c.word.ensures) ∙ (sym c.eq.ensures ∙ c.if-eq.true))

pub returns-else-eq : goal.returns-else-eq
returns-else-eq c = slice_all string_bytes c.args.before c.args.words.now (ap (λ (w : List ℕ). bytes_eq w (codes "max")) (sym c.word.ensures) ∙ (sym c.eq.ensures ∙ c.if-eq.false))

use Rattle.std.proofs.Common.{◌∙◌, ◌+◌, ◌∷◌, List, ap, sym, take, ℕ}
use Rattle.std.proofs.lemmas.List.{take_rest}
use Rattle.report_reader.specs.Reports.{pieces_of}
use Rattle.report_reader.proofs.PieceLemmas.{piece_next}
use Rattle.report_reader.proofs.reading.cut.Goals as goal

pub returns-in-Some-clause-first : goal.returns-in-Some-clause-first
returns-in-Some-clause-first c =
    let text = c.args.text.now in
    piece_next text c.in-Some.at c.in-Some.ensures
    ∙ ap (λ (rest : List ℕ). take c.in-Some.at text ∷ pieces_of rest) (sym (take_rest text (c.in-Some.at + 1)))

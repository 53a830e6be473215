use Rattle.std.proofs.Common.{◌+◌, ◌++◌, ◌==◌, ◌∙◌, ◌∷◌, List, ap, sym, take, ℕ}
use Rattle.std.specs.List.{slice_split}
use Rattle.std.proofs.lemmas.List.{take_rest}
use Rattle.flow_check.proofs.Cuts.{clear-all, clear-before, cut-first, cut-last, cut-whole}
use Rattle.flow_check.proofs.lines.cut.Goals as goal

pub returns-in-Some-clause-whole : goal.returns-in-Some-clause-whole
returns-in-Some-clause-whole c =
    let text = c.args.text.now in
    let k = c.in-Some.at in
    cut-whole c.args.byte text k (sym c.in-Some.ensures.value) ∙ ap (λ (rest : List ℕ). take k text ++ c.args.byte ∷ rest) (sym (take_rest text (k + 1)))

pub returns-in-Some-clause-clear : goal.returns-in-Some-clause-clear
returns-in-Some-clause-clear c = clear-before c.args.byte c.args.text.now c.in-Some.at (sym c.in-Some.ensures.value)

pub returns-in-Some-clause-first : goal.returns-in-Some-clause-first
returns-in-Some-clause-first c =
    let text = c.args.text.now in
    let k = c.in-Some.at in
    cut-first c.args.byte text k (sym c.in-Some.ensures.value) ∙ ap (λ (rest : List ℕ). take k text ∷ slice_split (λ b. b == c.args.byte) rest) (sym (take_rest text (k + 1)))

pub returns-in-None-clause-all_clear : goal.returns-in-None-clause-all_clear
returns-in-None-clause-all_clear c = clear-all c.args.byte c.args.text.now (sym c.in-None.ensures.value)

pub returns-in-None-clause-last : goal.returns-in-None-clause-last
returns-in-None-clause-last c = cut-last c.args.byte c.args.text.now (sym c.in-None.ensures.value)

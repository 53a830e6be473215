use Rattle.std.proofs.Common.{◌∙◌, Bor, List, map, sym, ℕ}
use Rattle.std.proofs.lemmas.List.{length-map}
use Rattle.flow_check.proofs.Fields.{unfit-more}
use Rattle.flow_check.proofs.words.fields_of.Goals as goal

pub returns-then-len-clause-unfit : goal.returns-then-len-clause-unfit
returns-then-len-clause-unfit c =
    unfit-more (map (λ w. w.now) c.loop-word.words.items) c.loop-word.rest.now c.in-Some.word.now c.in-Some.after.now c.args.line.now
    c.loop-word.invariant.all c.in-Some.ensures.first (length-map c.loop-word.words.items (λ (w : Bor (List ℕ)). w.now) ∙ sym c.len.ensures.value ∙ c.if-len.true)

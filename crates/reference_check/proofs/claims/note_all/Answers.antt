use Rattle.std.proofs.Common.{◌++◌, ◌∙◌, ◌∷◌, [], ap, sym, take}
use Rattle.std.proofs.lemmas.Grind.{take_at_read}
use Rattle.reference_check.specs.Claims.{noted_all, noted_at}
use Rattle.reference_check.proofs.Distinct.{distinct}
use Rattle.reference_check.proofs.Marks.{noted_all-push}
use Rattle.reference_check.proofs.claims.note_all.Goals as goal

pub loop-id-preserved : goal.loop-id-preserved
loop-id-preserved c = λ f e.
    let read = take_at_read c.args.ids.now c.loop-id.id-index c.id-item.result c.loop-id-test.true in
    let taken = read.1 ∙ ap (λ x. take c.loop-id.id-index c.args.ids.now ++ x ∷ []) (sym c.id-item.is) in
    c.note.ensures
    ∙ ap (noted_at c.args.targets.now c.args.row c.id-item.result) (c.loop-id.invariant f e)
    ∙ noted_all-push c.args.targets.now c.args.row (take c.loop-id.id-index c.args.ids.now) c.id-item.result f (distinct _ c.requires.differ)
    ∙ ap (λ ids. noted_all c.args.targets.now c.args.row ids f) (sym taken)

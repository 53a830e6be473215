use Rattle.std.proofs.Common.{◌∙◌, ap}
use Rattle.vpc_base.specs.declared.headers.Header.{Header}
use Rattle.box_images.specs.Fields.{value_of}
use Rattle.image_tests.proofs.PieceLemmas.{answers_by_piece}
use Rattle.image_tests.proofs.pieces.piece_on.Goals as goal

pub returns-clause-answer : goal.returns-clause-answer
returns-clause-answer g c =
    let i = c.args.i.now in
    let found = c.find-first.ensures in
    let at_low = ap (λ (h : Header). h.dst) c.value-dst.ensures.value ∙ ap (value_of i.dst) c.low.ensures.value in
    answers_by_piece i c.args.pieces.now c.value-dst.result.dst c.find-first.result.0 c.find-first.result.1 c.find-first.result.2 c.narrow.result
    c.requires.valid c.requires.walk found.pieces c.value-dst.ensures.fits.dst at_low found.first found.last found.told found.from found.upto
    c.narrow.ensures.told c.narrow.ensures.body c.narrow.ensures.ends

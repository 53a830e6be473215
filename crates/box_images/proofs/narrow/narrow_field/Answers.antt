use Rattle.std.proofs.Common.{ap, ◌∙◌, ◌+◌, ℕ}
use Rattle.header_boxes.specs.Boxes.{in_range}
use Rattle.box_images.proofs.NarrowLemmas.{told_of_field}
use Rattle.box_images.proofs.narrow.narrow_field.Goals as goal

pub returns-in-Of : goal.returns-in-Of
returns-in-Of c =
    let tests = λ (n : ℕ). in_range (c.args.lo, c.args.hi) n in
    let last = c.last_alike in
    told_of_field c.args.part.now c.ending_at.result c.args.field c.in-Of.side c.in-Of.add c.args.lo c.args.hi last.result c.side_of-range.result
    c.is_between-in-Of.result c.requires.valid c.in-Of.is c.side_of-range.ensures last.ensures.begins last.ensures.ends last.ensures.edge
    last.ensures.alike c.ending_at.ensures
    (c.is_between-in-Of.ensures
    ∙ ap (λ (n : ℕ). tests (n + c.from-in-Of-2.result)) c.from-in-Of.ensures
    ∙ ap (λ (n : ℕ). tests (c.side_of-range.result.0 + n)) c.from-in-Of-2.ensures)

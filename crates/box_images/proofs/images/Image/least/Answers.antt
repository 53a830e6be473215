use Rattle.std.proofs.Common.{◌<◌, ◌^◌, ◌∙◌, ap, subst, sym}
use Rattle.vpc_base.specs.declared.headers.Header.{Header}
use Rattle.box_images.specs.Fields.{value_of}
use Rattle.box_images.specs.Images.{field_of}
use Rattle.box_images.specs.declared.fields.Field.{Field}
use Rattle.box_images.proofs.LawLemmas.{least_fits}
use Rattle.box_images.proofs.images.Image.least.Goals as goal

pub value-requires : goal.value-requires
value-requires c =
    subst (λ (f : Field). value_of f c.low.result < 2 ^ 32) (sym c.field.ensures)
    (subst (λ (h : Header). value_of (field_of c.args.self.now c.args.side) h < 2 ^ 32) (sym c.low.ensures.value) (least_fits c.args.self.now c.args.side c.requires))

pub returns : goal.returns
returns c =
    c.value.ensures
    ∙ ap (λ (f : Field). value_of f c.low.result) c.field.ensures
    ∙ ap (value_of (field_of c.args.self.now c.args.side)) c.low.ensures.value

use Rattle.std.proofs.Common.{◌<◌, ◌^◌, ◌∙◌, ap, subst, sym}
use Rattle.box_images.specs.Fields.{greatest_of}
use Rattle.box_images.specs.declared.fields.Field.{Field}
use Rattle.box_images.proofs.LawLemmas.{greatest_fits}
use Rattle.box_images.proofs.images.Image.greatest.Goals as goal

pub greatest-requires : goal.greatest-requires
greatest-requires c =
    subst (λ (f : Field). greatest_of f c.args.self.now.part < 2 ^ 32) (sym c.field.ensures) (greatest_fits c.args.self.now c.args.side c.requires)

pub returns : goal.returns
returns c = c.greatest.ensures ∙ ap (λ (f : Field). greatest_of f c.args.self.now.part) c.field.ensures

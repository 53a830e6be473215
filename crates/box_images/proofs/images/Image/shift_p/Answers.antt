use Rattle.std.proofs.Common.{◌∙◌, inl, inr}
use Rattle.box_images.proofs.TranslateLemmas.{ends_past_zero, low_port_at, open_shifted, valid_shifted}
use Rattle.box_images.proofs.images.Image.shift_p.Goals as goal
use Rattle.box_images.proofs.images.Image.shift_p.Goals.{then-well_known, else-well_known}

pub raised-p-requires : goal.raised-p-requires
raised-p-requires c = low_port_at c.args.self.now c.narrow_field-well_known.result c.narrow_field-well_known.ensures c.if-well_known.true

pub returns-clause-ends : goal.returns-clause-ends
returns-clause-ends c = ends_past_zero c.args.self.now.p 1023 c.narrow_field-well_known.result.body c.args.self.now.part c.narrow_field-well_known.ensures.ends

pub returns-clause-valid : goal.returns-clause-valid
returns-clause-valid c =
    valid_shifted c.args.self.now c.narrow_field-well_known.result c.if-well_known.p c.requires c.narrow_field-well_known.ensures
    (elim c.if-well_known.branch [
      | then-well_known w ↦ inl (w.if-well_known.true, w.p-is ∙ w.raised-p.ensures)
      | else-well_known w ↦ inr w.p-is
    ])

pub returns-clause-kind : goal.returns-clause-kind
returns-clause-kind c addresses o =
    open_shifted addresses c.args.self.now c.narrow_field-well_known.result c.if-well_known.p c.narrow_field-well_known.ensures
    (elim c.if-well_known.branch [
      | then-well_known w ↦ inl (w.if-well_known.true, w.p-is ∙ w.raised-p.ensures)
      | else-well_known w ↦ inr w.p-is
    ])
    o

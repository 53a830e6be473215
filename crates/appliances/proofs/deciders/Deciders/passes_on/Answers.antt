use Rattle.std.proofs.Common.{◌∙◌, List, ap, get_or, length, refl, subst, sym}
use Rattle.std.proofs.lemmas.Option.{slice_get_read}
use Rattle.box_images.specs.Answers.{Answers}
use Rattle.box_images.specs.Images.{header_at}
use Rattle.header_boxes.specs.declared.boxes.Box5.{Box5}
use Rattle.cut_laws.specs.Dividing.{Divide}
use Rattle.vpc_model.specs.declared.numbers.EniNo.{EniNo}
use Rattle.vpc_model.specs.Appliances.{passes}
use Rattle.vpc_model.specs.Cuts.{all_cuts, cuts_of_box}
use Rattle.appliances.specs.Passing.{boxes_of}
use Rattle.appliances.proofs.deciders.Deciders.passes_on.Goals as goal

pub returns : goal.returns
returns g c =
    let i = c.args.i.now in
    let appliances = c.args.self.now.appliances in
    let row = c.index-as_slice-k.result in
    let at = slice_get_read appliances (length appliances) c.args.k row refl c.requires.number (c.index-as_slice-k.is ∙ ap (λ l. get_or l c.args.k row) c.as_slice.ensures) in
    subst (λ (boxes : List Box5). Answers (Divide (all_cuts cuts_of_box boxes)) (λ h. passes boxes (header_at i h)) i.part c.passes_on.result)
    (c.as_slice-boxes.ensures ∙ (sym (ap (λ (a : EniNo × List Box5). a.1) c.index-as_slice-k.is) ∙ sym (ap boxes_of at))) c.passes_on.ensures

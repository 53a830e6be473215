use Rattle.std.proofs.Common.{◌∙◌, [], List, length, subst, sym}
use Rattle.std.proofs.lemmas.Bool.{ltb-true}
use Rattle.std.proofs.lemmas.List.{get_or_default}
use Rattle.address_sets.specs.Runs.{is_in}
use Rattle.address_sets.specs.declared.sets.Run.{Run}
use Rattle.box_images.specs.Answers.{Answers}
use Rattle.box_images.specs.Fields.{number_of}
use Rattle.box_images.specs.Images.{header_at}
use Rattle.cut_laws.specs.Dividing.{DivideTurns}
use Rattle.edge_gateways.proofs.blocks.is_in_on.Goals as goal

pub returns-in-Some : goal.returns-in-Some
returns-in-Some c =
    let sets = c.args.sets.now in
    let set = c.in-Some.set.now in
    let within = ltb-true c.args.number (length sets) (sym c.in-Some.ensures.lookup.0) in
    subst (λ (set : List Run). Answers (DivideTurns (λ a. is_in a set)) (λ h. is_in (number_of (header_at c.args.i.now h) c.args.side) set) c.args.i.now.part c.set_on.result)
    (c.in-Some.ensures.lookup.1 ∙ get_or_default sets c.args.number set [] within)
    c.set_on.ensures

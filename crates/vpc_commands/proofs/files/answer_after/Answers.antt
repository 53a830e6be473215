use Rattle.vpc_base.proofs.Results.{if_ok}
use Rattle.vpc_commands.specs.Files as files
use Rattle.vpc_commands.specs.declared.files.Which.TheVariants as numbers
use Rattle.vpc_commands.proofs.Taken.{network_taken, none_taken}
use Rattle.vpc_commands.proofs.files.answer_after.Goals as goal

pub returns-in-Ok-Network : goal.returns-in-Ok-Network
returns-in-Ok-Network g c =
    let taken = rw c.word.ensures at c.in-Ok-Network.ensures.described in
    let network = network_taken numbers.After (g.S.Shelf.told c.args.shelf.now) _ _ c.in-Ok-Network.field-0 c.in-Ok-Network.after c.in-Ok-Network.field-0-is taken in
    if_ok _ _ c.answer.result (λ a so. files.answered c.in-Ok-Network.after network so) c.answer.ensures

pub returns-in-Ok-Refused : goal.returns-in-Ok-Refused
returns-in-Ok-Refused g c =
    let taken = rw c.word.ensures at c.in-Ok-Refused.ensures.described in
    files.no_network (none_taken numbers.After (g.S.Shelf.told c.args.shelf.now) _ _ c.in-Ok-Refused.field-0 c.in-Ok-Refused.answer c.in-Ok-Refused.field-0-is taken)

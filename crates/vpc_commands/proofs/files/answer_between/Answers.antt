use Rattle.vpc_base.proofs.Results.{if_ok}
use Rattle.vpc_commands.specs.Files as files
use Rattle.vpc_commands.specs.declared.files.Which.TheVariants as numbers
use Rattle.vpc_commands.proofs.Taken.{network_taken, none_taken, rose_before, text_before}
use Rattle.vpc_commands.proofs.files.answer_between.Goals as goal

pub returns-in-Ok-Network : goal.returns-in-Ok-Network
returns-in-Ok-Network g c =
    let taken = rw c.word.ensures at c.in-Ok-Network.ensures.described in
    let network = network_taken numbers.After (g.S.Shelf.told c.args.shelf.now) _ _ c.in-Ok-Network.field-0 c.in-Ok-Network.after c.in-Ok-Network.field-0-is taken in
    if_ok _ _ c.answer_third.result
    (λ a so. files.answered c.in-Ok-Network.after network
    (text_before _ _ _ _ _ _ _ _ a.status a.text.items c.in-Ok-Network.ensures.told_stays
    (λ n. rose_before _ _ _ (c.in-Ok-Network.ensures.faults_never_fall n)) so))
    (rw c.word-in-Ok-Network.ensures at c.answer_third.ensures)

pub returns-in-Ok-Refused : goal.returns-in-Ok-Refused
returns-in-Ok-Refused g c =
    let taken = rw c.word.ensures at c.in-Ok-Refused.ensures.described in
    files.no_network (none_taken numbers.After (g.S.Shelf.told c.args.shelf.now) _ _ c.in-Ok-Refused.field-0 c.in-Ok-Refused.answer c.in-Ok-Refused.field-0-is taken)

use Rattle.vpc_base.proofs.Results.{if_ok}
use Rattle.vpc_commands.specs.Files as files
use Rattle.vpc_commands.specs.declared.files.Which.TheVariants as numbers
use Rattle.vpc_commands.proofs.Taken.{network_taken, none_taken, rose_before, text_before}
use Rattle.vpc_commands.proofs.files.answer_files.Goals as goal

pub returns-in-Network : goal.returns-in-Network
returns-in-Network g c =
    let taken = rw c.word.ensures at c.in_ok-first.ensures.described in
    let network = network_taken numbers.First (g.S.Shelf.told c.args.shelf.now) _ _ c.in_ok-first.first c.in-Network.network c.in-Network.is taken in
    if_ok _ _ c.answer_second.result
    (λ a so. files.answered c.in-Network.network network
    (text_before _ _ _ _ _ _ _ _ a.status a.text.items c.in_ok-first.ensures.told_stays
    (λ n. rose_before _ _ _ (c.in_ok-first.ensures.faults_never_fall n)) so))
    (rw c.word-in-Network.ensures at c.answer_second.ensures)

pub returns-in-Refused : goal.returns-in-Refused
returns-in-Refused g c =
    let taken = rw c.word.ensures at c.in_ok-first.ensures.described in
    files.no_network (none_taken numbers.First (g.S.Shelf.told c.args.shelf.now) _ _ c.in_ok-first.first c.in-Refused.answer c.in-Refused.is taken)

use Rattle.vpc_base.proofs.Results.{if_ok}
use Rattle.vpc_commands.specs.Files as files
use Rattle.vpc_commands.specs.declared.files.Which.TheVariants as numbers
use Rattle.vpc_commands.proofs.Taken.{after_before, answered_as, network_taken, none_taken, rose_before, text_before}
use Rattle.vpc_commands.proofs.files.answer_change.Goals as goal

pub returns-in-Network : goal.returns-in-Network
returns-in-Network g c =
    let taken = rw c.word.ensures at c.in_ok-earlier.ensures.described in
    let network = network_taken numbers.First (g.S.Shelf.told c.args.shelf.now) _ _ c.in_ok-earlier.earlier c.in-Network.before c.in-Network.is taken in
    if_ok _ _ c.answer_between.result
    (λ a so. files.answered c.in-Network.before network
    (answered_as _ _ _ _ _ a.status a.text.items
    (λ d. text_before _ _ _ _ _ _ _ _ a.status a.text.items c.in_ok-earlier.ensures.told_stays
    (λ n. rose_before _ _ _ (c.in_ok-earlier.ensures.faults_never_fall n)))
    (after_before _ _ _ _ _ _ a.status a.text.items c.in_ok-earlier.ensures.told_stays
    (λ n. rose_before _ _ _ (c.in_ok-earlier.ensures.faults_never_fall n)) so)))
    c.answer_between.ensures

pub returns-in-Refused : goal.returns-in-Refused
returns-in-Refused g c =
    let taken = rw c.word.ensures at c.in_ok-earlier.ensures.described in
    files.no_network (none_taken numbers.First (g.S.Shelf.told c.args.shelf.now) _ _ c.in_ok-earlier.earlier c.in-Refused.answer c.in-Refused.is taken)

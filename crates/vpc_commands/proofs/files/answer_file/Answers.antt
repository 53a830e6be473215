use Rattle.vpc_base.proofs.Results.{if_ok}
use Rattle.vpc_commands.specs.Files as files
use Rattle.vpc_commands.specs.declared.files.Which.TheVariants as numbers
use Rattle.vpc_commands.proofs.Taken.{network_taken, none_taken}
use Rattle.vpc_commands.proofs.files.answer_file.Goals as goal

pub returns-in-Network : goal.returns-in-Network
returns-in-Network g c =
    let taken = rw c.word.ensures at c.in_ok-network.ensures.described in
    let network = network_taken numbers.First (g.S.Shelf.told c.args.shelf.now) _ _ c.in_ok-network.field-0 c.in-Network.network c.in-Network.is taken in
    if_ok _ _ c.answer.result (λ a so. files.answered c.in-Network.network network so) c.answer.ensures

pub returns-in-Refused : goal.returns-in-Refused
returns-in-Refused g c =
    let taken = rw c.word.ensures at c.in_ok-network.ensures.described in
    files.no_network (none_taken numbers.First (g.S.Shelf.told c.args.shelf.now) _ _ c.in_ok-network.field-0 c.in-Refused.answer c.in-Refused.is taken)

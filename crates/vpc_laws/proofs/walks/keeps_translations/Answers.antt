use Rattle.vpc_laws.proofs.Walking.{walk_keeps_book}
use Rattle.vpc_laws.proofs.walks.keeps_translations.Goals as goal

pub returns : goal.returns
returns c = walk_keeps_book

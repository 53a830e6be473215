use Rattle.vpc_laws.proofs.Books.{step_keeps_book}
use Rattle.vpc_laws.proofs.nats.keeps_translations_in_order.Goals as goal

pub returns : goal.returns
returns c = step_keeps_book

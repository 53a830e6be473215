use Rattle.vpc_laws.proofs.Books.{IsBook-nil}
use Rattle.vpc_laws.proofs.nats.begins_in_order.Goals as goal

pub returns : goal.returns
returns c = IsBook-nil

use Rattle.vpc_laws.proofs.Ports.{free_port_is_free}
use Rattle.vpc_laws.proofs.nats.finds_a_free_port.Goals as goal

pub returns : goal.returns
returns c = free_port_is_free

-- Headers at NAT gateways, by which translations are looked up.
use Rattle.std.specs.Cmp.{IsTotalOrder}
use Rattle.std.specs.Ordering.{nat_cmp, ordering_then}
use Rattle.std.specs.Prelude.{◌==◌, ◌&&◌, Bool, ℕ}
use Rattle.std.specs.declared.cmp.Ordering.{Ordering}
use Rattle.std.proofs.lemmas.Cmp.{nat_cmp_total, on_total, then_total}
use Rattle.conn_tracking.specs.Order.{order_by_ports, order_by_ports_total}
use Rattle.nat_gateway.specs.declared.sent.Sent.{Sent}
use Rattle.vpc_base.specs.declared.headers.Header.{Header}
use Rattle.vpc_model.specs.declared.numbers.NatNo.{NatNo}
use Rattle.vpc_model.specs.Connections.{same_header}

-- gateway and header are the same
abbrev pub same_sent : Sent → Sent → Bool
same_sent a b = (a.nat.0 == b.nat.0) && same_header a.header b.header

-- gateway, protocol, destination and q alone
abbrev pub flow_of : NatNo → Header → Sent
flow_of n h = record { nat = n; header = record h { src = 0; p = 0 } }

-- gateway and header with another port
abbrev pub with_port : Sent → ℕ → Sent
with_port s port = record { nat = s.nat; header = record s.header { p = port } }

-- by header, then gateway
abbrev pub order_of_sent : Sent → Sent → Ordering
order_of_sent a b = ordering_then (order_by_ports a.header b.header) (nat_cmp a.nat.0 b.nat.0)

-- it is total
pub order_of_sent_total : IsTotalOrder order_of_sent
order_of_sent_total = then_total (on_total (λ (s : Sent). s.header) order_by_ports_total) (on_total (λ (s : Sent). s.nat.0) nat_cmp_total)

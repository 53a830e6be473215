-- The order of connections, by which they are looked up.
use Rattle.std.specs.Cmp.{IsTotalOrder, bool_cmp_total}
use Rattle.std.specs.Ordering.{bool_cmp, nat_cmp, ordering_then}
use Rattle.std.specs.Prelude.{Bool, false, true}
use Rattle.std.specs.declared.cmp.Ordering.{Ordering}
use Rattle.std.proofs.lemmas.Cmp.{nat_cmp_total, on_total, then_total}
use Rattle.vpc_base.specs.declared.headers.Dir.TheVariants.{Inward, Outward}
use Rattle.vpc_model.specs.Connections.{Connection}
use Rattle.vpc_model.specs.Types.{Dir, Header}

-- headers by their ports first, p and then q
abbrev pub order_of_ports : Header → Header → Ordering
order_of_ports a b = ordering_then (nat_cmp a.p b.p) (nat_cmp a.q b.q)

-- then by their addresses, the destination first, and last by protocol
abbrev pub order_by_ports : Header → Header → Ordering
order_by_ports a b =
    ordering_then (ordering_then (ordering_then (order_of_ports a b) (nat_cmp a.dst b.dst)) (nat_cmp a.src b.src)) (nat_cmp a.proto b.proto)

-- it is total
pub order_by_ports_total : IsTotalOrder order_by_ports
order_by_ports_total =
    then_total
    (then_total
    (then_total
    (then_total (on_total (λ (h : Header). h.p) nat_cmp_total) (on_total (λ (h : Header). h.q) nat_cmp_total))
    (on_total (λ (h : Header). h.dst) nat_cmp_total))
    (on_total (λ (h : Header). h.src) nat_cmp_total))
    (on_total (λ (h : Header). h.proto) nat_cmp_total)

-- the direction is outward
abbrev pub dir_is_outward : Dir → Bool
dir_is_outward Inward = false
dir_is_outward Outward = true

-- by header, then interface, then direction
abbrev pub order_of_connections : Connection → Connection → Ordering
order_of_connections a b =
    ordering_then (ordering_then (order_by_ports a.header b.header) (nat_cmp a.eni.0 b.eni.0))
    (bool_cmp (dir_is_outward a.dir) (dir_is_outward b.dir))

-- it is total
pub order_of_connections_total : IsTotalOrder order_of_connections
order_of_connections_total =
    then_total
    (then_total (on_total (λ (c : Connection). c.header) order_by_ports_total) (on_total (λ (c : Connection). c.eni.0) nat_cmp_total))
    (on_total (λ (c : Connection). dir_is_outward c.dir) bool_cmp_total)

-- Packet headers: their replies and their order.
use Rattle.std.specs.Prelude.{ℕ, ◌≡◌, ◌<◌, ◌==◌, ◌^◌, Option, Some, None, if◌then◌else◌}
use Rattle.std.specs.Ordering.{ordering_then, nat_cmp}
use Rattle.std.specs.declared.cmp.Ordering.{Ordering}
use Rattle.std.specs.declared.cmp.Ordering.TheVariants.{Less}
use Rattle.vpc_base.specs.declared.headers.Header.{Header}

-- each field fits its size on the wire (RFC 791)
pub record IsHeader (h : Header) : Type 0 where
  pub proto : h.proto < 2 ^ 8
  pub src : h.src < 2 ^ 32
  pub dst : h.dst < 2 ^ 32
  pub p : h.p < 2 ^ 16
  pub q : h.q < 2 ^ 16

-- the answer to a header that isn't ICMP: addresses and ports exchanged (RFC 9293)
abbrev pub exchanged : Header → Header
exchanged h = record { proto = h.proto; src = h.dst; dst = h.src; p = h.q; q = h.p }

-- the ICMP message of type and code q that answers an echo message: addresses exchanged, the same identifier (RFC 792)
abbrev pub echo : Header → ℕ → Header
echo h q = record { proto = h.proto; src = h.dst; dst = h.src; p = h.p; q = q }

-- the answer to an ICMP echo request has the type of an echo reply (RFC 792, types 8 and 0)
abbrev pub echo_reply : Header → Header
echo_reply h = echo h 0

-- the header's reply; an ICMP message other than an echo request has none (RFC 792)
abbrev pub reply_of : Header → Option Header
reply_of h = if h.proto == 1 then (if h.q == 2048 then Some (echo_reply h) else None) else Some (exchanged h)

-- the echo request that an ICMP echo reply answers (RFC 792, types 8 and 0)
abbrev pub echo_request : Header → Header
echo_request h = echo h 2048

-- the header whose reply this one is; an ICMP message other than an echo reply is no reply (RFC 792)
abbrev pub opening_of : Header → Option Header
opening_of h = if h.proto == 1 then (if h.q == 0 then Some (echo_request h) else None) else Some (exchanged h)

-- the order of headers: by protocol, then source, destination, p and q (profile)
abbrev pub order_of : Header → Header → Ordering
order_of a b =
    ordering_then (nat_cmp a.proto b.proto)
    (ordering_then (nat_cmp a.src b.src)
    (ordering_then (nat_cmp a.dst b.dst)
    (ordering_then (nat_cmp a.p b.p) (nat_cmp a.q b.q))))

-- the first header comes before the second (profile)
abbrev pub IsBefore : Header → Header → Type 0
IsBefore a b = order_of a b ≡ Less

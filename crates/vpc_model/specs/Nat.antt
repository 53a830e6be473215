-- NAT gateways (VPC User Guide, "NAT gateways"; RFC 3022). Which port is given is this project's profile.
use Rattle.std.specs.List.{list_any}
use Rattle.std.specs.Prelude.{◌==◌, ◌&&◌, ◌||◌, ◌+◌, ◌-◌, if◌then◌else◌, Bool, List, None, Option, Some, count_by, find, nat_le, nat_lt, option_and_then, suc, unwrap_or, zero, ℕ}
use Rattle.vpc_model.specs.Types.{Header, NatNo}
use Rattle.vpc_base.specs.Header.{reply_of}
use Rattle.vpc_model.specs.Choice.{or_else}
use Rattle.vpc_model.specs.Connections.{is_header, same_header}

-- an open that a gateway sent out: its header before and after the translation (profile)
pub record Translation : Type 0 where
  pub nat : NatNo
  pub before : Header
  pub after : Header

-- TCP, UDP and ICMP are translated (VPC User Guide, "NAT gateways")
abbrev pub is_translatable : ℕ → Bool
is_translatable proto = (proto == 1) || ((proto == 6) || (proto == 17))

-- the translation is of the gateway, protocol, destination and q (VPC User Guide, "NAT gateways")
abbrev pub shares : NatNo → Header → Translation → Bool
shares n h t = (t.nat.0 == n.0) && ((t.after.proto == h.proto) && ((t.after.dst == h.dst) && (t.after.q == h.q)))

-- a port is taken where such a translation has it (profile)
abbrev pub is_taken : List Translation → NatNo → Header → ℕ → Bool
is_taken ts n h port = list_any (λ t. shares n h t && (t.after.p == port)) ts

-- 55,000 such translations are all that a gateway keeps (VPC User Guide, "NAT gateways")
abbrev pub is_full : List Translation → NatNo → Header → Bool
is_full ts n h = nat_le 55000 (count_by (shares n h) ts)

-- the port that is tried first: p, or p plus 1,024 where p is a well-known port (profile)
abbrev pub first_port : ℕ → ℕ
first_port p = if nat_lt p 1024 then p + 1024 else p

-- the first of n ports, from this one on, that isn't taken
abbrev pub first_free : (ℕ → Bool) → ℕ → ℕ → Option ℕ
first_free taken zero port = None
first_free taken (suc n) port = if taken port then first_free taken n (port + 1) else Some port

-- the first port that isn't taken, from this one to 65,535 and then from 1,024 on (profile)
abbrev pub free_port : (ℕ → Bool) → ℕ → ℕ
free_port taken port = unwrap_or (or_else (first_free taken (65536 - port) port) (first_free taken (port - 1024) 1024)) port

-- the translation of a header that has none: to the gateway's own address, and to a port that the profile chooses (VPC User Guide, "NAT gateways")
abbrev pub new_translation : List Translation → NatNo → ℕ → Header → Translation
new_translation ts n own h = record { nat = n; before = h; after = record h { src = own; p = free_port (is_taken ts n h) (first_port h.p) } }

-- the translation that a gateway has of a header (profile)
abbrev pub translation_of : List Translation → NatNo → Header → Option Translation
translation_of ts n h = find (λ t. (t.nat.0 == n.0) && same_header t.before h) ts

-- what an answer becomes: the reply of the header before the first translation that it answers (VPC User Guide, "NAT gateways")
abbrev pub inward : List Translation → NatNo → Header → Option Header
inward ts n h = option_and_then (λ t. reply_of t.before) (find (λ t. (t.nat.0 == n.0) && is_header h (reply_of t.after)) ts)

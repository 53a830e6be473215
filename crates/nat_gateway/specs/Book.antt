-- What NAT gateways remember, and what becomes of the opens that they are given.
use Rattle.std.specs.Prelude.{◌++◌, ◌∷◌, [], if◌then◌else◌, Err, List, None, Ok, Option, Result, Some, ℕ}
use Rattle.nat_gateway.specs.declared.entry.NatStop.{NatStop}
use Rattle.nat_gateway.specs.declared.entry.NatStop.TheVariants as stops
use Rattle.vpc_base.specs.declared.headers.Header.{Header}
use Rattle.vpc_model.specs.declared.numbers.NatNo.{NatNo}
use Rattle.vpc_model.specs.Nat.{Translation, is_full, is_translatable, new_translation, translation_of}

-- the translations in the order in which they were added, and how many more fit without memory
pub record Book : Type 0 where
  pub entries : List Translation
  pub spare : ℕ

-- what an open becomes, or why it doesn't go out; and the translations after it
pub record Outward : Type 0 where
  pub answer : Result Header NatStop
  pub entries : List Translation

-- by a new translation, which is remembered (profile)
abbrev pub sent_anew : List Translation → Translation → Outward
sent_anew ts t = record { answer = Ok t.after; entries = ts ++ t ∷ [] }

-- by the translation that there is, or a new one while the gateway isn't full (VPC User Guide, "NAT gateways")
abbrev pub sent_by : List Translation → NatNo → ℕ → Header → Option Translation → Outward
sent_by ts n own h (Some t) = record { answer = Ok t.after; entries = ts }
sent_by ts n own h None = if is_full ts n h then record { answer = Err stops.Full; entries = ts } else sent_anew ts (new_translation ts n own h)

-- an open at a gateway with this address of its own: TCP, UDP and ICMP alone go out (VPC User Guide, "NAT gateways")
abbrev pub outward_of : List Translation → NatNo → ℕ → Header → Outward
outward_of ts n own h = if is_translatable h.proto then sent_by ts n own h (translation_of ts n h) else record { answer = Err stops.Protocol; entries = ts }

-- Tables of headers at gateways, and what they have of a list of translations.
use Rattle.std.specs.List.{count_by, find}
use Rattle.std.specs.Map.{lookup}
use Rattle.std.specs.Prelude.{◌≡◌, ◌≤◌, ◌<◌, ◌==◌, ◌&&◌, ◌||◌, Bool, List, Option, Some, is_some, length, min, option_map, take, true, unwrap_or, ℕ}
use Rattle.nat_gateway.specs.declared.sent.Sent.{Sent}
use Rattle.nat_gateway.specs.Sent.{flow_of, same_sent, with_port}
use Rattle.vpc_base.specs.declared.headers.Header.{Header}
use Rattle.vpc_model.specs.declared.numbers.NatNo.{NatNo}
use Rattle.vpc_model.specs.Connections.{same_header}
use Rattle.vpc_model.specs.Nat.{Translation, is_taken, shares}

-- what a table has of a header
abbrev pub value_at : {V : Type 0} → List (Sent × V) → Sent → Option V
value_at table key = lookup (same_sent key) table

-- the table of taken ports has this one
abbrev pub is_used : List (Sent × ℕ) → Sent → ℕ → Bool
is_used table flow port = is_some (value_at table (with_port flow port))

-- beside a taken port stands a later one, up to which all are taken
pub record IsRun (table : List (Sent × ℕ)) (key : Sent) (end : ℕ) : Type 0 where
  pub later : key.header.p < end
  pub most : end ≤ 65536
  pub used : (port : ℕ) → key.header.p ≤ port → port < end → is_used table key port ≡ true

abbrev pub AreRuns : List (Sent × ℕ) → Type 0
AreRuns table = (key : Sent) (end : ℕ) → value_at table key ≡ Some end → IsRun table key end

-- all ports from this one up to another are taken
abbrev pub AllUsed : List (Sent × ℕ) → Sent → ℕ → ℕ → Type 0
AllUsed table flow from end = (port : ℕ) → from ≤ port → port < end → is_used table flow port ≡ true

-- two tables have the same ports
abbrev pub SameUsed : List (Sent × ℕ) → List (Sent × ℕ) → Type 0
SameUsed a b = (flow : Sent) (port : ℕ) → is_used a flow port ≡ is_used b flow port

-- ---- tables of a list

-- a table has a value of the first translation of each key
pub record AreValues {V : Type 0} (key_of : Translation → Sent) (value_of : Translation → V) (table : List (Sent × V)) (ts : List Translation) : Type 0 where
  pub at : (key : Sent) → value_at table key ≡ option_map value_of (find (λ t. same_sent (key_of t) key) ts)

abbrev pub key_before : Translation → Sent
key_before t = record { nat = t.nat; header = t.before }

abbrev pub key_after : Translation → Sent
key_after t = record { nat = t.nat; header = t.after }

-- each open with what it became
abbrev pub AreAfters : List (Sent × Header) → List Translation → Type 0
AreAfters table ts = AreValues key_before (λ t. t.after) table ts

-- each translated open with what it was
abbrev pub AreBefores : List (Sent × Header) → List Translation → Type 0
AreBefores table ts = AreValues key_after (λ t. t.before) table ts

-- the translation that a gateway made into a header
abbrev pub made_into : List Translation → NatNo → Header → Option Translation
made_into ts n h = find (λ t. (t.nat.0 == n.0) && same_header t.after h) ts

-- the taken ports
abbrev pub ArePorts : List (Sent × ℕ) → List Translation → Type 0
ArePorts table ts = (n : NatNo) (h : Header) (port : ℕ) → is_used table (flow_of n h) port ≡ is_taken ts n h port

-- a port is taken by the table, or by one of the later translations
abbrev pub is_taken_beside : List (Sent × ℕ) → List Translation → NatNo → Header → ℕ → Bool
is_taken_beside table later n h port = is_used table (flow_of n h) port || is_taken later n h port

-- how many translations share a gateway, protocol, destination and q; 55,000 stands for more too
abbrev pub AreCounts : List (Sent × ℕ) → List Translation → Type 0
AreCounts table ts = (n : NatNo) (h : Header) → unwrap_or (value_at table (flow_of n h)) 0 ≡ min (count_by (shares n h) ts) 55000

-- a table is of the first entries of a list, this many
pub record IsFirst {T : Type 0} (Are : T → List Translation → Type 0) (table : T) (count : ℕ) (ts : List Translation) : Type 0 where
  pub within : count ≤ length ts
  pub first : Are table (take count ts)

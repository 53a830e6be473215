-- Keys of the numbers that ids have.
use Rattle.std.specs.Prelude.{◌∷◌, [], if◌then◌else◌, List, None, Option, Some, ℕ}
use Rattle.vpc_model.specs.declared.rows.Attachment.{Attachment}
use Rattle.vpc_model.specs.Lookup.{is_listed}
use Rattle.number_tables.specs.Keys.{key_of}
use Rattle.security_groups.specs.Ids.{place_of}

-- the key of two numbers, where there are both
abbrev pub key_if : Option ℕ → Option ℕ → List ℕ
key_if None low = []
key_if (Some high) None = []
key_if (Some high) (Some low) = key_of high low ∷ []

-- two numbers, where there are both
abbrev pub both_if : Option ℕ → Option ℕ → Option (ℕ × ℕ)
both_if None other = None
both_if (Some one) None = None
both_if (Some one) (Some other) = Some (one, other)

-- the numbers of the VPCs of a peering, where both have one
abbrev pub numbers_if : List (List ℕ) → Option (List ℕ × List ℕ) → Option (ℕ × ℕ)
numbers_if ids None = None
numbers_if ids (Some pair) = both_if (place_of ids pair.0) (place_of ids pair.1)

-- the keys of two numbers in both orders
abbrev pub both_keys : Option (ℕ × ℕ) → List ℕ
both_keys None = []
both_keys (Some p) = key_of p.0 p.1 ∷ key_of p.1 p.0 ∷ []

-- the key of an attachment's VPC and transit gateway, where the attachment is listed
abbrev pub attached_keys : List (List ℕ) → List (List ℕ) → List (List ℕ) → Attachment → List ℕ
attached_keys ids attachments gateways a = if is_listed a.id attachments then key_if (place_of ids a.vpc) (place_of gateways a.gateway) else []

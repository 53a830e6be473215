-- How far addresses are delegated alike.
use Rattle.std.specs.List.{flat_map}
use Rattle.std.specs.Prelude.{◌≡◌, ◌≤◌, ◌<◌, ◌+◌, Contains, Option, ℕ}
use Rattle.vpc_laws.specs.Hosts.{delegated_host}
use Rattle.vpc_laws.specs.Types.{Description, EniNo, VpcNo}
use Rattle.vpc_model.specs.Cuts.{block_cuts}

-- from an address up to the last one, all are delegated to one interface of the VPC, or none is to any; after the last one a delegated block begins or has ended
pub record IsDelegatedUpTo (d : Description) (v : VpcNo) (a : ℕ) (x : ℕ × Option EniNo) : Type 0 where
  pub from : a ≤ x.0
  pub alike : (b : ℕ) → a ≤ b → b ≤ x.0 → delegated_host d v b ≡ x.1
  pub ends : x.0 < 4294967295 → Contains (flat_map (λ e. flat_map block_cuts e.prefixes) d.interfaces) (x.0 + 1)

-- Networks that aren't described, by their ids.
use Rattle.std.specs.Prelude.{List, ℕ}
use Rattle.vpc_laws.specs.Types.{Description, FarNo}
use Rattle.vpc_model.specs.Lookup.{far_at}

-- the id of what leads to a network
abbrev pub far_id : Description → FarNo → List ℕ
far_id d k = let far = far_at d k in far.id

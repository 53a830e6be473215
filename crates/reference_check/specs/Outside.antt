-- Networks that aren't described.
use Rattle.std.specs.Prelude.{◌&&◌, Bool, List, Option, ℕ}
use Rattle.vpc_model.specs.Far.{is_half, vpc_of_pair}
use Rattle.vpc_model.specs.Lookup.{has_peering, peer_no, peering_at}
use Rattle.vpc_model.specs.declared.numbers.VpcNo.{VpcNo}
use Rattle.vpc_model.specs.declared.rows.Description.{Description}

-- of the VPCs of the peering with the id the first that is described
abbrev pub vpc_of_peering : Description → List ℕ → Option VpcNo
vpc_of_peering d id = let x = peering_at d (peer_no d id) in vpc_of_pair d x.pair

-- the peering with the id is described, and exactly one of its VPCs
abbrev pub is_half_known : Description → List ℕ → Bool
is_half_known d id = let x = peering_at d (peer_no d id) in has_peering d id && is_half d x.pair

-- Which cuts divide enough for what edges ask.
use Rattle.std.specs.Prelude.{List, None, Option, slice_index_or}
use Rattle.address_sets.specs.declared.sets.Run.{Run}
use Rattle.vpc_base.specs.Cuts.{CutLists}
use Rattle.vpc_model.specs.declared.numbers.PeerNo.{PeerNo}
use Rattle.vpc_model.specs.declared.numbers.VpcNo.{VpcNo}
use Rattle.cut_laws.specs.Dividing.{DivideTurns}
use Rattle.edge_gateways.specs.declared.sides.Sides.{Sides}
use Rattle.edge_gateways.specs.Sides.{has_address, other_of}

-- they divide where the addresses of the sender's blocks turn, and those of the other side's
pub record DivideSides (blocks : List (List Run)) (sides : List (Option Sides)) (x : PeerNo) (v : VpcNo) (cuts : CutLists) : Type 0 where
  pub sender : DivideTurns (has_address blocks v) cuts
  pub receiver : DivideTurns (has_address blocks (other_of v (slice_index_or sides x.0 None))) cuts

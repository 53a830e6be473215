use Rattle.std.proofs.Common.{take}
use Rattle.std.specs.List.{AllZip}
use Rattle.edge_gateways.specs.Sides.{HasBlocksOf}
use Rattle.edge_gateways.proofs.blocks.blocks_of.Given as goal

abbrev pub invariant-loop-vpc : goal.invariant-loop-vpc
invariant-loop-vpc l = AllZip HasBlocksOf (take l.vpc-index l.vpcs) l.blocks.items

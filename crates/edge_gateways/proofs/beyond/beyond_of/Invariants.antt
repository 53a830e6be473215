use Rattle.std.proofs.Common.{take}
use Rattle.std.specs.List.{AllZip}
use Rattle.edge_gateways.specs.FarBlocks.{HasBlocksBeyond}
use Rattle.edge_gateways.proofs.beyond.beyond_of.Given as goal

abbrev pub invariant-loop-far : goal.invariant-loop-far
invariant-loop-far l = AllZip (HasBlocksBeyond l.n) (take l.far-index l.fars) l.sets.items

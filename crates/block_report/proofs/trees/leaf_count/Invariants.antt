use Rattle.std.proofs.Common.{◌≡◌, ◌+◌, ◌≤◌, drop}
use Rattle.ordered_cover.specs.Trees.{leaf_count}
use Rattle.block_report.proofs.trees.leaf_count.Given as goal

abbrev pub invariant-loop-node : goal.invariant-loop-node
invariant-loop-node g l = record {
  rest : l.count + leaf_count (drop l.node-index l.nodes) ≡ leaf_count l.nodes;
  few : l.count ≤ l.node-index;
}

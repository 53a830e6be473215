use Rattle.std.proofs.Common.{◌≡◌, ◌++◌, All, drop, map, take}
use Rattle.block_report.specs.Trees.{NodeHasIds, node_lines, told_node}
use Rattle.block_report.proofs.trees.put_nodes.Given as goal

abbrev pub invariant-loop-node : goal.invariant-loop-node
invariant-loop-node l = record {
  rest : l.out.items ++ node_lines (map (told_node l.n) (drop l.node-index l.nodes)) ≡ l.fn.out.items ++ node_lines (map (told_node l.n) l.nodes);
  ids : All (λ node. NodeHasIds (told_node l.n node)) (take l.node-index l.nodes);
}

use Rattle.std.proofs.Common.{◌≡◌, ◌+◌, ◌≤◌, ◌∷◌, [], drop, map}
use Rattle.report_reader.specs.Nodes.{leaf_limit, nodes_from}
use Rattle.report_reader.proofs.RowLemmas.{after_rows}
use Rattle.report_reader.proofs.node_lists.read_nodes.Given as goal

-- the nodes so far and what remains are what all lines say
abbrev pub invariant-loop-k : goal.invariant-loop-k
invariant-loop-k l = record {
  rest : after_rows l.nodes.items (nodes_from l.walk l.ended l.leaves (l.k + 4) (map (λ t. t.now) (drop l.k l.lines))) ≡ nodes_from (l.whole ∷ []) l.ended 0 4 (map (λ t. t.now) l.lines);
  few : l.leaves ≤ leaf_limit;
}

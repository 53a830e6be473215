use Rattle.std.proofs.Common.{◌+◌, ◌++◌, append_assoc, ap, drop, map, sym, ◌∙◌}
use Rattle.std.proofs.lemmas.List.{get_or_default}
use Rattle.std.proofs.lemmas.List.Elements.{All-map}
use Rattle.vpc_base.proofs.Steps.{All-one_more, All-whole, drop-next}
use Rattle.block_report.specs.Trees.{NodeHasIds, node_lines, told_node}
use Rattle.block_report.proofs.trees.put_nodes.Goals as goal

pub loop-node-preserved : goal.loop-node-preserved
loop-node-preserved c =
    let nodes = c.args.nodes.now in
    let k = c.loop-node.node-index in
    let told = told_node c.args.n.now in
    let within = c.loop-node-test.true in
    record {
      rest =
          ap (λ out. out ++ node_lines (map told (drop (k + 1) nodes))) c.in_ok-put_node.ensures.text
          ∙ append_assoc c.loop-node.out.items _ (node_lines (map told (drop (k + 1) nodes)))
          ∙ ap (λ left. c.loop-node.out.items ++ node_lines (map told left)) (sym (drop-next nodes k _ within (get_or_default nodes k _ _ within)))
          ∙ c.loop-node.invariant.rest;
      ids = All-one_more (λ node. NodeHasIds (told node)) nodes k _ within (get_or_default nodes k _ _ within) c.loop-node.invariant.ids c.in_ok-put_node.ensures.ids;
    }

pub returns-clause-ids : goal.returns-clause-ids
returns-clause-ids c =
    let told = told_node c.args.n.now in
    All-map NodeHasIds told c.args.nodes.now (All-whole (λ node. NodeHasIds (told node)) c.args.nodes.now c.loop-node.node-index c.loop-node-test.false c.loop-node.invariant.ids)

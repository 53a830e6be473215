use Rattle.std.proofs.Common.{ap, arith, drop, ◌+◌, ◌∙◌}
use Rattle.std.proofs.lemmas.List.{drop_all, get_or_default}
use Rattle.vpc_base.proofs.Steps.{drop-next}
use Rattle.ordered_cover.specs.Trees.{leaf_count}
use Rattle.block_report.proofs.Leaves.{leaf_count-cons, leaf_count-one}
use Rattle.block_report.proofs.trees.leaf_count.Goals as goal

pub loop-node-preserved : goal.loop-node-preserved
loop-node-preserved g c =
    let nodes = c.args.nodes.now in
    let k = c.loop-node.node-index in
    let node = c.node-item.result in
    let within = c.loop-node-test.true in
    let next = ap leaf_count (drop-next nodes k node within (c.node-item.is ∙ get_or_default nodes k _ node within)) in
    let split = leaf_count-cons node (drop (k + 1) nodes) in
    let rest = c.loop-node.invariant.rest in
    let few = c.loop-node.invariant.few in
    let one = c.one_if_leaf-count.ensures in
    let most = leaf_count-one node in
    record { rest = omega (arith, next, split, rest, one); few = omega (arith, few, one, most) }

pub returns : goal.returns
returns g c =
    let rest = c.loop-node.invariant.rest in
    let none = ap leaf_count (drop_all c.loop-node.node-index c.args.nodes.now c.loop-node-test.false) in
    omega (arith, rest, none)

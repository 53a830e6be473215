use Rattle.std.proofs.Common.{◌+◌, ◌≤◌, ◌∷◌, [], Bor, List, None, Some, arith, map, subst, sym, ℕ}
use Rattle.report_reader.specs.Nodes.{leaf_limit}
use Rattle.report_reader.proofs.NodeLemmas.{can_pass-read, leaves_after-read, nodes-end, nodes-next, nodes-told, nodes_from-tree, read-first}
use Rattle.report_reader.proofs.node_lists.read_nodes.Goals as goal

pub pass-requires : goal.pass-requires
pass-requires c =
    let l = c.loop-k in
    can_pass-read l.walk l.leaves (l.k + 4) c.is_last-last.result _ c.in-Some.node
    (read-first c.first.result l.walk l.leaves (l.k + 4) c.is_last-last.result _ c.in_ok-node.field-0 (Some c.in-Some.node) c.first.ensures c.in_ok-node.ensures c.in-Some.is)

pub returns-in-None-clause-value : goal.returns-in-None-clause-value
returns-in-None-clause-value c =
    let l = c.loop-k in
    nodes-end l.walk c.args.ended c.is_last-last.result l.leaves (l.k + 4) c.args.lines.now l.k _ l.nodes.items _ c.loop-k-test.true c.is_last-last.ensures l.invariant.rest c.of.result
    (read-first c.first.result l.walk l.leaves (l.k + 4) c.is_last-last.result _ c.in_ok-node.field-0 None c.first.ensures c.in_ok-node.ensures c.in-None.is)
    c.of.ensures

pub returns-in-None-clause-tree : goal.returns-in-None-clause-tree
returns-in-None-clause-tree c =
    let lines = map (λ (l : Bor (List ℕ)). l.now) c.args.lines.now in
    let tree = nodes_from-tree (c.args.whole.now ∷ []) c.args.ended 0 4 lines c.of.result (omega arith) (returns-in-None-clause-value c) in
    tree.stand

pub returns-in-None-clause-few : goal.returns-in-None-clause-few
returns-in-None-clause-few c =
    let lines = map (λ (l : Bor (List ℕ)). l.now) c.args.lines.now in
    let tree = nodes_from-tree (c.args.whole.now ∷ []) c.args.ended 0 4 lines c.of.result (omega arith) (returns-in-None-clause-value c) in
    let few = tree.few in
    omega (arith, few)

pub loop-k-preserved : goal.loop-k-preserved
loop-k-preserved c =
    let l = c.loop-k in
    let node = c.in-Some.node in
    let read = read-first c.first.result l.walk l.leaves (l.k + 4) c.is_last-last.result _ c.in_ok-node.field-0 (Some node) c.first.ensures c.in_ok-node.ensures c.in-Some.is in
    let next = nodes-next l.walk c.args.ended c.is_last-last.result l.leaves (l.k + 4) c.args.lines.now l.k _ l.nodes.items _ c.loop-k-test.true c.is_last-last.ensures l.invariant.rest c.push.new.self.items node read c.in_ok-push-in-Some.ensures.items in
    record {
      rest = nodes-told c.args.ended c.push.new.self.items _ c.pass.new.walk _ c.leaves_with-leaves.result _ (l.k + 1 + 4) (l.k + 4 + 1) _ c.in_ok-pass-in-Some.ensures c.leaves_with-leaves.ensures (omega arith) next;
      few = subst (λ (n : ℕ). n ≤ leaf_limit) (sym c.leaves_with-leaves.ensures) (leaves_after-read l.walk l.leaves (l.k + 4) c.is_last-last.result _ node l.invariant.few read);
    }

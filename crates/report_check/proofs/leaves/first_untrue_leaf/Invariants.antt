use Rattle.std.proofs.Common.{drop}
use Rattle.report_check.proofs.Walked.{IsWalked}
use Rattle.report_check.proofs.leaves.first_untrue_leaf.Given as goal

-- the leaves so far are true, and the nodes that are left stand for the boxes that are left
abbrev pub invariant-loop-node : goal.invariant-loop-node
invariant-loop-node g l = IsWalked l.f l.report (drop l.node-index l.nodes) l.boxes l.number

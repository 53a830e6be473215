use Rattle.std.proofs.Common.{subst}
use Rattle.ordered_cover.specs.Joined.{GoesOnEitherWay}
use Rattle.network_reach.proofs.Reports.{joined_as, leaves_as, nodes_told_as, told_as, tree_as}
use Rattle.network_reach.specs.Reached.{IsReached, goes_on_in}
use Rattle.network_reach.proofs.asks.AskingJob.answer_with.Goals as goal

pub answer_blocked-requires-clause-joined : goal.answer_blocked-requires-clause-joined
answer_blocked-requires-clause-joined g c =
    let known = subst (IsReached c.args.f.now c.args.self.now.query.now) c.in-Blocked.is c.in_ok-header.ensures in
    joined_as GoesOnEitherWay c.args.f.now c.network.result.now c.args.self.now.query.now c.in-Blocked.rows.items c.as_slice.result.now c.network.ensures c.as_slice.ensures.value known.1.1.1.1.1

pub answer_treed-requires-clause-told : goal.answer_treed-requires-clause-told
answer_treed-requires-clause-told g c =
    let known = subst (IsReached c.args.f.now c.args.self.now.query.now) c.in-Tree.is c.in_ok-header.ensures in
    nodes_told_as c.args.f.now c.network-in-Tree.result.now c.in-Tree.nodes.items c.as_slice-in-Tree.result.now c.network-in-Tree.ensures c.as_slice-in-Tree.ensures.value known.1.0

pub answer_treed-requires-clause-tree : goal.answer_treed-requires-clause-tree
answer_treed-requires-clause-tree g c =
    let known = subst (IsReached c.args.f.now c.args.self.now.query.now) c.in-Tree.is c.in_ok-header.ensures in
    tree_as c.args.f.now c.network-in-Tree.result.now c.args.self.now.query.now c.in-Tree.nodes.items c.as_slice-in-Tree.result.now c.network-in-Tree.ensures c.as_slice-in-Tree.ensures.value known.1.1.0

pub answer_treed-requires-clause-few : goal.answer_treed-requires-clause-few
answer_treed-requires-clause-few g c =
    let known = subst (IsReached c.args.f.now c.args.self.now.query.now) c.in-Tree.is c.in_ok-header.ensures in
    leaves_as c.args.f.now c.network-in-Tree.result.now c.args.self.now.query.now c.in-Tree.nodes.items c.as_slice-in-Tree.result.now c.network-in-Tree.ensures c.as_slice-in-Tree.ensures.value known.1.1.1

pub answer_more-requires-clause-told : goal.answer_more-requires-clause-told
answer_more-requires-clause-told g c =
    let known = subst (IsReached c.args.f.now c.args.self.now.query.now) c.in-More.is c.in_ok-header.ensures in
    told_as c.args.f.now c.network-in-More.result.now c.in-More.rows.items c.as_slice-in-More.result.now c.network-in-More.ensures c.as_slice-in-More.ensures.value known.0

pub answer_more-requires-clause-joined : goal.answer_more-requires-clause-joined
answer_more-requires-clause-joined g c =
    let known = subst (IsReached c.args.f.now c.args.self.now.query.now) c.in-More.is c.in_ok-header.ensures in
    joined_as (goes_on_in c.args.self.now.query.now) c.args.f.now c.network-in-More.result.now c.args.self.now.query.now c.in-More.rows.items c.as_slice-in-More.result.now c.network-in-More.ensures c.as_slice-in-More.ensures.value known.1.1.1

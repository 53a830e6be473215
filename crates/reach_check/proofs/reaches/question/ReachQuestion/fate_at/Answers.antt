use Rattle.std.proofs.Common.{Some, subst}
use Rattle.journey_changes.specs.Sent.{sent}
use Rattle.vpc_model.specs.Accepted.{IsAccepted}
use Rattle.reach_check.specs.Reaches.{toward_of}
use Rattle.reach_check.proofs.Fates.{fate_at-low, fate_is_shown}
use Rattle.reach_check.proofs.reaches.question.ReachQuestion.fate_at.Goals as goal

pub returns-clause-value : goal.returns-clause-value
returns-clause-value g c =
    let q = c.args.self.now in
    let w = c.walks_from-walks.result in
    fate_at-low w.sent (sent q.fabric.now (Some c.args.start) q.links.now (toward_of q.goal)) c.args.h.now c.only.result c.fate_on-answer.result
    c.walks_from-walks.ensures c.only.ensures.low c.fate_on-answer.ensures.body c.fate_on-answer.ensures.told

pub returns-clause-told : goal.returns-clause-told
returns-clause-told g c =
    let q = c.args.self.now in
    let w = c.walks_from-walks.result in
    fate_is_shown q.fabric.now c.args.start q.links.now q.goal c.args.h.now c.fate_on-answer.result.told (subst IsAccepted c.network.ensures c.description.ensures.accepted) c.requires q.goal_is
    (fate_at-low w.sent (sent q.fabric.now (Some c.args.start) q.links.now (toward_of q.goal)) c.args.h.now c.only.result c.fate_on-answer.result
    c.walks_from-walks.ensures c.only.ensures.low c.fate_on-answer.ensures.body c.fate_on-answer.ensures.told)

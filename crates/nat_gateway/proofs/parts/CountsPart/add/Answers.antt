use Rattle.std.proofs.Common.{ap, ◌∙◌, unwrap_or}
use Rattle.std.proofs.lemmas.Result.{on_ok_weaker}
use Rattle.nat_gateway.specs.Sent.{flow_of}
use Rattle.nat_gateway.proofs.Additions.{counts-put}
use Rattle.nat_gateway.proofs.parts.CountsPart.add.Goals as goal

pub returns-clause-added : goal.returns-clause-added
returns-clause-added c = on_ok_weaker c.put.result (λ put ts all. counts-put _ _ ts c.args.t.now c.flow-flow.result c.unwrap_or-count.result (c.flow-flow.ensures ∙ ap (λ t. flow_of t.nat t.after) c.t.view_is) (c.unwrap_or-count.ensures ∙ ap (λ o. unwrap_or o 0) c.get.ensures) c.if-count-ge-MOST.false put all) c.put.ensures.put

use Rattle.std.proofs.Common.{◌≡◌, ap, ◌∙◌}
use Rattle.std.proofs.lemmas.Result.{on_ok_weaker}
use Rattle.nat_gateway.specs.declared.sent.Sent.{Sent}
use Rattle.nat_gateway.specs.Sent.{flow_of, with_port}
use Rattle.nat_gateway.proofs.Additions.{ports-taken}
use Rattle.nat_gateway.proofs.parts.PortsPart.add.Goals as goal
use Rattle.vpc_model.specs.Nat.{Translation}

pub returns-clause-added : goal.returns-clause-added
returns-clause-added c =
    let key : c.with_port.result ≡ with_port (flow_of c.args.t.now.nat c.args.t.now.after) c.args.t.now.after.p =
    c.with_port.ensures ∙ ap (λ (s : Sent). with_port s c.t.inside.after.p) c.flow-flow.ensures ∙ ap (λ (t : Translation). with_port (flow_of t.nat t.after) t.after.p) c.t.view_is in
    on_ok_weaker c.take.result (λ put ts all. ports-taken _ _ ts c.args.t.now c.with_port.result key put all) c.take.ensures.taken

use Rattle.std.proofs.Common.{sym, ap, ◌∙◌}
use Rattle.std.proofs.lemmas.Result.{on_ok_weaker}
use Rattle.nat_gateway.specs.Tables.{key_after}
use Rattle.nat_gateway.proofs.Values.{values_had, values_added}
use Rattle.nat_gateway.proofs.parts.BeforesPart.add.Goals as goal

pub returns-then-is_some-clause-added : goal.returns-then-is_some-clause-added
returns-then-is_some-clause-added c = λ ts all. values_had key_after (λ t. t.before) _ ts c.args.t.now _ _ (ap key_after c.t.view_is) c.get.ensures (sym c.is_some.ensures ∙ c.if-is_some.true) all

pub returns-clause-added : goal.returns-clause-added
returns-clause-added c = on_ok_weaker c.put.result (λ put ts all. values_added key_after (λ t. t.before) _ _ ts c.args.t.now _ _ _ (ap key_after c.t.view_is) (ap (λ t. t.before) c.t.view_is) c.get.ensures (sym c.is_some.ensures ∙ c.if-is_some.false) put all) c.put.ensures.put

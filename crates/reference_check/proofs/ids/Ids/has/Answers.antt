use Rattle.std.proofs.Common.{◌∙◌, bytes_eq, sym}
use Rattle.vpc_base.proofs.Bytes.{bytes_eq-comm}
use Rattle.vpc_base.proofs.Tests.{list_any_map}
use Rattle.reference_check.proofs.ids.Ids.has.Goals as goal

pub returns : goal.returns
returns c =
    rw (← c.self.view_is)
    (c.contains.ensures ∙ sym (list_any_map (λ k. k.items) (λ i. bytes_eq i c.args.id.now) _ (λ k. bytes_eq-comm k.items c.args.id.now) _))

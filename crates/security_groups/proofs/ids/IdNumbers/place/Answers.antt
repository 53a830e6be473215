use Rattle.std.proofs.Common.{◌∙◌, ap, bytes_eq, sym}
use Rattle.vpc_base.proofs.Bytes.{bytes_eq-comm}
use Rattle.vpc_base.proofs.Positions.{position_map}
use Rattle.security_groups.proofs.ids.IdNumbers.place.Goals as goal

pub returns-clause-number : goal.returns-clause-number
returns-clause-number c =
    rw (← c.self.view_is)
    (c.get_index_of.ensures.index
    ∙ sym
    (position_map (λ k. k.items) (λ i. bytes_eq i c.args.id.now) (λ k. bytes_eq c.bytes.result.now k.items)
    (λ k. bytes_eq-comm k.items c.args.id.now ∙ ap (λ b. bytes_eq b k.items) (sym c.bytes.ensures.value)) _))

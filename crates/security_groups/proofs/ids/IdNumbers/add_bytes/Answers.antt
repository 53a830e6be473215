use Rattle.std.proofs.Common.{◌∙◌, ap, bytes_eq, not, refl, sym}
use Rattle.vpc_base.proofs.Tests.{list_any_map}
use Rattle.security_groups.proofs.ids.IdNumbers.add_bytes.Goals as goal

pub returns-clause-fresh : goal.returns-clause-fresh
returns-clause-fresh c = rw (← c.self.view_is) (c.in_ok-insert.ensures.added ∙ ap not (sym (list_any_map (λ k. k.items) (bytes_eq c.args.id.items) _ (λ k. refl) _)))

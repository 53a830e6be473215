use Rattle.std.proofs.Common.{sym, ◌∙◌, bytes_eq, not, ap}
use Rattle.vpc_base.proofs.Tests.{list_any-map}
use Rattle.json_fields.proofs.kept.SeenIds.add.Goals as goal

pub returns-clause-fresh : goal.returns-clause-fresh
returns-clause-fresh c = rw (← c.self.view_is) (c.in_ok-insert.ensures.added ∙ ap not (sym (list_any-map (bytes_eq c.args.id.items) (λ k. k.items) _)))

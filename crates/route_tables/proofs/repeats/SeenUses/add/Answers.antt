use Rattle.std.proofs.Common.{ap, not, sym, ◌∙◌}
use Rattle.vpc_base.proofs.Tests.{list_any-map}
use Rattle.route_tables.specs.Repeats.{same_use}
use Rattle.route_tables.proofs.repeats.SeenUses.add.Goals as goal

pub returns-clause-fresh : goal.returns-clause-fresh
returns-clause-fresh c =
    rw (← c.self.view_is)
    (c.in_ok-insert.ensures.added
    ∙ ap not (sym (list_any-map (same_use (record { list = c.args.list.items; propagated = c.args.propagated; local = c.args.local })) (λ k. record { list = k.0.items; propagated = k.1; local = k.2 }) _)))

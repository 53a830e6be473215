use Rattle.std.proofs.Common.{◌∙◌}
use Rattle.security_groups.proofs.IdPlaces.{with-keeps, with-number}
use Rattle.security_groups.proofs.ids.IdNumbers.number_or_add.Goals as goal

pub returns-clause-kept : goal.returns-clause-kept
returns-clause-kept c = with-keeps c.args.self.now c.add.new.self c.args.id.now c.in_ok-add.ensures

pub returns-clause-number : goal.returns-clause-number
returns-clause-number c =
    with-number c.args.self.now c.add.new.self c.args.id.now c.place.result c.in_ok-k.k c.in_default.not-Some c.place.ensures.number c.in_ok-add.ensures (c.in_ok-k.ensures ∙ c.len.ensures)

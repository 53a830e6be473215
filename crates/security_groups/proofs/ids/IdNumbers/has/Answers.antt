use Rattle.std.proofs.Common.{◌∙◌, ap, is_some}
use Rattle.security_groups.proofs.IdPlaces.{is_some-listed}
use Rattle.security_groups.proofs.ids.IdNumbers.has.Goals as goal

pub returns : goal.returns
returns c = c.is_some.ensures ∙ ap is_some c.place.ensures.number ∙ is_some-listed c.args.self.now c.args.id.now

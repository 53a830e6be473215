use Rattle.journey_changes.proofs.AlikeLemmas.{none_returns}
use Rattle.journey_changes.proofs.joined.ChangeProbe.come_alike.Goals as goal

pub returns-in-Some-Some : goal.returns-in-Some-Some
returns-in-Some-Some g c all h inside =
    let p = c.args.self.now in
    none_returns p.before.sent p.after.sent c.args.sides.now c.args.one.now c.args.other.now c.in-Some-Some.field-0-0 c.in-Some-Some.field-0-1 c.in-Some-Some.is-0 c.in-Some-Some.is-1
    c.requires.one c.requires.other h inside

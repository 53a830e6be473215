use Rattle.journey_changes.proofs.AlikeLemmas.{unchanged}
use Rattle.journey_changes.proofs.joined.ChangeProbe.unchanged_on.Goals as goal

pub returns-then-come_alike : goal.returns-then-come_alike
returns-then-come_alike g c =
    let p = c.args.self.now in
    unchanged p.before.sent p.after.sent c.args.sides.now c.in_ok-one.one c.in_ok-other.other c.in_ok-one.ensures c.in_ok-other.ensures (c.come_alike.ensures c.if-come_alike.true)

use Rattle.journey_changes.proofs.Joining.{opened_answers}
use Rattle.journey_changes.proofs.joined.ChangeProbe.opened.Goals as goal

pub returns : goal.returns
returns g c =
    let p = c.args.self.now in
    opened_answers p.before.sent p.after.sent c.args.end c.args.sides.now c.fate_on-answer.result c.change_by.result c.change_by.ensures c.fate_on-answer.ensures

use Rattle.journey_changes.proofs.Joining.{both_kept, both_reach, earlier_reaches, later_reaches, reach_both}
use Rattle.journey_changes.proofs.joined.ChangeProbe.change_on.Goals as goal

pub returns-in-None-None : goal.returns-in-None-None
returns-in-None-None g c =
    let p = c.args.self.now in
    let first = c.reached_on-first.result in
    let second = c.reached_on-second.result in
    both_kept p.before.sent p.after.sent c.args.sides.now second.body first.told second.told c.in-None-None.is-0 c.in-None-None.is-1
    (reach_both p.before.sent p.after.sent c.args.sides.now first second c.reached_on-first.ensures c.reached_on-second.ensures)

pub returns-in-None-Some : goal.returns-in-None-Some
returns-in-None-Some g c =
    let p = c.args.self.now in
    let first = c.reached_on-first.result in
    let second = c.reached_on-second.result in
    later_reaches p.before.sent p.after.sent c.args.sides.now second.body first.told second.told c.in-None-Some.end c.opened.result c.in-None-Some.is-1
    (reach_both p.before.sent p.after.sent c.args.sides.now first second c.reached_on-first.ensures c.reached_on-second.ensures)
    c.opened.ensures

pub returns-in-Some-None : goal.returns-in-Some-None
returns-in-Some-None g c =
    let p = c.args.self.now in
    let first = c.reached_on-first.result in
    let second = c.reached_on-second.result in
    earlier_reaches p.before.sent p.after.sent c.args.sides.now second.body first.told second.told c.in-Some-None.end c.closed.result c.in-Some-None.is-0
    (reach_both p.before.sent p.after.sent c.args.sides.now first second c.reached_on-first.ensures c.reached_on-second.ensures)
    c.closed.ensures

pub returns-in-Some-Some : goal.returns-in-Some-Some
returns-in-Some-Some g c =
    let p = c.args.self.now in
    let first = c.reached_on-first.result in
    let second = c.reached_on-second.result in
    let one = c.in-Some-Some.one in
    let other = c.in-Some-Some.other in
    both_reach p.before.sent p.after.sent c.args.sides.now second.body first.told second.told one other c.change_by.result c.in-Some-Some.is-0 c.in-Some-Some.is-1
    c.change_by.ensures
    (reach_both p.before.sent p.after.sent c.args.sides.now first second c.reached_on-first.ensures c.reached_on-second.ensures)

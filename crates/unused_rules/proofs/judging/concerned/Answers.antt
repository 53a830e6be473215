use Rattle.unused_rules.proofs.Concerning.{decides_anywhere, decides_within}
use Rattle.unused_rules.proofs.judging.concerned.Goals as goal

pub returns-in-None : goal.returns-in-None
returns-in-None g c = decides_anywhere c.args.base.now.fabric.now c.args.rule.now c.args.base.now.query.now c.args.base.now.known

pub returns-in-Some : goal.returns-in-Some
returns-in-Some g c =
    decides_within c.args.base.now.fabric.now c.network.result.now c.description.result.now c.args.rule.now c.args.base.now.query.now c.in-Some.f
    c.meet.result c.meet-in-Some.result c.asked_box.result c.answered_box.result c.network.ensures c.description.ensures.value c.description.ensures.accepted
    c.in-Some.ensures c.args.base.now.known c.asked_box.ensures c.answered_box.ensures
    (record { within = c.meet.ensures.within_first; some = c.meet.ensures.holds; none = c.meet.ensures.none })
    (record { within = c.meet-in-Some.ensures.within_first; some = c.meet-in-Some.ensures.holds; none = c.meet-in-Some.ensures.none })

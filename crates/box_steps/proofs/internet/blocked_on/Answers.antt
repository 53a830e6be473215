use Rattle.box_steps.proofs.GatewayOutward.{answers_blocked}
use Rattle.box_steps.proofs.HostAnswers.{sender_lies}
use Rattle.box_steps.proofs.internet.blocked_on.Goals as goal

pub blocked_by-requires : goal.blocked_by-requires
blocked_by-requires c = sender_lies _ c.args.f.now c.args.v c.args.i.now c.sender_on-sender.result c.sender_on-sender.ensures

pub returns : goal.returns
returns c = answers_blocked c.args.f.now c.args.v c.args.i.now c.sender_on-sender.result c.blocked_by.result c.blocked_by.ensures c.sender_on-sender.ensures

use Rattle.box_images.specs.Bodies.{reply_edges}
use Rattle.box_images.proofs.LawLemmas.{bodies_are_aligned}
use Rattle.conn_tracking.proofs.ReplyCuts.{reply_inside}
use Rattle.conn_tracking.proofs.replies.reply_on.Goals as goal

pub returns-clause-answer : goal.returns-clause-answer
returns-clause-answer c addresses o =
    let i = c.args.opened.now in
    let reply = c.reply.ensures in
    record {
      told = reply.told;
      body = reply.body;
      aligned = λ cuts d. bodies_are_aligned cuts (reply_edges i) c.reply.result.body i.part reply.body reply.ends (reply_inside addresses cuts i.part i o d);
      valid = reply.valid;
      over = reply.part;
    }

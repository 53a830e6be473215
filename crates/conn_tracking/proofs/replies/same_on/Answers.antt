use Rattle.box_images.specs.Bodies.{same_edges}
use Rattle.box_images.specs.Images.{header_at}
use Rattle.box_images.proofs.LawLemmas.{bodies_are_aligned}
use Rattle.conn_tracking.proofs.ReplyCuts.{same_inside}
use Rattle.conn_tracking.proofs.ReplyLemmas.{same_header-told}
use Rattle.conn_tracking.proofs.replies.same_on.Goals as goal

pub returns : goal.returns
returns c addresses k =
    let i = c.args.i.now in
    let j = c.args.j.now in
    let same = c.same.ensures in
    record {
      told = λ h t. same_header-told (header_at i h) (header_at j h) c.same.result.told (same.told h t);
      body = same.body;
      aligned = λ cuts d. bodies_are_aligned cuts (same_edges i j) c.same.result.body i.part same.body same.ends
          (same_inside addresses cuts i j c.requires.valid c.requires.valid_other c.requires.part k.one k.other d);
    }

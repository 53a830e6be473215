use Rattle.box_images.specs.Images.{header_at}
use Rattle.box_images.proofs.NarrowLemmas.{same_headers, told_of_all}
use Rattle.box_images.proofs.images.Image.same.Goals as goal

pub both-ends-requires : goal.both-ends-requires
both-ends-requires c =
    let part = c.args.self.now.part in
    let addresses = c.both-addresses.ensures _ _ part _ _ c.compare-src.ensures c.compare-dst.ensures in
    let ports = c.both-ports.ensures _ _ part _ _ c.compare-p.ensures c.compare-q.ensures in
    (part, (addresses.body, ports.body))

pub both-requires : goal.both-requires
both-requires c =
    let part = c.args.self.now.part in
    let addresses = c.both-addresses.ensures _ _ part _ _ c.compare-src.ensures c.compare-dst.ensures in
    let ports = c.both-ports.ensures _ _ part _ _ c.compare-p.ensures c.compare-q.ensures in
    (part, (c.compare-proto.ensures.body, (c.both-ends.ensures _ _ part _ _ addresses ports).body))

pub returns-clause-told : goal.returns-clause-told
returns-clause-told c h t =
    let all = told_of_all c.args.self.now.part c.args.self.now c.args.other.now _ _ _ _ _ _ _ _ c.both.result
    c.compare-proto.ensures c.compare-src.ensures c.compare-dst.ensures c.compare-p.ensures c.compare-q.ensures
    c.both-addresses.ensures c.both-ports.ensures c.both-ends.ensures c.both.ensures in
    same_headers (header_at c.args.self.now h) (header_at c.args.other.now h) c.both.result.told (all.told h t)

pub returns-clause-body : goal.returns-clause-body
returns-clause-body c =
    let all = told_of_all c.args.self.now.part c.args.self.now c.args.other.now _ _ _ _ _ _ _ _ c.both.result
    c.compare-proto.ensures c.compare-src.ensures c.compare-dst.ensures c.compare-p.ensures c.compare-q.ensures
    c.both-addresses.ensures c.both-ports.ensures c.both-ends.ensures c.both.ensures in
    all.body

pub returns-clause-ends : goal.returns-clause-ends
returns-clause-ends c =
    let all = told_of_all c.args.self.now.part c.args.self.now c.args.other.now _ _ _ _ _ _ _ _ c.both.result
    c.compare-proto.ensures c.compare-src.ensures c.compare-dst.ensures c.compare-p.ensures c.compare-q.ensures
    c.both-addresses.ensures c.both-ports.ensures c.both-ends.ensures c.both.ensures in
    all.ends

use Rattle.std.proofs.Common.{◌∙◌, ap, subst, ℕ}
use Rattle.header_boxes.specs.Boxes.{in_range}
use Rattle.box_images.specs.Bodies.{EndsAtEdges, range_edges}
use Rattle.box_images.specs.Fields.{value_of}
use Rattle.nat_gateway.proofs.SentLemmas.{tells_protocol}
use Rattle.nat_gateway.proofs.on_images.protocol_on.Goals as goal

pub returns : goal.returns
returns c =
    let i = c.args.i.now in
    let narrow = c.narrow.ensures in
    let body = c.narrow.result.body in
    let open_kind = c.requires.kinds.1 in
    tells_protocol i c.args.n c.narrow.result open_kind.proto c.requires.cuts.0 c.requires.cuts.1
    (λ h t. narrow.told h t
    ∙ ap (λ (m : ℕ). in_range (m, c.from-2.result) (value_of i.proto h)) c.from.ensures
    ∙ ap (λ (m : ℕ). in_range (c.args.n, m) (value_of i.proto h)) c.from-2.ensures)
    narrow.body
    (subst (λ (m : ℕ). EndsAtEdges (range_edges i.proto c.args.n m) body i.part) c.from-2.ensures
    (subst (λ (m : ℕ). EndsAtEdges (range_edges i.proto m c.from-2.result) body i.part) c.from.ensures narrow.ends))

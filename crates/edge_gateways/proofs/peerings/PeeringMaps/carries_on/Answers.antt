use Rattle.std.proofs.Common.{Bool, None, ap, slice_index_or, subst, true, false, ◌≡◌, ◌∙◌}
use Rattle.vpc_base.specs.Cuts.{CutLists}
use Rattle.vpc_base.specs.declared.headers.Header.{Header}
use Rattle.box_images.specs.Answers.{Answers}
use Rattle.box_images.specs.Images.{header_at}
use Rattle.box_images.specs.declared.images.Image.{Image}
use Rattle.cut_laws.specs.Dividing.{DivideTurns}
use Rattle.image_tests.proofs.Answering.{answers_more}
use Rattle.vpc_model.specs.declared.numbers.VpcNo.{VpcNo}
use Rattle.edge_gateways.specs.OnImages.{DivideSides}
use Rattle.edge_gateways.specs.Sides.{has_address, other_of}
use Rattle.edge_gateways.proofs.OnImages.{answers_bad_source, answers_by_destination}
use Rattle.edge_gateways.proofs.peerings.PeeringMaps.carries_on.Goals as goal

pub returns-then-not-source : goal.returns-then-not-source
returns-then-not-source c =
    let maps = c.args.self.now in
    let i = c.args.i.now in
    let enough : CutLists → Type 0 = DivideSides maps.blocks.items maps.sides.items c.args.x c.args.sender in
    let receiver : VpcNo = other_of c.args.sender (slice_index_or maps.sides.items c.args.x.0 None) in
    let source : Header → Bool = λ h. has_address maps.blocks.items c.args.sender (header_at i h).src in
    let destination : Header → Bool = λ h. has_address maps.blocks.items receiver (header_at i h).dst in
    answers_bad_source enough source destination i.part c.address_on-source.result c.requires.valid.part c.if-not-source.true
    (answers_more (DivideTurns (has_address maps.blocks.items c.args.sender)) enough source i.part c.address_on-source.result (λ cuts d. d.sender) c.address_on-source.ensures)

pub returns-then-destination : goal.returns-then-destination
returns-then-destination c =
    let maps = c.args.self.now in
    let i = c.args.i.now in
    let x = c.address_on-source.result in
    let y = c.address_on-destination.result in
    let enough : CutLists → Type 0 = DivideSides maps.blocks.items maps.sides.items c.args.x c.args.sender in
    let receiver : VpcNo = other_of c.args.sender (slice_index_or maps.sides.items c.args.x.0 None) in
    let is : c.other_of-receiver.result ≡ receiver = c.other_of-receiver.ensures ∙ ap (other_of c.args.sender) c.sides_of.ensures in
    let source : Header → Bool = λ h. has_address maps.blocks.items c.args.sender (header_at i h).src in
    let destination : Header → Bool = λ h. has_address maps.blocks.items receiver (header_at i h).dst in
    let over = subst (λ (j : Image). Answers (DivideTurns (has_address maps.blocks.items c.other_of-receiver.result)) (λ h. has_address maps.blocks.items c.other_of-receiver.result (header_at j h).dst) j.part y)
    c.within-rest.ensures.image c.address_on-destination.ensures in
    let asked = subst (λ (v : VpcNo). Answers (DivideTurns (has_address maps.blocks.items v)) (λ h. has_address maps.blocks.items v (header_at i h).dst) x.body y) is over in
    answers_by_destination enough source destination i.part x y true c.requires.valid.part c.if-not-source.false c.if-destination.true
    (answers_more (DivideTurns (has_address maps.blocks.items c.args.sender)) enough source i.part x (λ cuts d. d.sender) c.address_on-source.ensures)
    (answers_more (DivideTurns (has_address maps.blocks.items receiver)) enough destination x.body y (λ cuts d. d.receiver) asked)

pub returns-else-destination : goal.returns-else-destination
returns-else-destination c =
    let maps = c.args.self.now in
    let i = c.args.i.now in
    let x = c.address_on-source.result in
    let y = c.address_on-destination.result in
    let enough : CutLists → Type 0 = DivideSides maps.blocks.items maps.sides.items c.args.x c.args.sender in
    let receiver : VpcNo = other_of c.args.sender (slice_index_or maps.sides.items c.args.x.0 None) in
    let is : c.other_of-receiver.result ≡ receiver = c.other_of-receiver.ensures ∙ ap (other_of c.args.sender) c.sides_of.ensures in
    let source : Header → Bool = λ h. has_address maps.blocks.items c.args.sender (header_at i h).src in
    let destination : Header → Bool = λ h. has_address maps.blocks.items receiver (header_at i h).dst in
    let over = subst (λ (j : Image). Answers (DivideTurns (has_address maps.blocks.items c.other_of-receiver.result)) (λ h. has_address maps.blocks.items c.other_of-receiver.result (header_at j h).dst) j.part y)
    c.within-rest.ensures.image c.address_on-destination.ensures in
    let asked = subst (λ (v : VpcNo). Answers (DivideTurns (has_address maps.blocks.items v)) (λ h. has_address maps.blocks.items v (header_at i h).dst) x.body y) is over in
    answers_by_destination enough source destination i.part x y false c.requires.valid.part c.if-not-source.false c.if-destination.false
    (answers_more (DivideTurns (has_address maps.blocks.items c.args.sender)) enough source i.part x (λ cuts d. d.sender) c.address_on-source.ensures)
    (answers_more (DivideTurns (has_address maps.blocks.items receiver)) enough destination x.body y (λ cuts d. d.receiver) asked)

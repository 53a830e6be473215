use Rattle.std.proofs.Common.{◌≡◌, ◌==◌, ◌||◌, Bool, subst, ℕ}
use Rattle.vpc_base.specs.declared.headers.Header.{Header}
use Rattle.header_boxes.specs.declared.boxes.Box5.{Box5}
use Rattle.box_images.specs.Answers.{Answers}
use Rattle.box_images.specs.Images.{header_at}
use Rattle.box_images.specs.declared.images.Image.{Image}
use Rattle.box_images.specs.declared.images.Part.{Part}
use Rattle.box_images.proofs.LawLemmas.{answers_either, answers_first}
use Rattle.cut_laws.specs.Dividing.{Divide}
use Rattle.vpc_model.specs.Cuts.{fixed_cuts}
use Rattle.nat_gateway.proofs.on_images.translatable_on.Goals as goal

-- asked of the image over a body
over_body : (i over : Image) (body : Box5) (n : ℕ) (x : Part Bool) → over ≡ record i { part = body }
    → Answers (Divide fixed_cuts) (λ h. let g = header_at over h in g.proto == n) over.part x
    → Answers (Divide fixed_cuts) (λ h. let g = header_at i h in g.proto == n) body x
over_body i over body n x is k = subst (λ (w : Image). Answers (Divide fixed_cuts) (λ h. let g = header_at w h in g.proto == n) w.part x) is k

pub returns-then-tcp : goal.returns-then-tcp
returns-then-tcp c =
    let i = c.args.i.now in
    let proto = λ (h : Header). let g = header_at i h in g.proto in
    let icmp = c.protocol_on-icmp in
    let tcp = c.protocol_on-tcp in
    let asked = over_body i c.within.result icmp.result.body 6 tcp.result c.within.ensures.image tcp.ensures in
    answers_either (Divide fixed_cuts) (λ h. proto h == 1) (λ h. (proto h == 6) || (proto h == 17)) i.part icmp.result tcp.result c.if-icmp.false icmp.ensures
    (answers_first (Divide fixed_cuts) (λ h. proto h == 6) (λ h. proto h == 17) icmp.result.body tcp.result c.if-tcp.true asked)

pub returns : goal.returns
returns c =
    let i = c.args.i.now in
    let proto = λ (h : Header). let g = header_at i h in g.proto in
    let icmp = c.protocol_on-icmp in
    let tcp = c.protocol_on-tcp in
    let asked = over_body i c.within.result icmp.result.body 6 tcp.result c.within.ensures.image tcp.ensures in
    let last = over_body i c.within-2.result tcp.result.body 17 c.protocol_on.result c.within-2.ensures.image c.protocol_on.ensures in
    answers_either (Divide fixed_cuts) (λ h. proto h == 1) (λ h. (proto h == 6) || (proto h == 17)) i.part icmp.result c.protocol_on.result c.if-icmp.false icmp.ensures
    (answers_either (Divide fixed_cuts) (λ h. proto h == 6) (λ h. proto h == 17) icmp.result.body tcp.result c.protocol_on.result c.if-tcp.false asked last)

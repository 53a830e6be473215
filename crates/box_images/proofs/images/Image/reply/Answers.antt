use Rattle.std.proofs.Common.{subst, sym}
use Rattle.box_images.specs.Bodies.{range_edges}
use Rattle.box_images.specs.Images.{IsImageOfAnswer, IsValidImage}
use Rattle.box_images.specs.Parts.{echo_image}
use Rattle.box_images.proofs.BodyLemmas.{body_through, ends_through}
use Rattle.box_images.proofs.TranslateLemmas.{answer_echo, answer_exchanged, if_none, if_some, valid_echo, valid_exchanged}
use Rattle.box_images.proofs.images.Image.reply.Goals as goal
use Rattle.box_images.proofs.images.Image.reply.Goals.{then-echo, else-echo}

pub returns-then-not-icmp-clause-valid : goal.returns-then-not-icmp-clause-valid
returns-then-not-icmp-clause-valid c =
    subst IsValidImage (sym c.exchanged.ensures)
    (valid_exchanged c.args.self.now c.narrow_field-icmp.result.body c.requires c.narrow_field-icmp.ensures.body.within)

pub returns-then-not-icmp-clause-kind : goal.returns-then-not-icmp-clause-kind
returns-then-not-icmp-clause-kind c addresses o =
    subst (IsImageOfAnswer addresses) (sym c.exchanged.ensures)
    (answer_exchanged addresses c.args.self.now c.narrow_field-icmp.result c.narrow_field-icmp.ensures c.if-not-icmp.true o)

pub returns-clause-ends : goal.returns-clause-ends
returns-clause-ends c =
    let i = c.args.self.now in
    ends_through (range_edges i.proto 1 1) (range_edges i.q 2048 2048) c.narrow_field-echo.result.body c.narrow_field-icmp.result.body i.part
    c.narrow_field-echo.ensures.ends c.narrow_field-icmp.ensures.ends

pub returns-clause-valid : goal.returns-clause-valid
returns-clause-valid c =
    let i = c.args.self.now in
    let icmp = c.narrow_field-icmp in
    let echo = c.narrow_field-echo in
    let body = body_through echo.result.body icmp.result.body i.part echo.ensures.body icmp.ensures.body in
    let valid = valid_echo i echo.result.body c.requires body.within in
    elim c.if-echo.branch [
      | then-echo w ↦ if_some c.if-echo.told w.echo.result (echo_image i echo.result.body) IsValidImage w.told-is w.echo.ensures valid
      | else-echo w ↦ if_none c.if-echo.told IsValidImage w.told-is
    ]

pub returns-clause-kind : goal.returns-clause-kind
returns-clause-kind c addresses o =
    let i = c.args.self.now in
    let body = c.narrow_field-echo.result.body in
    let within = c.narrow_field-echo.ensures.body.within in
    let answer = answer_echo addresses i c.narrow_field-icmp.result body c.narrow_field-icmp.ensures c.if-not-icmp.false within o in
    elim c.if-echo.branch [
      | then-echo w ↦ if_some c.if-echo.told w.echo.result (echo_image i body) (IsImageOfAnswer addresses) w.told-is w.echo.ensures answer
      | else-echo w ↦ if_none c.if-echo.told (IsImageOfAnswer addresses) w.told-is
    ]

use Rattle.nat_gateway.proofs.SentLemmas.{gives_shifted}
use Rattle.nat_gateway.proofs.on_images.outward_on.Goals as goal

pub returns-clause-answer : goal.returns-clause-answer
returns-clause-answer c =
    let open_kind = c.requires.kinds.1 in
    let translatable = c.translatable_on-translatable in
    let shift = c.shift_p-shifted in
    gives_shifted c.args.own c.args.i.now c.within.result c.set_src.result translatable.result shift.result
    translatable.ensures c.if-not-translatable.false c.within.ensures.image open_kind.p
    shift.ensures.told shift.ensures.body shift.ensures.ends shift.ensures.part c.set_src.ensures.image c.set_src.ensures.valid

pub returns-clause-kind : goal.returns-clause-kind
returns-clause-kind c addresses listed o =
    let over = (c.within.ensures.kind addresses).of_open o in
    (c.set_src.ensures.kind addresses listed).of_open (c.shift_p-shifted.ensures.kind addresses over)

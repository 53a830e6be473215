use Rattle.std.proofs.Common.{◌∙◌, ap, get_or}
use Rattle.transit_gateway.specs.Lists.{TransitLists}
use Rattle.transit_gateway.proofs.ByNumber.{pieces-at}
use Rattle.transit_gateway.proofs.OnImages.{answers_by_route_table}
use Rattle.transit_gateway.proofs.index.TransitIndex.choose_on.Goals as goal

pub returns-clause-answer : goal.returns-clause-answer
returns-clause-answer g c = λ d of.
    let p = c.index.result.now in
    let is = pieces-at d c.args.self.now c.args.t p of c.requires.table (c.index.ensures ∙ ap (λ (x : TransitLists). get_or x.routes c.args.t.0 p) c.self.view_is) in
    answers_by_route_table d c.args.t p c.args.i.now c.piece_on.result is c.requires.valid c.piece_on.ensures.answer

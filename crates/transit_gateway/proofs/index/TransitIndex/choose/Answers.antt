use Rattle.std.proofs.Common.{◌∙◌, ap, get_or}
use Rattle.transit_gateway.specs.Lists.{TransitLists}
use Rattle.transit_gateway.proofs.ByNumber.{pieces-at}
use Rattle.transit_gateway.proofs.index.TransitIndex.choose.Goals as goal

pub returns-clause-chosen : goal.returns-clause-chosen
returns-clause-chosen g c = λ d of.
    let p = c.index.result.now in
    let is = pieces-at d c.args.self.now c.args.t p of c.requires.table (c.index.ensures ∙ ap (λ (x : TransitLists). get_or x.routes c.args.t.0 p) c.self.view_is) in
    c.find-told.ensures.told ∙ is.chosen c.args.dst c.ranges.dst.fits

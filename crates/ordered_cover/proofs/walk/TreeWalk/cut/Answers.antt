use Rattle.std.proofs.lemmas.List.Elements.{All-push}
use Rattle.std.proofs.Common.{subst, sym, All}
use Rattle.ordered_cover.specs.Walk.{CutFits}
use Rattle.ordered_cover.proofs.Walks.{cut_fits, cut_walked}
use Rattle.ordered_cover.proofs.walk.TreeWalk.cut.Goals as goal

pub invariant_of-self-2 : goal.invariant_of-self-2
invariant_of-self-2 c =
    let inside = c.self.inside in
    let range = c.range_of-range in
    subst (All CutFits) (sym c.in_ok-push.ensures.items)
    (All-push CutFits inside.cuts.items _ c.self.invariant
    (cut_fits inside.is_over inside.at inside.cuts.items c.args.side c.args.number range.result c.args.self.now range.ensures.value range.ensures.last c.self.view_is c.requires))

pub returns : goal.returns
returns c =
    let inside = c.self.inside in
    let range = c.range_of-range in
    cut_walked inside.is_over inside.at _ inside.cuts.items _ c.args.side c.args.number range.result c.args.self.now range.ensures.value c.with_side-self-inside.ensures c.in_ok-push.ensures.items
    c.self.view_is c.requires

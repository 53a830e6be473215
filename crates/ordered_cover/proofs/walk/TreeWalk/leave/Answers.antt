use Rattle.std.proofs.Common.{◌≡◌, ◌++◌, ◌∷◌, [], All, ap, subst, sym, ◌∙◌}
use Rattle.std.proofs.lemmas.List.Elements.{All-push}
use Rattle.ordered_cover.specs.Walk.{CutFits}
use Rattle.ordered_cover.specs.declared.walk.CutOff.{CutOff}
use Rattle.ordered_cover.specs.declared.walk.CutOff.TheVariants.{Later, Begun}
use Rattle.ordered_cover.proofs.Lists.{all_before}
use Rattle.ordered_cover.proofs.Walks.{leave_past, leave_to}
use Rattle.ordered_cover.proofs.walk.TreeWalk.leave.Goals as goal

pub invariant_of-self-in-Later : goal.invariant_of-self-in-Later
invariant_of-self-in-Later c =
    let popped = c.pop.new.self.items in
    let ended : c.begun.self-inside.cuts.items ≡ popped ++ c.in-Some.cut ∷ [] = c.in-Some.ensures.items in
    subst (All CutFits) (sym c.in_ok-push-in-Later.ensures.items)
    (All-push CutFits popped _ (all_before CutFits popped c.in-Some.cut (subst (All CutFits) ended c.begun.invariant.fits)) c.range_of-range.ensures.first)

pub returns-in-Later : goal.returns-in-Later
returns-in-Later c =
    let inside = c.begun.self-inside in
    let first = c.self.inside in
    let popped = c.pop.new.self.items in
    let ended : inside.cuts.items ≡ popped ++ Later c.in-Later.side c.in-Later.number c.in-Later.last ∷ [] = c.in-Some.ensures.items ∙ ap (λ (x : CutOff). popped ++ x ∷ []) c.in-Later.is in
    leave_to first.is_over inside.is_over first.at inside.at _ first.cuts.items inside.cuts.items popped _ c.in-Later.side c.in-Later.number c.in-Later.last c.range_of-range.result c.args.self.now
    c.begun.invariant.over c.begun.invariant.later ended c.range_of-range.ensures.value c.with_side-self-inside.ensures c.in_ok-push-in-Later.ensures.items c.self.view_is

pub begun-preserved : goal.begun-preserved
begun-preserved c =
    let inside = c.begun.self-inside in
    let first = c.self.inside in
    let popped = c.pop.new.self.items in
    let last : inside.cuts.items ≡ popped ++ c.in-Some.cut ∷ [] = c.in-Some.ensures.items in
    let ended : inside.cuts.items ≡ popped ++ Begun c.in-Begun.side c.in-Begun.first ∷ [] = last ∙ ap (λ (x : CutOff). popped ++ x ∷ []) c.in-Begun.is in
    record {
      later = leave_past first.at inside.at _ first.cuts.items inside.cuts.items popped c.in-Begun.side c.in-Begun.first c.range_of-range-in-Begun.result
          c.begun.invariant.later ended c.range_of-range-in-Begun.ensures.value c.with_side-self-inside-in-Begun.ensures;
      fits = all_before CutFits popped c.in-Some.cut (subst (All CutFits) last c.begun.invariant.fits);
      over = c.begun.invariant.over;
    }

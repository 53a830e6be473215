use Rattle.std.proofs.Common.{◌++◌, ◌∙◌, List, ap, sym, ℕ}
use Rattle.walk_reasons.proofs.ToldPlaces.{judged-inside, judged-passed, judged-refused}
use Rattle.walk_reasons.proofs.Texts.{put_after, put_as}
use Rattle.walk_reasons.proofs.judging.put_judged.Goals as goal

pub returns-in-None : goal.returns-in-None
returns-in-None c =
    put_as c.put_judged_in.result c.args.out.now.items _ _ c.put_judged_in.new.out.items (judged-inside c.args.f.now c.args.h.now c.args.borders c.in-None.is) c.put_judged_in.ensures

pub returns-then-passes : goal.returns-then-passes
returns-then-passes c =
    put_as c.put_judged_in-then-passes.result c.args.out.now.items _ _ c.put_judged_in-then-passes.new.out.items (judged-passed c.args.f.now c.args.h.now c.in-Some.s c.args.borders c.in-Some.is (sym c.in_ok-passes-in-Some.ensures.passes ∙ c.if-passes.true))
    (put_after c.put_judged_in-then-passes.result c.args.out.now.items _ _ c.put_judgement.new.out.items c.put_judged_in-then-passes.new.out.items c.in_ok-passes-in-Some.ensures.text c.put_judged_in-then-passes.ensures)

pub returns-else-passes : goal.returns-else-passes
returns-else-passes c =
    c.in_ok-passes-in-Some.ensures.text
    ∙ ap (λ (t : List ℕ). c.args.out.now.items ++ t) (judged-refused c.args.f.now c.args.h.now c.in-Some.s c.args.borders c.in-Some.is (sym c.in_ok-passes-in-Some.ensures.passes ∙ c.if-passes.false))

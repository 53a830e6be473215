use Rattle.std.proofs.Common.{◌∙◌, None, Some, ap, sym}
use Rattle.walk_reasons.specs.Decisions.{judged}
use Rattle.walk_reasons.specs.Reasons.{decision_lines}
use Rattle.walk_reasons.specs.declared.borders.Borders.{Borders}
use Rattle.walk_reasons.proofs.ToldPlaces.{entry-lines}
use Rattle.walk_reasons.proofs.Texts.{put_as}
use Rattle.walk_reasons.proofs.deciding.put_at_entry.Goals as goal

pub returns-in-Some : goal.returns-in-Some
returns-in-Some c =
    put_as c.put_at_table.result c.args.out.now.items _ _ c.put_at_table.new.out.items
    (entry-lines c.args.f.now c.args.v c.args.by c.args.h.now (Some c.in-Some.t) (sym c.in-Some.is ∙ c.entrance_table.ensures.number)) c.put_at_table.ensures

pub returns-in-None : goal.returns-in-None
returns-in-None c =
    let d = c.args.f.now in
    put_as c.put_judged.result c.args.out.now.items _ _ c.put_judged.new.out.items
    (ap (λ (b : Borders). decision_lines d (judged d c.args.h.now b)) c.of_host.ensures.borders
    ∙ entry-lines d c.args.v c.args.by c.args.h.now None (sym c.in-None.is ∙ c.entrance_table.ensures.number))
    c.put_judged.ensures

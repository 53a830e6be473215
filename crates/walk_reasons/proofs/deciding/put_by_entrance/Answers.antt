use Rattle.std.proofs.Common.{ap}
use Rattle.walk_reasons.proofs.Texts.{put_after, put_as}
use Rattle.walk_reasons.specs.Decisions.{judged}
use Rattle.walk_reasons.specs.Reasons.{decision_lines, route_line}
use Rattle.walk_reasons.specs.declared.borders.Borders.{Borders}
use Rattle.walk_reasons.proofs.deciding.put_by_entrance.Goals as goal

pub returns : goal.returns
returns c =
    let d = c.args.f.now in
    put_after c.put_judged.result c.args.out.now.items (route_line d c.args.t c.args.k) _ c.put_route_line.new.out.items c.put_judged.new.out.items c.in_ok-put_route_line.ensures
    (put_as c.put_judged.result c.put_route_line.new.out.items _ _ c.put_judged.new.out.items (ap (λ (b : Borders). decision_lines d (judged d c.args.h.now b)) c.of_entrance.ensures.borders) c.put_judged.ensures)

use Rattle.std.proofs.lemmas.Result.{on_ok_weaker}
use Rattle.reach_matrix.specs.Matrix.{IsPairLine}
use Rattle.reach_matrix.proofs.LineLemmas.{line_added, other_adds}
use Rattle.reach_matrix.proofs.lines.put_pair.Goals as goal

pub returns-clause-text : goal.returns-clause-text
returns-clause-text g c =
    let old = c.args.out.now.items in
    let new = c.put_end.new.out.items in
    on_ok_weaker c.put_end.result
    (other_adds (IsPairLine c.args.f.now c.args.ports) c.args.from c.args.to old new c.if-to-from.false)
    (line_added c.args.f.now c.args.ports (c.args.from, c.args.to) c.put_end.result old c.put_names.new.out.items c.put_told.new.out.items new
    c.in_ok-put_names.ensures c.in_ok-put_told.ensures.text c.put_end.ensures)

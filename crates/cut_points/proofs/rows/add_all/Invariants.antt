use Rattle.std.proofs.Common.{◌≡◌, drop}
use Rattle.vpc_model.specs.Cuts.{all_cuts}
use Rattle.cut_points.specs.Gathered.{gathered_with}
use Rattle.cut_points.proofs.rows.add_all.Given as goal

abbrev pub invariant-loop-row : goal.invariant-loop-row
invariant-loop-row g l = gathered_with l.gathered (all_cuts g.T.Cutting.cuts (drop l.row-index l.rows)) ≡ gathered_with l.initial.gathered (all_cuts g.T.Cutting.cuts l.rows)

use Rattle.ordered_cover.proofs.Leaves.{leaves_are_apart, leaves_are_counted, leaves_are_whole, leaves_hold_once, leaves_lie_within, trees_are_reports}
use Rattle.ordered_cover.proofs.laws.cut_tree_laws.Goals as goal

pub returns-clause-within : goal.returns-clause-within
returns-clause-within g c = leaves_lie_within

pub returns-clause-once : goal.returns-clause-once
returns-clause-once g c = leaves_hold_once

pub returns-clause-apart : goal.returns-clause-apart
returns-clause-apart g c = leaves_are_apart

pub returns-clause-whole : goal.returns-clause-whole
returns-clause-whole g c = leaves_are_whole

pub returns-clause-counted : goal.returns-clause-counted
returns-clause-counted g c = leaves_are_counted

pub returns-clause-reports : goal.returns-clause-reports
returns-clause-reports g c = trees_are_reports

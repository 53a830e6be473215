use Rattle.std.proofs.Common.{◌∙◌, ap}
use Rattle.query_words.specs.Events.{lines_of}
use Rattle.flow_check.proofs.Cuts.{lines-first}
use Rattle.flow_check.proofs.lines.first_line.Goals as goal

pub returns-in-Some-clause-lines : goal.returns-in-Some-clause-lines
returns-in-Some-clause-lines c =
    ap lines_of c.in-Some.ensures.whole ∙ lines-first c.in-Some.parts.0.now c.in-Some.parts.1.now c.in-Some.ensures.clear

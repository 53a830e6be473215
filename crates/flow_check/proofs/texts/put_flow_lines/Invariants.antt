use Rattle.std.proofs.Common.{◌++◌, ◌≡◌, drop}
use Rattle.flow_check.specs.Texts.{flow_lines}
use Rattle.flow_check.proofs.texts.put_flow_lines.Given as goal

abbrev pub invariant-loop-line : goal.invariant-loop-line
invariant-loop-line l = l.out.items ++ flow_lines l.n (drop l.line-index l.lines) ≡ l.fn.out.items ++ flow_lines l.n l.lines

use Rattle.std.proofs.Common.{◌≡◌, ◌+◌, ◌++◌, drop}
use Rattle.block_report.specs.Hops.{hop_lines_from}
use Rattle.block_report.proofs.hops.put_hops.Given as goal

abbrev pub invariant-loop-hop : goal.invariant-loop-hop
invariant-loop-hop l = record {
  numbered : l.number ≡ l.hop-index + 1;
  rest : l.out.items ++ hop_lines_from l.n l.number (drop l.hop-index l.hops) ≡ l.fn.out.items ++ hop_lines_from l.n 1 l.hops;
}

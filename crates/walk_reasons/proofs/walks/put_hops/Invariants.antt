use Rattle.std.proofs.Common.{◌≡◌, ◌+◌, ◌++◌, drop}
use Rattle.walk_reasons.specs.Parts.{hops_text}
use Rattle.walk_reasons.proofs.walks.put_hops.Given as goal

abbrev pub invariant-loop-hop : goal.invariant-loop-hop
invariant-loop-hop l = record {
  numbered : l.number ≡ l.hop-index + 1;
  rest : l.out.items ++ hops_text l.f l.number l.before (drop l.hop-index l.hops) ≡ l.fn.out.items ++ hops_text l.f 1 l.sent l.hops;
}

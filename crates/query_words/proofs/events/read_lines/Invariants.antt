use Rattle.std.proofs.Common.{◌≡◌, ◌+◌, ◌++◌, drop, is_none, map}
use Rattle.std.specs.List.{All, filter_map, position_from}
use Rattle.query_words.specs.Events.{StartsWell, event_of}
use Rattle.query_words.proofs.events.read_lines.Given as goal

-- the packets so far and those of the remaining lines are all, and the first bad line is among the remaining ones
abbrev pub invariant-loop-k : goal.invariant-loop-k
invariant-loop-k l = record {
  packets : l.events.items ++ filter_map (event_of l.n) (map (λ t. t.now) (drop l.k l.lines)) ≡ filter_map (event_of l.n) (map (λ t. t.now) l.lines);
  bad : position_from (λ t. is_none (event_of l.n t)) (l.k + 1) (map (λ t. t.now) (drop l.k l.lines)) ≡ position_from (λ t. is_none (event_of l.n t)) 1 (map (λ t. t.now) l.lines);
  starts : All (StartsWell l.n) l.events.items;
}

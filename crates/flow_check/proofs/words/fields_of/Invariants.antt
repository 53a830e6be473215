use Rattle.std.proofs.Common.{◌++◌, ◌≡◌, ◌≤◌, length, map}
use Rattle.query_words.specs.Events.{words_of}
use Rattle.flow_check.proofs.Fields.{AreFull}
use Rattle.flow_check.proofs.words.fields_of.Given as goal

abbrev pub invariant-loop-word : goal.invariant-loop-word
invariant-loop-word l = record {
  all : map (λ w. w.now) l.words.items ++ words_of l.rest ≡ words_of l.line;
  full : AreFull (map (λ w. w.now) l.words.items);
  few : length (map (λ w. w.now) l.words.items) ≤ 13;
}

abbrev pub decreases-loop-word : goal.decreases-loop-word
decreases-loop-word l = length l.rest

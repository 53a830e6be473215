use Rattle.std.proofs.Common.{◌≡◌, bytes_eq, drop}
use Rattle.read_network.specs.Interfaces.{letters_of}
use Rattle.read_network.proofs.types.spells.Given as goal

-- the rest of the text spells what is left of the word exactly where the text spells the word
abbrev pub invariant-loop-c : goal.invariant-loop-c
invariant-loop-c l = bytes_eq (letters_of (drop l.c-index l.text)) l.rest ≡ bytes_eq (letters_of l.text) l.word

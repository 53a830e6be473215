-- What searches find among headers that don't get through.
use Rattle.std.specs.Prelude.{None, Option, Some}
use Rattle.box_walk.specs.Asking.{Asking, stopped_of, word_of}
use Rattle.vpc_laws.specs.Types.{Header, Phase, Stop}
use Rattle.vpc_model.specs.Told.{name_of}
use Rattle.policy_check.specs.Judged.{certainty_of}
use Rattle.policy_check.specs.declared.certainties.Certainty.{Certainty}
use Rattle.policy_check.specs.declared.certainties.Certainty.TheVariants as certainties

-- a word in place of none, and none in place of a word
abbrev pub turned : Option (Unit {0}) → Option (Unit {0})
turned None = Some tt
turned (Some word) = None

-- a word for a header that gets through; none for one that doesn't, which a search therefore finds
abbrev pub passing_of : Asking → Header → Option (Unit {0})
passing_of a h = turned (stopped_of a h)

-- none where the two are one
abbrev pub unless_same : Certainty → Certainty → Option (Unit {0})
unless_same certainties.Known certainties.Known = None
unless_same certainties.Unknown certainties.Unknown = None
unless_same _ _ = Some tt

-- none for a stop of which so much is known
abbrev pub unless_halted : Certainty → Option (Phase × Stop) → Option (Unit {0})
unless_halted certainty None = Some tt
unless_halted certainty (Some told) = unless_same certainty (certainty_of (name_of told.1))

-- none for a header that is stopped, or whose reply is, and of which so much is known: a search finds it
abbrev pub halting_of : Certainty → Asking → Header → Option (Unit {0})
halting_of certainty a h = unless_halted certainty (word_of a h)

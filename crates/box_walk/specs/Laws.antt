-- What is known of the words.
use Rattle.std.specs.Prelude.{◌≡◌, ◌↔◌, None, Some, true}
use Rattle.vpc_base.specs.declared.headers.Header.{Header}
use Rattle.vpc_laws.specs.Types.{Phase, Stop}
use Rattle.vpc_model.specs.Accepted.{IsAccepted}
use Rattle.vpc_model.specs.Appliances.{appliances_of}
use Rattle.vpc_model.specs.Sound.{has_text}
use Rattle.vpc_model.specs.Verdict.{verdict_by}
use Rattle.vpc_model.specs.declared.outcomes.Verdict.TheVariants as verdicts
use Rattle.box_walk.specs.Asking.{Asking, IsAsking, stopped_of, word_of}

-- each stop that is told has a text
abbrev pub WordsHaveTexts : Type 0
WordsHaveTexts =
    (a : Asking) (h : Header) (phase : Phase) (s : Stop) → IsAccepted a.network → IsAsking a
    → word_of a h ≡ Some (phase, s) → has_text a.network s ≡ true

-- nothing stops a request, or its reply, exactly where its verdict is that it gets through
abbrev pub NothingStopsThrough : Type 0
NothingStopsThrough =
    (a : Asking) (h : Header) → (stopped_of a h ≡ None) ↔ (verdict_by a.network (appliances_of a.network) a.homes a.goal h ≡ verdicts.Through)

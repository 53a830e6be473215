-- Words and their texts.
use Rattle.std.proofs.Common.{◌≡◌, None, Option, Some, ap, refl, subst, true}
use Rattle.std.specs.Prelude.{option_map}
use Rattle.box_walk.proofs.Homes.{verdicts_by_are_told}
use Rattle.box_walk.specs.Asking.{stop_of}
use Rattle.box_walk.specs.Laws.{WordsHaveTexts}
use Rattle.vpc_laws.specs.Sound.{IsTold}
use Rattle.vpc_laws.specs.Types.{Description, Phase, Stop, Verdict}
use Rattle.vpc_model.specs.Appliances.{appliances_of}
use Rattle.vpc_model.specs.Report.{ending_of}
use Rattle.vpc_model.specs.Sound.{has_text}
use Rattle.vpc_model.specs.Told.{told_stop}
use Rattle.vpc_model.specs.Verdict.{verdict_by}
use Rattle.vpc_model.specs.declared.outcomes.Verdict.TheVariants as verdicts

-- the stop that is told, or else another
abbrev stop_or : Stop → Option (Phase × Stop) → Stop
stop_or t None = t
stop_or t (Some told) = told.1

-- a stop that is told has a text
pub stop_told : (d : Description) (v : Verdict) (told : Phase × Stop) → IsTold d v → stop_of v ≡ Some told → has_text d told.1 ≡ true
stop_told d verdicts.Through told is_told is = absurd (cc)
stop_told d (verdicts.Stopped phase s) told is_told is = subst (λ (x : Stop). has_text d x ≡ true) (ap (stop_or s) is) is_told

-- what is told of a request is told of its stop
pub ending_of-stop : (d : Description) (v : Verdict) → ending_of d v ≡ option_map (λ (told : Phase × Stop). told_stop d told.0 told.1) (stop_of v)
ending_of-stop d verdicts.Through = refl
ending_of-stop d (verdicts.Stopped phase s) = refl

pub words_have_texts : WordsHaveTexts
words_have_texts a h phase s accepted asking is =
    stop_told a.network (verdict_by a.network (appliances_of a.network) a.homes a.goal h) (phase, s)
    (verdicts_by_are_told a.network (appliances_of a.network) a.homes a.goal h accepted asking.start asking.goal) is

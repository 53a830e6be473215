-- Whether a stop is told by a text.
use Rattle.std.specs.Prelude.{◌&&◌, Bool, None, Option, Some, bytes_eq, false, if◌then◌else◌, option_map, true}
use Rattle.vpc_model.specs.Names.{name_text}
use Rattle.vpc_laws.specs.Types.{Description, End, Header, Phase, Stop, StopText}
use Rattle.vpc_model.specs.Appliances.{appliances_of}
use Rattle.vpc_model.specs.Report.{ending_of}
use Rattle.vpc_model.specs.Told.{told_stop}
use Rattle.vpc_model.specs.Verdict.{Homes, verdict_by}
use Rattle.vpc_model.specs.declared.outcomes.Phase.TheVariants as phases

-- the same phase
abbrev pub is_phase : Phase → Phase → Bool
is_phase phases.Request phases.Request = true
is_phase phases.Reply phases.Reply = true
is_phase _ _ = false

-- the same phase, name, component and rule
abbrev pub is_text : StopText → StopText → Bool
is_text a b =
    is_phase a.phase b.phase
    && (bytes_eq (name_text a.name) (name_text b.name) && (bytes_eq a.id b.id && bytes_eq a.rule b.rule))

-- what is told of a stop in a phase, if one is
abbrev pub told_of : Description → Option (Phase × Stop) → Option StopText
told_of d word = option_map (λ (told : Phase × Stop). told_stop d told.0 told.1) word

-- a word where this text is told; none where another one is, or nothing
abbrev pub agreed : StopText → Option StopText → Option (Unit {0})
agreed text None = None
agreed text (Some told) = if is_text text told then Some tt else None

-- a word for a header that is stopped as the text says; none where something else becomes of it
unfoldable pub agreement_of : Description → Homes → End → StopText → Header → Option (Unit {0})
agreement_of d homes goal text h = agreed text (ending_of d (verdict_by d (appliances_of d) homes goal h))

-- What can be printed of lines that differ.
use Rattle.std.specs.Prelude.{Bool}
use Rattle.vpc_laws.specs.Types.{Description}
use Rattle.vpc_model.specs.Sound.{has_rule, has_text}
use Rattle.flow_check.specs.declared.kinds.FlowKind.{FlowKind}
use Rattle.flow_check.specs.declared.kinds.FlowKind.TheVariants as kinds

-- the stop or the rule is there
abbrev pub is_told : Description → FlowKind → Bool
is_told d (kinds.Accepted s) = has_text d s
is_told d (kinds.Rejected by) = has_rule d by

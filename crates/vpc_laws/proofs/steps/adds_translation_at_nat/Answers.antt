use Rattle.vpc_laws.proofs.Growth.{step_adds_translation}
use Rattle.vpc_laws.proofs.steps.adds_translation_at_nat.Goals as goal

pub returns : goal.returns
returns c = step_adds_translation

use Rattle.vpc_laws.proofs.Walking.{left_translations_are_own}
use Rattle.vpc_laws.proofs.walks.remembers_own_translations.Goals as goal

pub returns : goal.returns
returns c = left_translations_are_own

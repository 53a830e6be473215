-- Cuts that are those of a definition.
use Rattle.vpc_base.specs.Cuts.{CutLists, AreAmong}

-- the cuts are those that are meant, whatever the order and the repeats
pub record HasCuts (meant cuts : CutLists) : Type 0 where
  pub no_others : AreAmong cuts meant
  pub all : AreAmong meant cuts

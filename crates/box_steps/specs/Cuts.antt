-- The cuts on which a step for a box may depend.
use Rattle.vpc_base.specs.Cuts.{AreAmong, CutLists}
use Rattle.vpc_laws.specs.Types.{Description, Place}
use Rattle.vpc_model.specs.Cuts.{cuts_at, standing_cuts}

-- what depends on no place: VPCs, interfaces, ACLs and appliances
abbrev pub Standing : Description → CutLists → Type 0
Standing d cuts = AreAmong (standing_cuts d) cuts

-- what depends on the rows that a place asks besides
abbrev pub AtPlace : Description → Place → CutLists → Type 0
AtPlace d p cuts = AreAmong (cuts_at d p) cuts

-- Where an address comes to be carried by the internet, or ceases to be, is cut in every network.
use Rattle.std.proofs.Common.{refl}
use Rattle.vpc_base.specs.Cuts.{CutLists}
use Rattle.vpc_model.specs.Cuts.{fixed_cuts}
use Rattle.vpc_model.specs.Internet.{is_unroutable, unroutable_blocks}
use Rattle.cut_laws.proofs.Turning.{blocks-divide}
use Rattle.cut_laws.specs.Dividing.{Divide, DivideTurns}

pub fixed-divide : (cuts : CutLists) → Divide fixed_cuts cuts → DivideTurns is_unroutable cuts
fixed-divide cuts divide = blocks-divide unroutable_blocks fixed_cuts cuts refl divide

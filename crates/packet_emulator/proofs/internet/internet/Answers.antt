use Rattle.std.proofs.Common.{◌∙◌, subst, sym}
use Rattle.fabric.proofs.Owners.{owner-lies}
use Rattle.vpc_model.specs.Accepted.{IsAccepted}
use Rattle.packet_emulator.proofs.internet.internet.Goals as goal

pub to_owner-requires : goal.to_owner-requires
to_owner-requires c =
    owner-lies c.args.f.now c.edges.result.now c.in-Some.v c.args.h.now.dst _ (subst IsAccepted c.network.ensures c.description.ensures.accepted) c.edges.ensures (sym c.in-Some.is ∙ c.in_addr.ensures)

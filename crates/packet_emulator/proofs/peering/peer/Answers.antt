use Rattle.std.proofs.Common.{◌∙◌, sym}
use Rattle.fabric.proofs.Peered.{can_carry}
use Rattle.packet_emulator.proofs.Edges.{peer-bad_destination, peer-bad_source, peer-carried, peer-told}
use Rattle.packet_emulator.proofs.peering.peer.Goals as goal

pub returns-in_default : goal.returns-in_default
returns-in_default c = absurd (peer-told c.args.f.now c.args.x c.args.v (can_carry c.args.f.now c.args.x c.args.v c.requires) (sym c.in_default.is ∙ c.far_vpc.ensures))

pub carries-requires : goal.carries-requires
carries-requires c = c.edges.ensures.carriers c.args.x c.args.v (can_carry c.args.f.now c.args.x c.args.v c.requires)

pub returns-in-BadSource : goal.returns-in-BadSource
returns-in-BadSource c =
    peer-bad_source c.args.f.now c.edges.result.now c.args.x c.args.v c.args.h.now (can_carry c.args.f.now c.args.x c.args.v c.requires) c.edges.ensures (sym c.in-BadSource.is ∙ c.carries.ensures)

pub returns-in-BadDestination : goal.returns-in-BadDestination
returns-in-BadDestination c =
    peer-bad_destination c.args.f.now c.edges.result.now c.args.x c.args.v c.args.h.now (can_carry c.args.f.now c.args.x c.args.v c.requires) c.edges.ensures (sym c.in-BadDestination.is ∙ c.carries.ensures)

pub returns-in-Yes : goal.returns-in-Yes
returns-in-Yes c =
    peer-carried c.args.f.now c.edges.result.now c.args.x c.args.v c.in-Some.other c.args.h.now (can_carry c.args.f.now c.args.x c.args.v c.requires) c.edges.ensures (sym c.in-Yes.is ∙ c.carries.ensures)
    (sym c.in-Some.is ∙ c.far_vpc.ensures)

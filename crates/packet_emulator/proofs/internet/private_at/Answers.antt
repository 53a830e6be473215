use Rattle.std.proofs.Common.{◌∙◌, subst, sym}
use Rattle.fabric.proofs.Owners.{private-none, private-other, private-own}
use Rattle.vpc_model.specs.Accepted.{IsAccepted}
use Rattle.packet_emulator.proofs.internet.private_at.Goals as goal

pub returns-then-owner-v : goal.returns-then-owner-v
returns-then-owner-v c =
    private-own c.args.f.now c.edges.result.now c.args.v c.in-Some.owner c.args.public c.in-Some.own c.edges.ensures (sym c.in-Some.is ∙ c.in_addr.ensures) c.if-owner-v.true

pub returns-else-owner-v : goal.returns-else-owner-v
returns-else-owner-v c =
    private-other c.args.f.now c.edges.result.now c.args.v c.in-Some.owner c.args.public c.in-Some.own (subst IsAccepted c.network.ensures c.description.ensures.accepted) c.requires c.edges.ensures (sym c.in-Some.is ∙ c.in_addr.ensures) c.if-owner-v.false

pub returns-in-None : goal.returns-in-None
returns-in-None c =
    private-none c.args.f.now c.edges.result.now c.args.v c.args.public (subst IsAccepted c.network.ensures c.description.ensures.accepted) c.requires c.edges.ensures (sym c.in-None.is ∙ c.in_addr.ensures)

use Rattle.std.proofs.Common.{ap, arith}
use Rattle.std.specs.Prelude.{is_some}
use Rattle.vpc_laws.proofs.Lengths.{accepted_has_short_lists}
use Rattle.vpc_laws.specs.Types.{Attachment}
use Rattle.transit_gateway.proofs.KeyLemmas.{name-numbered, number-short}
use Rattle.transit_gateway.proofs.gateways.gateway_of.Goals as goal

pub number-requires : goal.number-requires
number-requires c = ap is_some (name-numbered (λ (a : Attachment). a.gateway) c.args.n.now.attachments c.args.attachment.now c.args.gateways.now c.requires.gateways c.requires.listed)

pub overflow_cast-result : goal.overflow_cast-result
overflow_cast-result c =
    let short =
    number-short (λ (a : Attachment). a.gateway) c.args.n.now.attachments c.args.gateways.now c.args.attachment.now.gateway c.number.result c.requires.gateways
    (accepted_has_short_lists c.args.n.now c.description.ensures.accepted).attachments c.number.ensures in
    omega (arith, short)

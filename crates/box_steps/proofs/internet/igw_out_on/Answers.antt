use Rattle.std.proofs.Common.{◌∙◌, ap, subst, sym}
use Rattle.vpc_model.specs.Accepted.{IsAccepted}
use Rattle.vpc_model.specs.Appliances.{appliances_of}
use Rattle.vpc_model.specs.Lookup.{addresses_in}
use Rattle.vpc_model.specs.Sound.{is_sound}
use Rattle.box_steps.proofs.GatewayOutward.{sent_public, stopped_outward}
use Rattle.box_steps.proofs.Rewriting.{walk_of_kind}
use Rattle.box_steps.proofs.internet.igw_out_on.Goals as goal
use Rattle.box_steps.specs.Moments.{IsStepOn}
use Rattle.box_steps.specs.declared.onward.Onward.{Onward}

pub got_on-public-requires-clause-gateway : goal.got_on-public-requires-clause-gateway
got_on-public-requires-clause-gateway c = ap (is_sound c.args.f.now) (sym c.requires.place) ∙ c.requires.moment.1.sound

pub got_on-public-requires-clause-walk : goal.got_on-public-requires-clause-walk
got_on-public-requires-clause-walk c = walk_of_kind c.requires.moment.0 (addresses_in c.args.f.now) c.args.m.now.header c.requires.moment.1.kind

pub returns-in-Ok : goal.returns-in-Ok
returns-in-Ok c = λ label k.
    let d = c.args.f.now in
    let old = c.args.m.now in
    subst (λ (o : Onward). IsStepOn d (appliances_of d) label old c.send.new.m o) (sym c.send.ensures.told)
    (sent_public d (appliances_of d) label c.args.v old c.narrow.new.self c.send.new.m c.got_on-public.result c.in-Ok.a c.set_src-header.result
    (subst IsAccepted c.network.ensures c.description.ensures.accepted)
    c.requires.place k c.got_on-public.ensures c.in-Ok.is c.narrow.ensures c.set_src-header.ensures.image c.set_src-header.ensures.valid c.set_src-header.ensures.kind
    (record { place = c.send.ensures.place; header = c.send.ensures.header; conns = c.send.ensures.conns; nats = c.send.ensures.nats }))

pub returns-in-Err : goal.returns-in-Err
returns-in-Err c = λ label k.
    let d = c.args.f.now in
    stopped_outward d (appliances_of d) label c.args.v c.args.m.now c.narrow.new.self c.got_on-public.result c.in-Err.stop
    (subst IsAccepted c.network.ensures c.description.ensures.accepted) c.requires.place k c.got_on-public.ensures c.in-Err.is c.narrow.ensures

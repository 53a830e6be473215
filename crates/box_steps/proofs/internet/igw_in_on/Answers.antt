use Rattle.std.proofs.Common.{◌≡◌, ◌∙◌, None, Some, ap, is_some, subst, sym}
use Rattle.cut_laws.specs.Dividing.{CutOut}
use Rattle.edge_gateways.specs.Edges.{owner_in}
use Rattle.vpc_model.specs.Accepted.{IsAccepted}
use Rattle.vpc_model.specs.Appliances.{appliances_of}
use Rattle.vpc_model.specs.Lookup.{addresses_in}
use Rattle.box_steps.proofs.PairAnswers.{kind_narrowed, valid_narrowed}
use Rattle.box_steps.proofs.GatewayInward.{IsFree, dst_set, kind_set, sent_private, stopped_inward, told_own_has}
use Rattle.box_steps.proofs.Rewriting.{walk_of_kind}
use Rattle.box_steps.proofs.internet.igw_in_on.Goals as goal
use Rattle.box_steps.specs.Moments.{IsStepOn}
use Rattle.box_steps.specs.Publics.{own_in}
use Rattle.box_steps.specs.declared.onward.Onward.{Onward}

pub in_addr_on-owner-requires-clause-walk : goal.in_addr_on-owner-requires-clause-walk
in_addr_on-owner-requires-clause-walk c = walk_of_kind c.requires.moment.0 (addresses_in c.args.f.now) c.args.m.now.header c.requires.moment.1.kind

pub returns-in-None : goal.returns-in-None
returns-in-None c = λ label k.
    let d = c.args.f.now in
    let v = c.args.v in
    let old = c.args.m.now in
    let narrowed = c.narrow.new.self in
    let x = c.in_addr_on-owner.result in
    let header = c.set_dst-header.result in
    let answers = c.in_addr_on-owner.ensures in
    let within = answers.body.within in
    let own : own_in v x.told ≡ Some c.in-Some.own = sym c.own_in.ensures ∙ c.in-Some.is in
    let has = told_own_has d c.edges.result.now v (CutOut (λ public. is_some (owner_in c.edges.result.now public))) old.header x c.in-Some.own c.edges.ensures answers own in
    let free : IsFree d v (own_in v x.told) = subst (IsFree d v) (sym own) (sym c.blocked_at.ensures ∙ c.in-None.is) in
    subst (λ (o : Onward). IsStepOn d (appliances_of d) label old c.send-in-None.new.m o) (sym c.send-in-None.ensures.told)
    (sent_private d (appliances_of d) label c.edges.result.now v old narrowed c.send-in-None.new.m x header (subst IsAccepted c.network.ensures c.description.ensures.accepted) c.edges.ensures
    c.requires.place k answers free c.narrow.ensures (c.set_dst-header.ensures.image ∙ ap (dst_set narrowed.header) (sym own)) c.set_dst-header.ensures.valid
    (kind_set d label narrowed.header header c.in-Some.own has c.set_dst-header.ensures.kind (kind_narrowed d label x.body old narrowed k within c.narrow.ensures))
    (record { place = c.send-in-None.ensures.place; header = c.send-in-None.ensures.header; conns = c.send-in-None.ensures.conns; nats = c.send-in-None.ensures.nats }))

pub returns-in-Some-blocked_at : goal.returns-in-Some-blocked_at
returns-in-Some-blocked_at c = λ label k.
    let d = c.args.f.now in
    let v = c.args.v in
    let old = c.args.m.now in
    let x = c.in_addr_on-owner.result in
    let own : own_in v x.told ≡ Some c.in-Some.own = sym c.own_in.ensures ∙ c.in-Some.is in
    stopped_inward d (appliances_of d) label c.edges.result.now v old c.narrow.new.self x c.in-Some.own c.in-Some-blocked_at.stop (subst IsAccepted c.network.ensures c.description.ensures.accepted) c.edges.ensures
    c.requires.place k c.in_addr_on-owner.ensures own (sym c.blocked_at.ensures ∙ c.in-Some-blocked_at.is) c.narrow.ensures

pub returns-in_default : goal.returns-in_default
returns-in_default c = λ label k.
    let d = c.args.f.now in
    let v = c.args.v in
    let old = c.args.m.now in
    let narrowed = c.narrow.new.self in
    let x = c.in_addr_on-owner.result in
    let answers = c.in_addr_on-owner.ensures in
    let within = answers.body.within in
    let none : own_in v x.told ≡ None = sym c.own_in.ensures ∙ c.in_default.is in
    subst (λ (o : Onward). IsStepOn d (appliances_of d) label old c.send.new.m o) (sym c.send.ensures.told)
    (sent_private d (appliances_of d) label c.edges.result.now v old narrowed c.send.new.m x narrowed.header (subst IsAccepted c.network.ensures c.description.ensures.accepted) c.edges.ensures
    c.requires.place k answers (subst (IsFree d v) (sym none) tt) c.narrow.ensures (ap (dst_set narrowed.header) (sym none)) (valid_narrowed d label x.body old narrowed k within c.narrow.ensures)
    (kind_narrowed d label x.body old narrowed k within c.narrow.ensures)
    (record { place = c.send.ensures.place; header = c.send.ensures.header; conns = c.send.ensures.conns; nats = c.send.ensures.nats }))

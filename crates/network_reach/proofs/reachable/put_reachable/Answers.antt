use Rattle.std.proofs.Common.{◌≡◌, ◌∙◌, List, OnOk, codes, subst, ℕ}
use Rattle.vpc_model.specs.Appliances.{appliances_of}
use Rattle.network_reach.specs.Reachable.{packet_text, phase_text}
use Rattle.network_reach.proofs.ReachableLemmas.{printed_is, reachable_is, reply_hops_are_sound, request_hops_are_sound}
use Rattle.network_reach.proofs.reachable.put_reachable.Goals as goal

pub put_phase-requires-clause-hops : goal.put_phase-requires-clause-hops
put_phase-requires-clause-hops g c =
    request_hops_are_sound c.args.f.now c.network-n.result.now c.args.deciders.now.appliances c.args.query.now.start c.args.h.now c.as_slice.result.now
    c.description.ensures.accepted c.network-n.ensures c.requires.query.start (c.as_slice.ensures.value ∙ c.both.ensures.request)

pub put_phase-requires-2-clause-hops : goal.put_phase-requires-2-clause-hops
put_phase-requires-2-clause-hops g c =
    reply_hops_are_sound c.args.f.now c.network-n.result.now c.args.deciders.now.appliances (appliances_of c.args.f.now) c.args.query.now.start c.args.query.now.goal c.args.h.now c.as_slice-2.result.now
    c.description.ensures.accepted c.network-n.ensures c.requires.appliances c.requires.query.goal c.requires.through (c.as_slice-2.ensures.value ∙ c.both.ensures.reply)

pub returns : goal.returns
returns g c =
    let n = c.network-n.result.now in
    let whole = reachable_is c.args.f.now n c.args.deciders.now.appliances (appliances_of c.args.f.now) c.args.query.now.start c.args.query.now.goal c.args.h.now c.as_slice.result.now c.as_slice-2.result.now
    c.network-n.ensures c.requires.appliances c.requires.through (c.as_slice.ensures.value ∙ c.both.ensures.request) (c.as_slice-2.ensures.value ∙ c.both.ensures.reply) in
    subst (λ (t : List ℕ). OnOk c.put_phase-2.result (c.put_phase-2.new.out.items ≡ t))
    (printed_is c.args.out.now.items c.put_packet.new.out.items c.put_phase.new.out.items (packet_text c.args.h.now) (phase_text n (codes "request") c.as_slice.result.now c.args.query.now.goal)
    (phase_text n (codes "reply") c.as_slice-2.result.now c.args.query.now.start) _ c.in_ok-put_packet.ensures c.in_ok-put_phase.ensures whole)
    c.put_phase-2.ensures

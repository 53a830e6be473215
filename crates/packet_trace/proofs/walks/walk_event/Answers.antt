use Rattle.std.proofs.Common.{◌∙◌, ap, refl}
use Rattle.conn_tracking.specs.Tracked.{Tracked}
use Rattle.nat_gateway.specs.Book.{Book}
use Rattle.vpc_model.specs.Walk.{Walk, walk_of}
use Rattle.packet_trace.proofs.TraceLemmas.{end_is_well, hops_are_sound, walk_is_told, walk_of-event}
use Rattle.packet_trace.proofs.walks.walk_event.Goals as goal

pub returns-clause-outcome : goal.returns-clause-outcome
returns-clause-outcome g c =
    let is = walk_of-event c.args.f.now c.args.e.now c.args.deciders.now.appliances c.start_place.result c.new-conns.result.conns c.new-nats.result.entries
    c.requires.appliances c.start_place.ensures (ap (λ (x : Tracked). x.conns) c.new-conns.ensures) (ap (λ (x : Book). x.entries) c.new-nats.ensures) in
    c.walk.ensures.outcome ∙ ap (λ (w : Walk). w.outcome) is

pub returns-clause-hops : goal.returns-clause-hops
returns-clause-hops g c =
    let is = walk_of-event c.args.f.now c.args.e.now c.args.deciders.now.appliances c.start_place.result c.new-conns.result.conns c.new-nats.result.entries
    c.requires.appliances c.start_place.ensures (ap (λ (x : Tracked). x.conns) c.new-conns.ensures) (ap (λ (x : Book). x.entries) c.new-nats.ensures) in
    c.walk.ensures.hops ∙ ap (λ (w : Walk). w.hops) is

pub returns-clause-sound : goal.returns-clause-sound
returns-clause-sound g c =
    let d = c.args.f.now in
    let e = c.args.e.now in
    let w = walk_of d c.args.deciders.now.appliances e.label (record { place = c.start_place.result; header = e.header; conns = c.new-conns.result.conns; nats = c.new-nats.result.entries }) in
    let is = walk_of-event d e c.args.deciders.now.appliances c.start_place.result c.new-conns.result.conns c.new-nats.result.entries
    c.requires.appliances c.start_place.ensures (ap (λ (x : Tracked). x.conns) c.new-conns.ensures) (ap (λ (x : Book). x.entries) c.new-nats.ensures) in
    hops_are_sound d d w c.walk.new.hops.items refl c.walk.ensures.hops (walk_is_told d c.network.result.now e w is c.description.ensures.accepted c.network.ensures c.requires.start)

pub returns-clause-end : goal.returns-clause-end
returns-clause-end g c =
    let d = c.args.f.now in
    let e = c.args.e.now in
    let w = walk_of d c.args.deciders.now.appliances e.label (record { place = c.start_place.result; header = e.header; conns = c.new-conns.result.conns; nats = c.new-nats.result.entries }) in
    let is = walk_of-event d e c.args.deciders.now.appliances c.start_place.result c.new-conns.result.conns c.new-nats.result.entries
    c.requires.appliances c.start_place.ensures (ap (λ (x : Tracked). x.conns) c.new-conns.ensures) (ap (λ (x : Book). x.entries) c.new-nats.ensures) in
    end_is_well d d w c.walk.result refl c.walk.ensures.outcome (walk_is_told d c.network.result.now e w is c.description.ensures.accepted c.network.ensures c.requires.start)

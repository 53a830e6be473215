use Rattle.std.proofs.Common.{◌++◌, ◌∙◌, ◌∷◌, [], List, ap, map, refl, subst, sym}
use Rattle.box_images.specs.declared.images.Image.{Image}
use Rattle.vpc_base.specs.declared.headers.Label.TheVariants as labels
use Rattle.vpc_model.specs.Accepted.{IsAccepted}
use Rattle.vpc_model.specs.Appliances.{appliances_of}
use Rattle.vpc_model.specs.Lookup.{addresses_in}
use Rattle.box_steps.proofs.NatTables.{own_listed}
use Rattle.box_steps.proofs.NatOutward.{refused_at_nat, translated_step}
use Rattle.box_steps.proofs.nat.send_on.Goals as goal
use Rattle.box_steps.specs.Moments.{IsStepOn, nat_over}
use Rattle.box_steps.specs.declared.moment.BoxMoment.{BoxMoment}
use Rattle.box_steps.specs.declared.moment.ImageNat.{ImageNat}
use Rattle.box_steps.specs.declared.onward.Onward.{Onward}

pub returns-in-Some : goal.returns-in-Some
returns-in-Some c =
    let d = c.args.f.now in
    let n = c.args.n in
    let old = c.args.m.now in
    let after = c.in-Some.after in
    let accepted = subst IsAccepted c.network.ensures c.description.ensures.accepted in
    let rewritten = c.rewrite-next.ensures.moment in
    let listed = own_listed d n c.own_address.result old accepted c.requires.moment c.requires.place c.own_address.ensures in
    let new : BoxMoment = record { place = c.rewrite-next.new.self.place; header = c.rewrite-next.new.self.header; conns = c.rewrite-next.new.self.conns; nats = c.push.new.self } in
    subst (λ (o : Onward). IsStepOn d (appliances_of d) labels.Opening old new o) (sym c.rewrite-next.ensures.next)
    (translated_step d (appliances_of d) n c.own_address.result c.outward_on-sent.result after c.router_of.result old new accepted
    c.requires.place c.requires.moment c.requires.room.fresh c.own_address.ensures c.router_of.ensures
    c.outward_on-sent.ensures.answer c.in-Some.is (c.outward_on-sent.ensures.kind (addresses_in d) listed c.requires.moment.kind)
    (record {
      place = rewritten.place;
      header = rewritten.header;
      conns = rewritten.conns;
      nats = c.push.ensures.items
          ∙ ap (λ (ts : List ImageNat). ts ++ (let t : ImageNat = record { nat = n; before = c.within-before.result; after = after } in t) ∷ []) rewritten.nats
          ∙ ap (λ (b : Image). map (nat_over after.part) old.nats.items ++ (let t : ImageNat = record { nat = n; before = b; after = after } in t) ∷ []) c.within-before.ensures.image;
    }))

pub returns-in-None : goal.returns-in-None
returns-in-None c =
    let d = c.args.f.now in
    refused_at_nat d (appliances_of d) c.args.n c.own_address.result c.outward_on-sent.result _ c.args.m.now c.turn.new.self c.turn.result
    (subst IsAccepted c.network.ensures c.description.ensures.accepted) c.requires.place c.requires.moment c.outward_on-sent.ensures.answer c.in-None.is refl c.turn.ensures

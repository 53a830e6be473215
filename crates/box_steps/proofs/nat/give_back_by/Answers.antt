use Rattle.std.proofs.Common.{◌≡◌, IfSome, Option, refl, subst, sym}
use Rattle.box_images.specs.declared.images.Image.{Image}
use Rattle.header_boxes.specs.Boxes.{IsWithin}
use Rattle.header_boxes.specs.declared.boxes.Box5.{Box5}
use Rattle.vpc_base.specs.declared.headers.Label.TheVariants as labels
use Rattle.vpc_model.specs.Accepted.{IsAccepted}
use Rattle.vpc_model.specs.Appliances.{appliances_of}
use Rattle.vpc_model.specs.Lookup.{addresses_in}
use Rattle.box_steps.proofs.NatInward.{answer-and-translated, found-translated, given_back, not_given_back}
use Rattle.box_steps.proofs.nat.give_back_by.Goals as goal
use Rattle.box_steps.specs.Moments.{IsStepOn}
use Rattle.box_steps.specs.declared.onward.Onward.{Onward}

pub inward_on-back-requires-clause-valid_before : goal.inward_on-back-requires-clause-valid_before
inward_on-back-requires-clause-valid_before c = (found-translated c.args.f.now labels.Answer c.args.n c.args.t.now c.args.m.now c.requires.moment c.requires.found).origin.valid

pub inward_on-back-requires-clause-valid_after : goal.inward_on-back-requires-clause-valid_after
inward_on-back-requires-clause-valid_after c = (found-translated c.args.f.now labels.Answer c.args.n c.args.t.now c.args.m.now c.requires.moment c.requires.found).sent.valid

pub inward_on-back-requires-clause-part_before : goal.inward_on-back-requires-clause-part_before
inward_on-back-requires-clause-part_before c = (found-translated c.args.f.now labels.Answer c.args.n c.args.t.now c.args.m.now c.requires.moment c.requires.found).origin.over

pub inward_on-back-requires-clause-part_after : goal.inward_on-back-requires-clause-part_after
inward_on-back-requires-clause-part_after c = (found-translated c.args.f.now labels.Answer c.args.n c.args.t.now c.args.m.now c.requires.moment c.requires.found).sent.over

pub inward_on-back-requires-clause-kinds : goal.inward_on-back-requires-clause-kinds
inward_on-back-requires-clause-kinds c =
    (addresses_in c.args.f.now, answer-and-translated c.args.f.now c.args.n c.args.t.now c.args.m.now c.requires.moment c.requires.found)

pub rewrite-requires-clause-within : goal.rewrite-requires-clause-within
rewrite-requires-clause-within c =
    let kinds = answer-and-translated c.args.f.now c.args.n c.args.t.now c.args.m.now c.requires.moment c.requires.found in
    let k = c.inward_on-back.ensures.answer (addresses_in c.args.f.now) c.args.n kinds in
    let over : c.in-Some.header.part ≡ c.inward_on-back.result.body = subst (λ (o : Option Image). IfSome o (λ (i : Image). i.part ≡ c.inward_on-back.result.body)) c.in-Some.is k.over in
    subst (λ (b : Box5). IsWithin b c.args.m.now.header.part) (sym over) k.body.within

pub turn-requires-clause-within : goal.turn-requires-clause-within
turn-requires-clause-within c =
    let kinds = answer-and-translated c.args.f.now c.args.n c.args.t.now c.args.m.now c.requires.moment c.requires.found in
    (c.inward_on-back.ensures.answer (addresses_in c.args.f.now) c.args.n kinds).body.within

pub returns-in-Some : goal.returns-in-Some
returns-in-Some c =
    let d = c.args.f.now in
    let old = c.args.m.now in
    let kinds = answer-and-translated d c.args.n c.args.t.now old c.requires.moment c.requires.found in
    subst (λ (o : Onward). IsStepOn d (appliances_of d) labels.Answer old c.rewrite.new.self o) (sym c.rewrite.ensures.next)
    (given_back d (appliances_of d) c.args.n c.args.t.now c.inward_on-back.result c.in-Some.header c.router_of.result old c.rewrite.new.self
    (subst IsAccepted c.network.ensures c.description.ensures.accepted) c.requires.place c.requires.moment c.requires.found c.router_of.ensures
    (c.inward_on-back.ensures.answer (addresses_in d) c.args.n kinds) c.in-Some.is (c.inward_on-back.ensures.kind (addresses_in d) kinds) c.rewrite.ensures.moment)

pub returns-in-None : goal.returns-in-None
returns-in-None c =
    let d = c.args.f.now in
    let kinds = answer-and-translated d c.args.n c.args.t.now c.args.m.now c.requires.moment c.requires.found in
    not_given_back d (appliances_of d) c.args.n c.args.t.now c.inward_on-back.result _ c.args.m.now c.turn.new.self c.turn.result
    (subst IsAccepted c.network.ensures c.description.ensures.accepted) c.requires.place c.requires.moment c.requires.found
    (c.inward_on-back.ensures.answer (addresses_in d) c.args.n kinds) c.in-None.is refl c.turn.ensures

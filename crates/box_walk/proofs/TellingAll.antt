-- What is told of the packets of a moment, by what is told of those of a body.
use Rattle.std.proofs.Common.{◌≡◌, ◌∙◌, Option, subst, sym, true}
use Rattle.box_images.proofs.BodyLemmas.{body_through}
use Rattle.box_images.specs.Terms.{Answers}
use Rattle.box_images.specs.declared.images.Part.{Part}
use Rattle.box_steps.specs.Terms.{Standing, moment_at}
use Rattle.box_steps.specs.declared.moment.BoxMoment.{BoxMoment}
use Rattle.cut_laws.proofs.Lemmas.{addresses_are_standing, among_through, places_have_their_cuts}
use Rattle.cut_laws.specs.Dividing.{DivideAddresses}
use Rattle.header_boxes.proofs.Lemmas.{aligned_through, within_holds}
use Rattle.header_boxes.specs.Terms.{holds, low_of}
use Rattle.vpc_base.specs.Terms.{AreAmong, CutLists}
use Rattle.vpc_laws.specs.Types.{Box5, Description, Header, Label, Phase, Stop}
use Rattle.vpc_model.specs.Terms.{Appliances, Moment, addresses_in, cuts_at, cuts_of_hops, standing_cuts, walk_of}
use Rattle.box_walk.proofs.Rests.{start_among}
use Rattle.box_walk.specs.Terms.{Ending, IsWalkOn, Tells}

-- ---- whatever is asked

-- one word of all packets of a body on which something was answered
pub tells_by : {T : Type 0} (enough asked_enough : CutLists → Type 0) (asked : Header → T) (word : Header → Option (Phase × Stop)) (old new : BoxMoment) (x : Part T) (told : Option (Phase × Stop))
    → ((cuts : CutLists) → enough cuts → asked_enough cuts) → new.header.part ≡ x.body
    → ((h : Header) → x.told ≡ asked h → told ≡ word h) → Answers asked_enough asked old.header.part x → Tells enough word old new told
tells_by {T} enough asked_enough asked word old new x told more over leads k = subst (λ (b : Box5). Answers enough word old.header.part (record { body = b; told = told })) (sym over) (record {
  told = λ h inside. leads h (k.told h inside);
  body = k.body;
  aligned = λ cuts d. k.aligned cuts (more cuts d);
})

-- what is told of the packets of a body, to which the walks of all its headers led
pub tells_after : (d : Description) (appliances : Appliances) (label : Label) (enough rest_enough : CutLists → Type 0) (word rest_word : Header → Option (Phase × Stop)) (old mid new : BoxMoment) (ending : Ending) (told : Option (Phase × Stop))
    → IsWalkOn d appliances label old mid ending
    → ((cuts : CutLists) → enough cuts → (let w = walk_of d appliances label (moment_at (low_of old.header.part) old) in AreAmong (cuts_of_hops d w.hops) cuts) × rest_enough cuts)
    → ((h : Header) → holds h mid.header.part ≡ true → word h ≡ rest_word h)
    → Tells rest_enough rest_word mid new told → Tells enough word old new told
tells_after d appliances label enough rest_enough word rest_word old mid new ending told w more same k = record {
  told = λ h inside. k.told h inside ∙ sym (same h (within_holds new.header.part mid.header.part h k.body.within inside));
  body = body_through new.header.part mid.header.part old.header.part k.body w.body;
  aligned = λ cuts e. aligned_through cuts new.header.part mid.header.part old.header.part (k.aligned cuts (more cuts e).1) (w.aligned cuts (more cuts e).0);
}

-- ---- cuts

-- the standing cuts are among those at the places of a walk
pub standing_among : (d : Description) (appliances : Appliances) (label : Label) (m : Moment) → let w = walk_of d appliances label m in AreAmong (standing_cuts d) (cuts_of_hops d w.hops)
standing_among d appliances label m =
    let w = walk_of d appliances label m in
    among_through (standing_cuts d) (cuts_at d m.place) (cuts_of_hops d w.hops) ((places_have_their_cuts d m.place).standing) (start_among d appliances label m)

-- the standing cuts divide enough for addresses
pub addresses_divided : (d : Description) (cuts : CutLists) → Standing d cuts → DivideAddresses (addresses_in d) cuts
addresses_divided d cuts k = among_through _ (standing_cuts d) cuts (addresses_are_standing d) k

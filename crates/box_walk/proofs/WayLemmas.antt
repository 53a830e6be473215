-- Requests that have come to the goal's interface by the same places.
use Rattle.std.proofs.Common.{IfSome, List, None, Option, Some, [], false, length, refl, subst, sym, ℕ, ◌++◌, ◌+◌, ◌<◌, ◌∙◌, ◌∷◌, ◌≡◌, ◌≤◌}
use Rattle.vpc_base.specs.declared.headers.Label.TheVariants as labels
use Rattle.header_boxes.proofs.Lemmas.{aligned_to_itself, within_holds}
use Rattle.box_images.proofs.BodyLemmas.{body_of_itself, body_through}
use Rattle.box_steps.specs.Moments.{IsBoxMoment, IsStepOn, moment_at}
use Rattle.box_steps.specs.declared.moment.BoxMoment.{BoxMoment}
use Rattle.box_steps.specs.declared.onward.Onward.TheVariants as onwards
use Rattle.vpc_laws.proofs.Walking.{hop_at}
use Rattle.vpc_laws.specs.Types.{Description, End, EniNo, Place}
use Rattle.vpc_model.specs.Terms.{Appliances, Moment, walk_of}
use Rattle.vpc_model.specs.declared.places.Place.TheVariants as places
use Rattle.box_walk.proofs.OneRest.{pushed_at}
use Rattle.box_walk.proofs.Remembering.{has_room}
use Rattle.box_walk.proofs.Rests.{rest_aligned, rest_of-goes_on}
use Rattle.box_walk.specs.Terms.{AreRequests, GoesOn, HaveCome, HaveComeTo, IsFollowedTo, IsLeftAt, is_among}

pub followed_here : (d : Description) (a : Appliances) (i : EniNo) (n : ℕ) (passed : List Place) (m : BoxMoment) → m.place ≡ places.Into i → IsBoxMoment d labels.Opening m
    → IsLeftAt labels.Opening passed m → is_among passed m.place ≡ false → 0 < n → length passed + n ≤ 64 → IsFollowedTo d a i n passed m m
followed_here d a i n passed m here moment was fresh some few = record {
  left = n;
  passed = passed;
  walk = λ h inside hops at. (hops, (at, refl));
  body = body_of_itself m.header.part moment.valid.part;
  aligned = λ cuts hops at among. aligned_to_itself cuts m.header.part;
  place = here;
  moment = moment;
  room = has_room labels.Opening passed n m was fresh some few;
  fresh = fresh;
  some = some;
}

pub followed_on : (d : Description) (a : Appliances) (i : EniNo) (n k : ℕ) (passed longer : List Place) (old mid new : BoxMoment) (p : Place)
    → n ≡ k + 1 → is_among passed old.place ≡ false → IsStepOn d a labels.Opening old mid (onwards.Go p) → longer ≡ passed ++ old.place ∷ []
    → IsFollowedTo d a i k longer mid new → IsFollowedTo d a i n passed old new
followed_on d a i n k passed longer old mid new p one fresh step are rest = record {
  left = rest.left;
  passed = rest.passed;
  walk = λ h inside hops at.
      let m = moment_at h old in
      let on = rest.walk h inside (hops ++ hop_at d a labels.Opening m ∷ []) (pushed_at d a labels.Opening hops passed m at ∙ sym are) in
      (on.0, (on.1.0, rest_of-goes_on d a labels.Opening n k passed old mid p h hops one fresh step (within_holds new.header.part mid.header.part h rest.body.within inside) at ∙ on.1.1));
  body = body_through new.header.part mid.header.part old.header.part rest.body step.body;
  aligned = rest_aligned d a labels.Opening n k passed longer old mid new.header.part p one fresh step are rest.aligned;
  place = rest.place;
  moment = rest.moment;
  room = rest.room;
  fresh = rest.fresh;
  some = rest.some;
}

pub followed_on_if : (d : Description) (a : Appliances) (found : Option EniNo) (n k : ℕ) (passed longer : List Place) (old mid new : BoxMoment) (p : Place)
    → n ≡ k + 1 → is_among passed old.place ≡ false → IsStepOn d a labels.Opening old mid (onwards.Go p) → longer ≡ passed ++ old.place ∷ []
    → IfSome found (λ i. IsFollowedTo d a i k longer mid new) → IfSome found (λ i. IsFollowedTo d a i n passed old new)
followed_on_if d a None n k passed longer old mid new p one fresh step are rest = tt
followed_on_if d a (Some i) n k passed longer old mid new p one fresh step are rest = followed_on d a i n k passed longer old mid new p one fresh step are rest

-- from the start
have_come : (d : Description) (a : Appliances) (start : End) (i : EniNo) (visited : List Place) (old new : BoxMoment) → visited ≡ [] → AreRequests start old
    → IsFollowedTo d a i 64 visited old new → HaveComeTo d a start old new i
have_come d a start i visited old new none requests k = record {
  come = come;
  place = k.place;
  body = k.body;
  aligned = λ cuts among. k.aligned cuts [] (sym none) among;
}
  where
    come : HaveCome d a start new
    come = record {
      left = k.left;
      passed = k.passed;
      walk = λ h inside. subst (λ (m : Moment). GoesOn d a k.left k.passed h new (walk_of d a labels.Opening m)) (requests h) (k.walk h inside [] (sym none));
      moment = k.moment;
      room = k.room;
      fresh = k.fresh;
      some = k.some;
    }

pub have_come_if : (d : Description) (a : Appliances) (start : End) (found : Option EniNo) (visited : List Place) (old new : BoxMoment) → visited ≡ [] → AreRequests start old
    → IfSome found (λ i. IsFollowedTo d a i 64 visited old new) → IfSome found (HaveComeTo d a start old new)
have_come_if d a start None visited old new none requests k = tt
have_come_if d a start (Some i) visited old new none requests k = have_come d a start i visited old new none requests k

-- What becomes of requests that have come to an interface goes by what it lets in.
use Rattle.std.proofs.Common.{Bool, List, None, Option, Some, [], ap, cond, false, refl, subst, sym, true, ◌++◌, ◌-◌, ◌∙◌, ◌∷◌, ◌≡◌}
use Rattle.vpc_base.specs.declared.headers.Label.TheVariants as labels
use Rattle.header_boxes.proofs.BoxLaws.{within_holds}
use Rattle.header_boxes.specs.Boxes.{IsWithin, holds}
use Rattle.appliances.specs.Passing.{number_of}
use Rattle.box_images.specs.Images.{header_at}
use Rattle.box_images.specs.declared.images.Image.{Image}
use Rattle.box_steps.specs.Terms.{IsLetIn, moment_at}
use Rattle.box_steps.specs.declared.moment.BoxMoment.{BoxMoment}
use Rattle.vpc_laws.proofs.Walking.{hop_at}
use Rattle.vpc_laws.specs.Types.{Description, End, EniNo, Header, Hop, Outcome, Phase, Place, Stop}
use Rattle.vpc_model.specs.Terms.{Appliances, Homes, Moment, Next, Walk, arrive, ended, is_sound, request_walk, same_end, step_of, walk_on}
use Rattle.vpc_model.specs.declared.outcomes.Outcome.TheVariants as outcomes
use Rattle.vpc_model.specs.declared.places.End.TheVariants as ends
use Rattle.vpc_model.specs.declared.places.Place.TheVariants as places
use Rattle.box_walk.proofs.JourneyLemmas.{journey-arrived, open-among}
use Rattle.box_walk.proofs.Telling.{verdict_at-arrival}
use Rattle.box_walk.specs.Terms.{AreArrivals, AreRequests, Arrivals, DivideArrival, HaveCome, HaveComeTo, IsWalkTo, Tells, end_unless, journey_after, lets_in, reached_end, reached_of, toward, word_of_arrival}
use Rattle.box_walk.specs.declared.walks.Ending.TheVariants as endings
use Rattle.box_walk.proofs.ComingInto.{into-arrives, into-stops, walk_comes}

-- ---- what becomes of it

reached-unless : (e : EniNo) (back : Option (Phase × Stop)) → reached_end (toward (ends.Interface e) back) ≡ end_unless e back
reached-unless e None = refl
reached-unless e (Some told) = refl

-- let in
reached-in : (d : Description) (a : Appliances) (homes : Homes) (e : EniNo) (h : Header) (before arrived new : BoxMoment) (back : Option (Phase × Stop)) (c : HaveCome d a homes.start before)
    → before.place ≡ places.Into e → None ≡ number_of a e → same_end (ends.Interface e) homes.start ≡ false → IsLetIn d a before arrived
    → holds h before.header.part ≡ true → back ≡ word_of_arrival d a homes (ends.Interface e) (ends.Interface e) arrived h → lets_in d e (header_at before.header h) ≡ true
    → reached_of d a homes None h ≡ end_unless e back
reached-in d a homes e h before arrived new back c at none apart let_in held told lets =
    ap reached_end (journey-arrived d a homes end h (header_at arrived.header h) apart led.outcome)
    ∙ ap (λ (o : Option (Phase × Stop)). reached_end (toward end o)) (verdict_at-arrival d a homes end end arrived h (request_walk d a homes.start h) led ∙ sym told)
    ∙ reached-unless e back
  where
    end : End
    end = ends.Interface e

    m : Moment
    m = moment_at h before

    next : (step_of d a labels.Opening m).next ≡ arrive end
    next = into-arrives d a e m at none lets

    comes : (hops : List Hop) × (request_walk d a homes.start h ≡ (let s = step_of d a labels.Opening m in walk_on d a labels.Opening (c.left - 1) (hops ++ hop_at d a labels.Opening m ∷ []) m.header s.next s.conns s.nats))
    comes = walk_comes d a homes.start h before c held

    is : request_walk d a homes.start h ≡ (let s = step_of d a labels.Opening m in ended (comes.0 ++ hop_at d a labels.Opening m ∷ []) (outcomes.Arrived end m.header) s.conns s.nats)
    is =
        let s = step_of d a labels.Opening m in
        comes.1 ∙ ap (λ (x : Next). walk_on d a labels.Opening (c.left - 1) (comes.0 ++ hop_at d a labels.Opening m ∷ []) m.header x s.conns s.nats) next

    led : IsWalkTo (request_walk d a homes.start h) h arrived (endings.Arrived end)
    led = subst (λ (w : Walk). IsWalkTo w h arrived (endings.Arrived end)) (sym is) (record {
      outcome = ap (λ (i : Image). outcomes.Arrived end (header_at i h)) (sym let_in.header);
      conns = let_in.conns h end next;
      nats = let_in.nats h end next;
    })

-- kept out
reached-out : (d : Description) (a : Appliances) (homes : Homes) (e : EniNo) (h : Header) (before : BoxMoment) (c : HaveCome d a homes.start before)
    → before.place ≡ places.Into e → holds h before.header.part ≡ true → lets_in d e (header_at before.header h) ≡ false
    → reached_of d a homes None h ≡ None
reached-out d a homes e h before c at held lets =
    let m = moment_at h before in
    let s = step_of d a labels.Opening m in
    let stopped = into-stops d a e m at lets in
    let comes = walk_comes d a homes.start h before c held in
    let is : request_walk d a homes.start h ≡ ended (comes.0 ++ hop_at d a labels.Opening m ∷ []) (outcomes.Stopped stopped.0) s.conns s.nats
    = comes.1 ∙ ap (λ (x : Next). walk_on d a labels.Opening (c.left - 1) (comes.0 ++ hop_at d a labels.Opening m ∷ []) m.header x s.conns s.nats) stopped.1 in
    ap (λ (o : Outcome). reached_end (journey_after d a homes h (request_walk d a homes.start h) o)) (ap (λ (w : Walk). w.outcome) is)

-- ---- of all requests of a moment

pub are_arrivals : (d : Description) (a : Appliances) (homes : Homes) (e : EniNo) (old before arrived new : BoxMoment) (back : Option (Phase × Stop)) (x : Arrivals)
    → AreRequests homes.start old → HaveComeTo d a homes.start old before e → None ≡ number_of a e → same_end (ends.Interface e) homes.start ≡ false → IsLetIn d a before arrived
    → Tells (DivideArrival d a (ends.Interface e) (ends.Interface e) arrived) (word_of_arrival d a homes (ends.Interface e) (ends.Interface e) arrived) arrived new back
    → IsWithin before.header.part new.header.part → x ≡ record { header = before.header; end = e; back = back }
    → AreArrivals d a homes old.header.part x
are_arrivals d a homes e old before arrived new back x requests k none apart let_in tells whole is =
    subst (AreArrivals d a homes old.header.part) (sym is) (record {
      reached = λ h inside. by h inside (lets_in d e (header_at before.header h)) refl;
      end = subst (λ (p : Place). is_sound d p ≡ true) k.place k.come.moment.sound;
      valid = k.come.moment.valid;
      body = k.body;
      aligned = λ cuts among. k.aligned cuts (open-among d a homes.start old requests cuts among);
    })
  where
    by : (h : Header) → holds h before.header.part ≡ true → (b : Bool) → lets_in d e (header_at before.header h) ≡ b
        → reached_of d a homes None h ≡ cond (lets_in d e (header_at before.header h)) (end_unless e back) None
    by h inside true lets =
        reached-in d a homes e h before arrived new back k.come k.place none apart let_in inside (tells.told h (within_holds before.header.part new.header.part h whole inside)) lets
        ∙ sym (ap (λ (b : Bool). cond b (end_unless e back) None) lets)
    by h inside false lets = reached-out d a homes e h before k.come k.place inside lets ∙ sym (ap (λ (b : Bool). cond b (end_unless e back) None) lets)

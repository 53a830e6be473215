-- The rest of all walks by its first step.
use Rattle.std.proofs.Common.{List, [], ap, false, refl, subst, sym, true, ℕ, ◌++◌, ◌+◌, ◌∙◌, ◌∷◌, ◌≡◌}
use Rattle.box_images.proofs.Lemmas.{body_through, valid_over_body}
use Rattle.box_walk.specs.Terms.{Ending, IsBoxMoment, IsRestOn, IsStepOn, IsWalkOn, IsWalkTo, connections_at, header_at, image_over, is_among, moment_at, next_at, rest_of, translations_at}
use Rattle.box_steps.proofs.Narrowing.{kind-over}
use Rattle.box_steps.specs.declared.moment.BoxMoment.{BoxMoment}
use Rattle.box_steps.specs.declared.onward.Onward.{Onward}
use Rattle.box_steps.specs.declared.onward.Onward.TheVariants as onwards
use Rattle.box_walk.specs.declared.walks.Ending.TheVariants as endings
use Rattle.cut_laws.proofs.Among.{among_through}
use Rattle.header_boxes.proofs.Lemmas.{aligned_through, holds_low, valid_if_within, within_holds}
use Rattle.header_boxes.specs.Terms.{IsAligned, holds, low_of}
use Rattle.vpc_base.specs.Cuts.{AreAmong, CutLists}
use Rattle.vpc_laws.proofs.Walking.{hop_at, walk_on-goes_far, walk_on-loops}
use Rattle.vpc_laws.specs.Types.{Box5, Description, End, Header, Hop, Label, Place, Stop}
use Rattle.vpc_laws.specs.Walk.{places_of}
use Rattle.vpc_model.specs.Terms.{Appliances, Moment, Walk, addresses_in, arrive, cuts_at, cuts_of_hops, is_visited, walk_of, walk_on}
use Rattle.vpc_model.specs.declared.outcomes.Outcome.TheVariants as outcomes
use Rattle.vpc_model.specs.declared.stops.Stop.TheVariants as stops
use Rattle.box_walk.proofs.OneRest.{first_among, is_visited-at, pushed_at, rest_of-step, walk_on-last}

-- an aligned step
step_aligned : (d : Description) (a : Appliances) (label : Label) (left n : ℕ) (places : List Place) (old mid : BoxMoment) (onward : Onward)
    → left ≡ n + 1 → is_among places old.place ≡ false → IsStepOn d a label old mid onward → (cuts : CutLists) (hops : List Hop) → places_of hops ≡ places
    → AreAmong (cuts_of_hops d (rest_of d a label left hops (moment_at (low_of old.header.part) old)).hops) cuts → IsAligned cuts mid.header.part old.header.part
step_aligned d a label left n places old mid onward one new step cuts hops at among =
    let m = moment_at (low_of old.header.part) old in
    let w = rest_of d a label left hops m in
    step.aligned cuts (among_through (cuts_at d old.place) (cuts_of_hops d w.hops) cuts (first_among d a label left n hops m one (is_visited-at hops places old.place false at new)) among)

-- the rest ends with the step
pub rest_ends : (d : Description) (a : Appliances) (label : Label) (left n : ℕ) (places : List Place) (old mid : BoxMoment) (onward : Onward) (ending : Ending)
    → left ≡ n + 1 → is_among places old.place ≡ false → IsStepOn d a label old mid onward
    → ((h : Header) (hops : List Hop) → places_of hops ≡ places ++ old.place ∷ []
    → IsWalkTo (walk_on d a label n hops (header_at old.header h) (next_at h mid onward) (connections_at h mid.conns.items) (translations_at h mid.nats.items)) h mid ending)
    → IsRestOn d a label left places old mid ending
rest_ends d a label left n places old mid onward ending one new step ends = record {
  walk = λ h inside hops at.
      let m = moment_at h old in
      let s = step.step h inside in
      subst (λ (w : Walk). IsWalkTo w h mid ending)
      (sym (rest_of-step d a label left n hops m (next_at h mid onward) (connections_at h mid.conns.items) (translations_at h mid.nats.items) one (is_visited-at hops places old.place false at new) s.next s.conns s.nats))
      (ends h (hops ++ hop_at d a label m ∷ []) (pushed_at d a label hops places m at));
  body = step.body;
  aligned = step_aligned d a label left n places old mid onward one new step;
  moment = step.moment;
}

pub rest_stops : (d : Description) (a : Appliances) (label : Label) (left n : ℕ) (places : List Place) (old mid : BoxMoment) (s : Stop)
    → left ≡ n + 1 → is_among places old.place ≡ false → IsStepOn d a label old mid (onwards.Stop s) → IsRestOn d a label left places old mid (endings.Stopped s)
rest_stops d a label left n places old mid s one new step =
    rest_ends d a label left n places old mid (onwards.Stop s) (endings.Stopped s) one new step (λ h hops at. record { outcome = refl; conns = refl; nats = refl })

-- at a place that was visited
pub rest_loops : (d : Description) (a : Appliances) (label : Label) (left n : ℕ) (places : List Place) (old mid : BoxMoment) (p : Place)
    → left ≡ n + 1 → is_among places old.place ≡ false → IsStepOn d a label old mid (onwards.Go p) → is_among (places ++ old.place ∷ []) p ≡ true
    → IsRestOn d a label left places old mid (endings.Stopped (stops.Loop p))
rest_loops d a label left n places old mid p one new step there =
    rest_ends d a label left n places old mid (onwards.Go p) (endings.Stopped (stops.Loop p)) one new step
    (λ h hops at. subst (λ (w : Walk). IsWalkTo w h mid (endings.Stopped (stops.Loop p)))
    (sym (walk_on-loops d a label n hops (header_at old.header h) (moment_at h mid) (ap (is_visited hops) step.place ∙ is_visited-at hops (places ++ old.place ∷ []) p true at there)))
    (record { outcome = ap (λ (q : Place). outcomes.Stopped (stops.Loop q)) step.place; conns = refl; nats = refl }))

-- at a place too many
pub rest_goes_far : (d : Description) (a : Appliances) (label : Label) (left : ℕ) (places : List Place) (old mid : BoxMoment) (p : Place)
    → left ≡ 1 → is_among places old.place ≡ false → IsStepOn d a label old mid (onwards.Go p) → is_among (places ++ old.place ∷ []) p ≡ false
    → IsRestOn d a label left places old mid (endings.Stopped (stops.TooFar p))
rest_goes_far d a label left places old mid p one new step next =
    rest_ends d a label left 0 places old mid (onwards.Go p) (endings.Stopped (stops.TooFar p)) one new step
    (λ h hops at. subst (λ (w : Walk). IsWalkTo w h mid (endings.Stopped (stops.TooFar p)))
    (sym (walk_on-goes_far d a label hops (header_at old.header h) (moment_at h mid) (ap (is_visited hops) step.place ∙ is_visited-at hops (places ++ old.place ∷ []) p false at next)))
    (record { outcome = ap (λ (q : Place). outcomes.Stopped (stops.TooFar q)) step.place; conns = refl; nats = refl }))

-- at an end, with the header that came to the last place
pub rest_arrives : (d : Description) (a : Appliances) (label : Label) (left n : ℕ) (places : List Place) (old mid new : BoxMoment) (end : End)
    → left ≡ n + 1 → is_among places old.place ≡ false → IsBoxMoment d label old → IsStepOn d a label old mid (onwards.Arrive end)
    → new ≡ record mid { header = image_over mid.header.part old.header }
    → IsRestOn d a label left places old new (endings.Arrived end)
rest_arrives d a label left n places old mid new end one fresh from step is =
    subst (λ (m : BoxMoment). IsRestOn d a label left places old m (endings.Arrived end)) (sym is) (record {
      walk = λ h inside hops at.
          let m = moment_at h old in
          let s = step.step h inside in
          subst (λ (w : Walk). IsWalkTo w h (record mid { header = image_over mid.header.part old.header }) (endings.Arrived end))
          (sym (rest_of-step d a label left n hops m (arrive end) (connections_at h mid.conns.items) (translations_at h mid.nats.items) one (is_visited-at hops places old.place false at fresh) s.next s.conns s.nats))
          (record { outcome = refl; conns = refl; nats = refl });
      body = step.body;
      aligned = step_aligned d a label left n places old mid (onwards.Arrive end) one fresh step;
      moment = record {
        sound = step.moment.sound;
        valid = valid_over_body old.header mid.header.part step.body.within from.valid;
        kind = kind-over label (addresses_in d) mid.header.part old.header step.body.within from.kind;
        conns = step.moment.conns;
        nats = step.moment.nats;
        apart = step.moment.apart;
      };
    })

-- the rest by the rest after its first step
pub rest_of-goes_on : (d : Description) (a : Appliances) (label : Label) (left n : ℕ) (places : List Place) (old mid : BoxMoment) (p : Place) (h : Header) (hops : List Hop)
    → left ≡ n + 1 → is_among places old.place ≡ false → IsStepOn d a label old mid (onwards.Go p) → holds h mid.header.part ≡ true → places_of hops ≡ places
    → rest_of d a label left hops (moment_at h old) ≡ rest_of d a label n (hops ++ hop_at d a label (moment_at h old) ∷ []) (moment_at h mid)
rest_of-goes_on d a label left n places old mid p h hops one fresh step inside at =
    let m = moment_at h old in
    let s = step.step h inside in
    rest_of-step d a label left n hops m (next_at h mid (onwards.Go p)) (connections_at h mid.conns.items) (translations_at h mid.nats.items) one (is_visited-at hops places old.place false at fresh) s.next s.conns s.nats
    ∙ walk_on-last d a label n (hops ++ hop_at d a label m ∷ []) m.header (header_at mid.header h) (header_at mid.header h) mid.place (connections_at h mid.conns.items) (translations_at h mid.nats.items)

-- what is aligned after the first step is aligned
pub rest_aligned : (d : Description) (a : Appliances) (label : Label) (left n : ℕ) (places longer : List Place) (old mid : BoxMoment) (body : Box5) (p : Place)
    → left ≡ n + 1 → is_among places old.place ≡ false → IsStepOn d a label old mid (onwards.Go p) → longer ≡ places ++ old.place ∷ []
    → ((cuts : CutLists) (hops : List Hop) → places_of hops ≡ longer
    → AreAmong (cuts_of_hops d (rest_of d a label n hops (moment_at (low_of mid.header.part) mid)).hops) cuts → IsAligned cuts body mid.header.part)
    → (cuts : CutLists) (hops : List Hop) → places_of hops ≡ places
    → AreAmong (cuts_of_hops d (rest_of d a label left hops (moment_at (low_of old.header.part) old)).hops) cuts → IsAligned cuts body old.header.part
rest_aligned d a label left n places longer old mid body p one fresh step are aligned cuts hops at among =
    let low = low_of old.header.part in
    let low_inside = subst (λ (g : Header). holds g mid.header.part ≡ true) step.body.low (holds_low mid.header.part (valid_if_within mid.header.part old.header.part step.body.within)) in
    let longer_hops = hops ++ hop_at d a label (moment_at low old) ∷ [] in
    aligned_through cuts body mid.header.part old.header.part
    (aligned cuts longer_hops (pushed_at d a label hops places (moment_at low old) at ∙ sym are)
    (subst (λ (g : Header). AreAmong (cuts_of_hops d (rest_of d a label n longer_hops (moment_at g mid)).hops) cuts) (sym step.body.low)
    (subst (λ (w : Walk). AreAmong (cuts_of_hops d w.hops) cuts) (rest_of-goes_on d a label left n places old mid p low hops one fresh step low_inside at) among)))
    (step_aligned d a label left n places old mid (onwards.Go p) one fresh step cuts hops at among)

-- the rest of the rest
pub rest_goes_on : (d : Description) (a : Appliances) (label : Label) (left n : ℕ) (places longer : List Place) (old mid new : BoxMoment) (p : Place) (ending : Ending)
    → left ≡ n + 1 → is_among places old.place ≡ false → IsStepOn d a label old mid (onwards.Go p)
    → longer ≡ places ++ old.place ∷ [] → IsRestOn d a label n longer mid new ending
    → IsRestOn d a label left places old new ending
rest_goes_on d a label left n places longer old mid new p ending one fresh step are rest = record {
  walk = λ h inside hops at.
      subst (λ (w : Walk). IsWalkTo w h new ending)
      (sym (rest_of-goes_on d a label left n places old mid p h hops one fresh step (within_holds new.header.part mid.header.part h rest.body.within inside) at))
      (rest.walk h inside (hops ++ hop_at d a label (moment_at h old) ∷ []) (pushed_at d a label hops places (moment_at h old) at ∙ sym are));
  body = body_through new.header.part mid.header.part old.header.part rest.body step.body;
  aligned = rest_aligned d a label left n places longer old mid new.header.part p one fresh step are rest.aligned;
  moment = rest.moment;
}

-- a whole walk
pub walk_from_rest : (d : Description) (a : Appliances) (label : Label) (places : List Place) (old new : BoxMoment) (ending : Ending)
    → places ≡ [] → IsRestOn d a label 64 places old new ending → IsWalkOn d a label old new ending
walk_from_rest d a label places old new ending none rest = record {
  walk = λ h inside. rest.walk h inside [] (sym none);
  body = rest.body;
  aligned = λ cuts among. rest.aligned cuts [] (sym none) among;
  moment = rest.moment;
}

-- the cuts of the first place are among those of the walk
pub start_among : (d : Description) (a : Appliances) (label : Label) (m : Moment) → let w = walk_of d a label m in AreAmong (cuts_at d m.place) (cuts_of_hops d w.hops)
start_among d a label m = first_among d a label 64 63 [] m refl refl

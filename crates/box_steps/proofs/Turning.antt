-- Steps of all packets of a moment.
use Rattle.std.proofs.Common.{ap, flat_map, refl, subst, sym, true, ◌∙◌, ◌≡◌}
use Rattle.vpc_base.specs.Cuts.{CutLists, joined_cuts}
use Rattle.header_boxes.proofs.Held.{holds_low, valid_if_within}
use Rattle.header_boxes.specs.Terms.{IsAligned, holds, low_of}
use Rattle.box_images.specs.Terms.{Answers, IsBody, IsValidImage, header_at}
use Rattle.image_tests.specs.Types.{Image, Part}
use Rattle.cut_laws.proofs.Lemmas.{addresses_are_standing, among_through, places_have_their_cuts}
use Rattle.cut_laws.specs.Dividing.{Divide, DivideAddresses}
use Rattle.image_tests.proofs.Answering.{answers_all}
use Rattle.vpc_laws.proofs.Sounding.{steps_are_sound}
use Rattle.vpc_laws.specs.Sound.{LeadsWell}
use Rattle.vpc_laws.specs.Types.{Box5, Description, Header, Label, Place, Stop}
use Rattle.vpc_model.specs.Terms.{Appliances, IsAccepted, Next, Step, address_cuts, addresses_in, cuts_at, cuts_of_blocks, fixed_cuts, go, is_sound, on_sides, plain, standing_cuts, step_of, stop}
use Rattle.box_steps.proofs.Narrowing.{IsKept, connections_at-kept, moment-kept, moment-over, remembers_more-kept, translations_at-kept}
use Rattle.box_steps.proofs.Staying.{Stays, next_of_onward, next_onto}
use Rattle.box_steps.specs.Terms.{AtPlace, BoxMoment, IsBoxMoment, IsImageOf, IsRewritten, IsStepOn, IsStepTo, IsTurned, Onward, Standing, comes_to, moment_at, next_at, onward_of}
use Rattle.box_steps.specs.declared.onward.Onward.TheVariants as onwards

-- ---- cuts

-- the standing cuts are among those at a place
pub standing_at_place : (d : Description) (p : Place) (cuts : CutLists) → AtPlace d p cuts → Standing d cuts
standing_at_place d p cuts at = among_through (standing_cuts d) (cuts_at d p) cuts (places_have_their_cuts d p).standing at

-- what divides the standing cuts enough divides those at a place
pub divide_at_place : (d : Description) (few : CutLists) (p : Place) (cuts : CutLists) → Divide few (standing_cuts d) → AtPlace d p cuts → Divide few cuts
divide_at_place d few p cuts divide at = among_through (on_sides few) (standing_cuts d) cuts divide (standing_at_place d p cuts at)

-- so do all addresses
pub addresses_at_place : (d : Description) (p : Place) (cuts : CutLists) → AtPlace d p cuts → DivideAddresses (addresses_in d) cuts
addresses_at_place d p cuts at = divide_at_place d (joined_cuts fixed_cuts (cuts_of_blocks (flat_map address_cuts (addresses_in d)))) p cuts (addresses_are_standing d) at

-- ---- the place after a step

next-sound : (d : Description) (h : Header) (old new : BoxMoment) (onward : Onward) → is_sound d old.place ≡ true → new.place ≡ comes_to old.place onward
    → LeadsWell d (next_at h new onward) → is_sound d new.place ≡ true
next-sound d h old new (onwards.Go p) sound is well = well
next-sound d h old new (onwards.Arrive e) sound is well = ap (is_sound d) is ∙ sound
next-sound d h old new (onwards.Stop s) sound is well = ap (is_sound d) is ∙ sound

-- a step of an accepted description from a sound place leads to one
pub place-sound : (d : Description) (appliances : Appliances) (label : Label) (h : Header) (old new : BoxMoment) (onward : Onward) → IsAccepted d
    → is_sound d old.place ≡ true → new.place ≡ comes_to old.place onward
    → IsStepTo (step_of d appliances label (moment_at h old)) h new onward → is_sound d new.place ≡ true
place-sound d appliances label h old new onward accepted sound is step =
    next-sound d h old new onward sound is
    (subst (LeadsWell d) step.next (steps_are_sound d appliances label (moment_at h old) accepted sound).0)

-- ---- plain steps

-- packets that keep their header go on to the place of the moment
pub next_at-turned : (h : Header) (k : Header) (place : Place) (new : BoxMoment) (onward : Onward) → new.place ≡ comes_to place onward → header_at new.header h ≡ k
    → next_onto k onward ≡ next_at h new onward
next_at-turned h k place new (onwards.Go p) is same = ap (λ (q : Place). go q k) (sym is) ∙ ap (go new.place) (sym same)
next_at-turned h k place new (onwards.Arrive e) is same = refl
next_at-turned h k place new (onwards.Stop s) is same = refl

-- the header stays, what comes next is told, and nothing new is remembered
plain-step-at : (s : Step) (h : Header) (x : Part Onward) (next : Next) (old new : BoxMoment) (onward : Onward) → IsTurned x old new onward
    → s ≡ plain (moment_at h old) next → Stays (header_at old.header h) next → x.told ≡ onward_of next → IsStepTo s h new onward
plain-step-at s h x next old new onward t is stays told =
    let kept : IsKept x.body old new = record { conns = t.conns; nats = t.nats } in
    let header : header_at new.header h ≡ header_at old.header h = ap (λ (i : Image). header_at i h) t.header in
    record {
      next = ap (λ (z : Step). z.next) is
          ∙ next_of_onward (header_at old.header h) next onward stays (sym told ∙ sym t.told)
          ∙ next_at-turned h (header_at old.header h) old.place new onward (t.place ∙ ap (comes_to old.place) (sym t.told)) header;
      conns = ap (λ (z : Step). z.conns) is ∙ sym (connections_at-kept h x.body old new kept);
      nats = ap (λ (z : Step). z.nats) is ∙ sym (translations_at-kept h x.body old new kept);
    }

-- what comes next was told of all headers of the body
pub told_step : (d : Description) (appliances : Appliances) (label : Label) (x : Part Onward) (next : Header → Next) (old new : BoxMoment) (onward : Onward)
    → IsAccepted d → IsBoxMoment d label old → IsTurned x old new onward
    → Answers (AtPlace d old.place) (λ h. onward_of (next h)) old.header.part x
    → ((h : Header) → holds h x.body ≡ true → Stays (header_at old.header h) (next h))
    → ((h : Header) → holds h x.body ≡ true → step_of d appliances label (moment_at h old) ≡ plain (moment_at h old) (next h))
    → IsStepOn d appliances label old new onward
told_step d appliances label x next old new onward accepted moment t k stays same =
    let kept : IsKept x.body old new = record { conns = t.conns; nats = t.nats } in
    let over : new.header.part ≡ x.body = ap (λ (i : Image). i.part) t.header in
    let place : new.place ≡ comes_to old.place onward = t.place ∙ ap (comes_to old.place) (sym t.told) in
    let step : (h : Header) → holds h x.body ≡ true → IsStepTo (step_of d appliances label (moment_at h old)) h new onward
    = λ h inside. plain-step-at (step_of d appliances label (moment_at h old)) h x (next h) old new onward t (same h inside) (stays h inside) (k.told h inside) in
    let low = holds_low x.body (valid_if_within x.body old.header.part k.body.within) in
    let sound = place-sound d appliances label (low_of x.body) old new onward accepted moment.sound place (step (low_of x.body) low) in
    record {
      step = λ h inside. step h (subst (λ (b : Box5). holds h b ≡ true) over inside);
      place = place;
      body = subst (λ (b : Box5). IsBody b old.header.part) (sym over) k.body;
      aligned = λ cuts at. subst (λ (b : Box5). IsAligned cuts b old.header.part) (sym over) (k.aligned cuts at);
      moment = moment-over d label x.body old new moment k.body.within kept sound t.header;
      memory = remembers_more-kept x.body old new kept;
    }

-- a place that changes no header and remembers nothing
pub plain_step : (d : Description) (appliances : Appliances) (label : Label) (x : Part Onward) (next : Header → Next) (old new : BoxMoment) (onward : Onward)
    → IsAccepted d → IsBoxMoment d label old → IsTurned x old new onward
    → Answers (AtPlace d old.place) (λ h. onward_of (next (header_at old.header h))) old.header.part x
    → ((h : Header) → Stays h (next h))
    → ((h : Header) → step_of d appliances label (moment_at h old) ≡ plain (moment_at h old) (next (header_at old.header h)))
    → IsStepOn d appliances label old new onward
plain_step d appliances label x next old new onward accepted moment t k stays same =
    told_step d appliances label x (λ h. next (header_at old.header h)) old new onward accepted moment t k (λ h inside. stays (header_at old.header h)) (λ h inside. same h)

-- one stop for all headers of a body
pub stopped_step : (d : Description) (appliances : Appliances) (label : Label) (x : Part Onward) (s : Stop) (old new : BoxMoment) (onward : Onward)
    → IsAccepted d → IsBoxMoment d label old → IsTurned x old new onward → x.told ≡ onwards.Stop s
    → IsBody x.body old.header.part → ((cuts : CutLists) → AtPlace d old.place cuts → IsAligned cuts x.body old.header.part)
    → ((h : Header) → holds h x.body ≡ true → step_of d appliances label (moment_at h old) ≡ plain (moment_at h old) (stop s))
    → IsStepOn d appliances label old new onward
stopped_step d appliances label x s old new onward accepted moment t told body aligned same =
    told_step d appliances label x (λ h. stop s) old new onward accepted moment t (record { told = λ h inside. told; body = body; aligned = aligned }) (λ h inside. tt) same

-- one stop for all headers
pub all_stopped_step : (d : Description) (appliances : Appliances) (label : Label) (x : Part Onward) (s : Stop) (old new : BoxMoment) (onward : Onward)
    → IsAccepted d → IsBoxMoment d label old → IsTurned x old new onward → x ≡ record { body = old.header.part; told = onwards.Stop s }
    → ((h : Header) → step_of d appliances label (moment_at h old) ≡ plain (moment_at h old) (stop s)) → IsStepOn d appliances label old new onward
all_stopped_step d appliances label x s old new onward accepted moment t is same =
    let all : Answers (AtPlace d old.place) (λ h. onwards.Stop s) old.header.part x
    = subst (Answers (AtPlace d old.place) (λ h. onwards.Stop s) old.header.part) (sym is)
    (answers_all (AtPlace d old.place) (λ h. onwards.Stop s) old.header.part (onwards.Stop s) moment.valid.part (λ h. refl)) in
    stopped_step d appliances label x s old new onward accepted moment t (ap (λ (z : Part Onward). z.told) is) all.body all.aligned (λ h inside. same h)

-- ---- steps that rewrite the header

-- all packets of a body go on with another header, and nothing new is remembered
pub rewritten_step : (d : Description) (appliances : Appliances) (label : Label) (place : Place) (header : Image) (old new : BoxMoment)
    → IsAccepted d → IsBoxMoment d label old → IsRewritten place header old new
    → IsBody header.part old.header.part → ((cuts : CutLists) → AtPlace d old.place cuts → IsAligned cuts header.part old.header.part)
    → IsValidImage header → IsImageOf label (addresses_in d) header
    → ((h : Header) → holds h header.part ≡ true → step_of d appliances label (moment_at h old) ≡ plain (moment_at h old) (go place (header_at header h)))
    → IsStepOn d appliances label old new (onwards.Go place)
rewritten_step d appliances label place header old new accepted moment r body aligned valid kind same =
    let kept : IsKept header.part old new = record { conns = r.conns; nats = r.nats } in
    let over : new.header.part ≡ header.part = ap (λ (i : Image). i.part) r.header in
    let step : (h : Header) → holds h header.part ≡ true → IsStepTo (step_of d appliances label (moment_at h old)) h new (onwards.Go place)
    = λ h inside. record {
      next = ap (λ (z : Step). z.next) (same h inside) ∙ ap (λ (p : Place). go p (header_at header h)) (sym r.place) ∙ ap (λ (i : Image). go new.place (header_at i h)) (sym r.header);
      conns = ap (λ (z : Step). z.conns) (same h inside) ∙ sym (connections_at-kept h header.part old new kept);
      nats = ap (λ (z : Step). z.nats) (same h inside) ∙ sym (translations_at-kept h header.part old new kept);
    } in
    let low = holds_low header.part (valid_if_within header.part old.header.part body.within) in
    let sound = place-sound d appliances label (low_of header.part) old new (onwards.Go place) accepted moment.sound r.place (step (low_of header.part) low) in
    record {
      step = λ h inside. step h (subst (λ (b : Box5). holds h b ≡ true) over inside);
      place = r.place;
      body = subst (λ (b : Box5). IsBody b old.header.part) (sym over) body;
      aligned = λ cuts at. subst (λ (b : Box5). IsAligned cuts b old.header.part) (sym over) (aligned cuts at);
      moment = moment-kept d label header.part old new moment body.within kept sound over (subst IsValidImage (sym r.header) valid) (subst (IsImageOf label (addresses_in d)) (sym r.header) kind);
      memory = remembers_more-kept header.part old new kept;
    }

-- ---- cuts that divide enough

-- what the standing cuts divide enough, the cuts at the place do
pub standing_answers : {T : Type 0} (d : Description) (p : Place) (answer : Header → T) (part : Box5) (x : Part T)
    → Answers (Standing d) answer part x → Answers (AtPlace d p) answer part x
standing_answers {T} d p answer part x k = record { told = k.told; body = k.body; aligned = λ cuts at. k.aligned cuts (standing_at_place d p cuts at) }

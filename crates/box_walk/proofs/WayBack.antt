-- What stops the replies of requests that have come by a known way.
use Rattle.std.proofs.Common.{IfSome, List, None, Option, Some, [], ap, subst, sym, true, ◌∙◌, ◌≡◌}
use Rattle.vpc_base.specs.Cuts.{CutLists}
use Rattle.vpc_base.specs.declared.headers.Label.TheVariants as labels
use Rattle.header_boxes.specs.Terms.{holds}
use Rattle.box_images.specs.Terms.{Answers, header_at}
use Rattle.box_images.specs.declared.images.Image.{Image}
use Rattle.box_images.specs.declared.images.Part.{Part}
use Rattle.box_steps.proofs.Narrowing.{moment_at-narrowed}
use Rattle.box_steps.specs.Moments.{IsLetIn, IsNarrowed, IsStepOn, image_over, moment_at, translations_at}
use Rattle.box_steps.specs.declared.moment.BoxMoment.{BoxMoment}
use Rattle.box_steps.specs.declared.onward.Onward.TheVariants as onwards
use Rattle.conn_tracking.specs.OnImages.{connections_at}
use Rattle.vpc_laws.specs.Types.{Box5, Description, End, Header, Phase, Stop}
use Rattle.vpc_model.specs.Terms.{Appliances, Connection, Homes, Moment, Translation, arrive, ended, same_end, step_of, verdict_of_request}
use Rattle.vpc_model.specs.declared.outcomes.Outcome.TheVariants as outcomes
use Rattle.box_walk.proofs.JourneyLemmas.{same-only}
use Rattle.box_walk.specs.Terms.{DivideArrival, Tells, TellsReturns, stop_of, whether, word_of_arrival}

-- what is told of replies goes by what arrived and what it left
same_arrival : (d : Description) (a : Appliances) (homes : Homes) (goal : End) (x y : BoxMoment) (h : Header) → header_at x.header h ≡ header_at y.header h
    → connections_at h x.conns.items ≡ connections_at h y.conns.items → translations_at h x.nats.items ≡ translations_at h y.nats.items
    → word_of_arrival d a homes goal goal x h ≡ word_of_arrival d a homes goal goal y h
same_arrival d a homes goal x y h header conns nats =
    ap (λ (k : Header). by k (connections_at h x.conns.items) (translations_at h x.nats.items)) header
    ∙ ap (λ (cs : List Connection). by (header_at y.header h) cs (translations_at h x.nats.items)) conns
    ∙ ap (λ (ts : List Translation). by (header_at y.header h) (connections_at h y.conns.items) ts) nats
  where
    by : Header → List Connection → List Translation → Option (Phase × Stop)
    by k cs ts = let w = ended [] (outcomes.Arrived goal k) cs ts in stop_of (verdict_of_request d a homes goal h w w.outcome)

-- of those that have arrived what is known of the ones that are let in
pub returns_known : (d : Description) (a : Appliances) (homes : Homes) (goal end : End) (b : Box5) (before m mid arrived : BoxMoment) (x : Part (Option (Phase × Stop)))
    → TellsReturns d a homes goal before x → IsNarrowed b before m → IsStepOn d a labels.Opening m mid (onwards.Arrive end)
    → arrived ≡ record mid { header = image_over mid.header.part m.header }
    → same_end end goal ≡ true → (h : Header) → holds h arrived.header.part ≡ true → holds h x.body ≡ true → x.told ≡ word_of_arrival d a homes goal end arrived h
returns_known d a homes goal end b before m mid arrived x k n step is there h inside told =
    k.told h told
    ∙ same_arrival d a homes goal k.arrived arrived h
    (ap (λ (i : Image). header_at i h) k.let_in.header ∙ sym (ap (λ (i : Image). header_at i h) n.header) ∙ sym (ap (λ (y : BoxMoment). header_at y.header h) is))
    (sym (k.let_in.conns h end next) ∙ conns ∙ sym (ap (λ (y : BoxMoment). connections_at h y.conns.items) is))
    (sym (k.let_in.nats h end next) ∙ nats ∙ sym (ap (λ (y : BoxMoment). translations_at h y.nats.items) is))
    ∙ ap (λ (e : End). word_of_arrival d a homes goal e arrived h) (sym (same-only end goal there))
  where
    held : holds h mid.header.part ≡ true
    held = subst (λ (y : BoxMoment). holds h y.header.part ≡ true) is inside

    same : moment_at h m ≡ moment_at h before
    same = moment_at-narrowed h b before m n

    next : let s = step_of d a labels.Opening (moment_at h before) in s.next ≡ arrive end
    next = subst (λ (y : Moment). let s = step_of d a labels.Opening y in s.next ≡ arrive end) same (step.step h held).next

    conns : let s = step_of d a labels.Opening (moment_at h before) in s.conns ≡ connections_at h mid.conns.items
    conns = subst (λ (y : Moment). let s = step_of d a labels.Opening y in s.conns ≡ connections_at h mid.conns.items) same (step.step h held).conns

    nats : let s = step_of d a labels.Opening (moment_at h before) in s.nats ≡ translations_at h mid.nats.items
    nats = subst (λ (y : Moment). let s = step_of d a labels.Opening y in s.nats ≡ translations_at h mid.nats.items) same (step.step h held).nats

pub returns_known_if : (d : Description) (a : Appliances) (homes : Homes) (goal end : End) (b : Box5) (before m mid arrived : BoxMoment) (back : Option (Part (Option (Phase × Stop))))
    → IfSome back (TellsReturns d a homes goal before) → IsNarrowed b before m → IsStepOn d a labels.Opening m mid (onwards.Arrive end)
    → arrived ≡ record mid { header = image_over mid.header.part m.header }
    → IfSome back (λ x. same_end end goal ≡ true → (h : Header) → holds h arrived.header.part ≡ true → holds h x.body ≡ true → x.told ≡ word_of_arrival d a homes goal end arrived h)
returns_known_if d a homes goal end b before m mid arrived None k n step is = tt
returns_known_if d a homes goal end b before m mid arrived (Some x) k n step is = returns_known d a homes goal end b before m mid arrived x k n step is

-- what is known of a moment over its own part is known of the moment
pub returns_from_itself : (d : Description) (a : Appliances) (homes : Homes) (goal : End) (before m arrived new : BoxMoment) (told : Option (Phase × Stop)) → IsNarrowed before.header.part before m → IsLetIn d a m arrived
    → Tells (DivideArrival d a goal goal arrived) (word_of_arrival d a homes goal goal arrived) arrived new told
    → TellsReturns d a homes goal before (record { body = new.header.part; told = told })
returns_from_itself d a homes goal before m arrived new told n k tells = record {
  arrived = arrived;
  let_in = record {
    header = k.header ∙ n.header;
    conns = λ h end. subst (λ (y : Moment). let s = step_of d a labels.Opening y in (s.next ≡ arrive end) → s.conns ≡ connections_at h arrived.conns.items) (moment_at-narrowed h before.header.part before m n) (k.conns h end);
    nats = λ h end. subst (λ (y : Moment). let s = step_of d a labels.Opening y in (s.next ≡ arrive end) → s.nats ≡ translations_at h arrived.nats.items) (moment_at-narrowed h before.header.part before m n) (k.nats h end);
    moment = k.moment;
  };
  told = tells.told;
}

-- what is told of a word is told of whether there is one
pub answers_whether : (enough : CutLists → Type 0) (word : Header → Option (Phase × Stop)) (part : Box5) (x : Part (Option (Phase × Stop))) (told : Option (Unit {0})) → told ≡ whether x.told
    → Answers enough word part x → Answers enough (λ h. whether (word h)) part (record { body = x.body; told = told })
answers_whether enough word part x told is k = record {
  told = λ h inside. is ∙ ap whether (k.told h inside);
  body = k.body;
  aligned = k.aligned;
}

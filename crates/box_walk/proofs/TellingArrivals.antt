-- What is told of requests that have arrived.
use Rattle.std.proofs.Common.{◌≡◌, ◌∙◌, [], All, Bool, IfSome, List, None, Option, Some, ap, arith, cond, option_map, refl, subst, sym, true, ℕ}
use Rattle.box_images.proofs.BodyLemmas.{body_through, low_in_body}
use Rattle.box_walk.specs.Terms.{Answers, DivideArrival, DivideReply, GivesReply, Image, ImageEntry, IsBody, IsImageOfAnswer, IsValidImage, Part, Tells, arrival_at, connections_at, header_at, low_reply_hops, reply_of_moment, stop_of, word_of_answer, word_of_arrival}
use Rattle.box_steps.specs.Terms.{AreApart, IsBoxMoment, IsImageOf, IsNarrowed, IsOpenOver, IsTranslatedOver, moment_at, translations_at}
use Rattle.box_steps.proofs.Narrowing.{connections_at-over, moment-narrowed, moments-same, translations_at-over}
use Rattle.box_steps.specs.declared.moment.BoxMoment.{BoxMoment}
use Rattle.header_boxes.proofs.Lemmas.{aligned_through, within_holds}
use Rattle.header_boxes.specs.Terms.{IsAligned, holds, low_of}
use Rattle.vpc_base.specs.Terms.{AreAmong, reply_of}
use Rattle.vpc_base.specs.declared.headers.Label.TheVariants as labels
use Rattle.vpc_laws.specs.Types.{Box5, Description, End, Header, Hop, Phase, Place, Stop}
use Rattle.vpc_laws.proofs.Telling.{start-sound}
use Rattle.vpc_model.specs.Terms.{Appliances, Homes, Moment, addresses_in, cuts_of_hops, hops_of_reply, is_end, is_sound, same_end, start_of, verdict_of_arrival, verdict_of_reply, walk_of}
use Rattle.vpc_model.specs.declared.outcomes.Phase.TheVariants as phases
use Rattle.vpc_model.specs.declared.outcomes.Verdict.TheVariants as verdicts
use Rattle.vpc_model.specs.declared.stops.Stop.TheVariants as stops
use Rattle.box_walk.proofs.TellingAll.{addresses_divided}

-- at the goal, the verdict is that of the reply
at_goal : (d : Description) (appliances : Appliances) (homes : Homes) (goal end : End) (m : BoxMoment) (h : Header) (r : Option Header) → same_end end goal ≡ true → reply_of (header_at m.header h) ≡ r
    → word_of_arrival d appliances homes goal end m h ≡ stop_of (verdict_of_arrival d appliances homes goal h (arrival_at end m h) r)
at_goal d appliances homes goal end m h r there is =
    ap (λ (b : Bool). stop_of (cond b (verdict_of_arrival d appliances homes goal h (arrival_at end m h) (reply_of (header_at m.header h))) (verdicts.Stopped phases.Request (stops.WrongPlace end)))) there
    ∙ ap (λ (o : Option Header). stop_of (verdict_of_arrival d appliances homes goal h (arrival_at end m h) o)) is

-- and so are the hops
hops_at_goal : (d : Description) (appliances : Appliances) (goal end : End) (m : BoxMoment) (r : Option Header) → same_end end goal ≡ true → reply_of (header_at m.header (low_of m.header.part)) ≡ r
    → low_reply_hops d appliances goal end m ≡ hops_of_reply d appliances goal (arrival_at end m (low_of m.header.part)) r
hops_at_goal d appliances goal end m r there is =
    let w = arrival_at end m (low_of m.header.part) in
    ap (λ (b : Bool). cond b (hops_of_reply d appliances goal w (reply_of (header_at m.header (low_of m.header.part)))) []) there
    ∙ ap (hops_of_reply d appliances goal w) is

pub no_reply : (d : Description) (appliances : Appliances) (homes : Homes) (goal end : End) (old new : BoxMoment) (x : Part (Option Image)) → same_end end goal ≡ true
    → GivesReply (addresses_in d) old.header x → new.header.part ≡ x.body → x.told ≡ None
    → Tells (DivideArrival d appliances goal end old) (word_of_arrival d appliances homes goal end old) old new (Some (phases.Reply, stops.NoReply goal))
no_reply d appliances homes goal end old new x there k over is =
    subst (λ (b : Box5). Answers (DivideArrival d appliances goal end old) (word_of_arrival d appliances homes goal end old) old.header.part (record { body = b; told = Some (phases.Reply, stops.NoReply goal) })) (sym over) (record {
      told = λ h inside. sym (at_goal d appliances homes goal end old h None there (sym (k.told h inside) ∙ ap (option_map (λ i. header_at i h)) is));
      body = k.body;
      aligned = λ cuts e. k.aligned cuts (addresses_divided d cuts e.standing);
    })

-- the moment of the replies, by that of the requests
pub record IsReplyOf (goal : End) (x : Part (Option Image)) (answer : Image) (old mid : BoxMoment) : Type 0 where
  pub told : x.told ≡ Some answer
  pub over : answer.part ≡ x.body
  pub place : mid.place ≡ start_of goal
  pub header : mid.header ≡ answer
  pub conns : (h : Header) → connections_at h mid.conns.items ≡ connections_at h old.conns.items
  pub nats : (h : Header) → translations_at h mid.nats.items ≡ translations_at h old.nats.items

-- the moment of the requests, narrowed to those that are told of, becomes that of their replies
pub is_reply : (addresses : List ℕ) (goal : End) (old mid : BoxMoment) (x : Part (Option Image)) (answer : Image) (place : Place)
    → GivesReply addresses old.header x → IsNarrowed x.body old mid → x.told ≡ Some answer → place ≡ start_of goal
    → IsReplyOf goal x answer old (record mid { place = place; header = answer })
is_reply addresses goal old mid x answer place k narrowed is at = record {
  told = is;
  over = subst (λ (o : Option Image). IfSome o (λ i. i.part ≡ x.body)) is k.over;
  place = at;
  header = refl;
  conns = λ h. ap (connections_at h) narrowed.conns ∙ connections_at-over h x.body old.conns.items;
  nats = λ h. ap (translations_at h) narrowed.nats ∙ translations_at-over h x.body old.nats.items;
}

-- of requests at a described start, of which nothing is remembered
pub request_moment : (d : Description) (start : End) (m : BoxMoment) → is_end d start ≡ true → m.place ≡ start_of start
    → IsValidImage m.header → IsImageOf labels.Opening (addresses_in d) m.header → m.conns.items ≡ [] → m.nats.items ≡ [] → IsBoxMoment d labels.Opening m
request_moment d start m there at valid kind conns nats = record {
  sound = ap (is_sound d) at ∙ start-sound d start there;
  valid = valid;
  kind = kind;
  conns = subst (All (λ (e : ImageEntry). IsOpenOver (addresses_in d) m.header.part e.header)) (sym conns) (λ k x below. absurd (omega (arith, below)));
  nats = subst (All (IsTranslatedOver (addresses_in d) m.header.part)) (sym nats) (λ k x below. absurd (omega (arith, below)));
  apart = subst AreApart (sym nats) tt;
}

pub reply_moment : (d : Description) (goal : End) (old mid : BoxMoment) (x : Part (Option Image)) (answer : Image) (place : Place)
    → is_end d goal ≡ true → IsBoxMoment d labels.Opening old
    → GivesReply (addresses_in d) old.header x → IfSome x.told (IsImageOfAnswer (addresses_in d)) → IsNarrowed x.body old mid → x.told ≡ Some answer → place ≡ start_of goal
    → IsBoxMoment d labels.Answer (record mid { place = place; header = answer })
reply_moment d goal old mid x answer place there from k kind narrowed is at =
    let to = moment-narrowed d labels.Opening x.body old mid from k.body.within narrowed in
    let over : answer.part ≡ x.body = subst (λ (o : Option Image). IfSome o (λ i. i.part ≡ x.body)) is k.over in
    let part : mid.header.part ≡ answer.part = ap (λ (i : Image). i.part) narrowed.header ∙ sym over in
    record {
      sound = ap (is_sound d) at ∙ start-sound d goal there;
      valid = subst (λ (o : Option Image). IfSome o IsValidImage) is k.valid;
      kind = subst (λ (o : Option Image). IfSome o (IsImageOfAnswer (addresses_in d))) is kind;
      conns = subst (λ (b : Box5). All (λ (e : ImageEntry). IsOpenOver (addresses_in d) b e.header) mid.conns.items) part to.conns;
      nats = subst (λ (b : Box5). All (IsTranslatedOver (addresses_in d) b) mid.nats.items) part to.nats;
      apart = to.apart;
    }

pub replied : (d : Description) (appliances : Appliances) (homes : Homes) (goal end : End) (old mid new : BoxMoment) (x : Part (Option Image)) (answer : Image) (told : Option (Phase × Stop)) → same_end end goal ≡ true
    → GivesReply (addresses_in d) old.header x → IsReplyOf goal x answer old mid
    → Tells (DivideReply d appliances mid) (word_of_answer d appliances homes mid) mid new told
    → Tells (DivideArrival d appliances goal end old) (word_of_arrival d appliances homes goal end old) old new told
replied d appliances homes goal end old mid new x answer told there k r rest = record {
  told = λ h inside.
      let around = inside_reply h (within_holds new.header.part mid.header.part h rest.body.within inside) in
      rest.told h inside
      ∙ ap (λ (m : Moment). let w = walk_of d appliances labels.Answer m in stop_of (verdict_of_reply homes h w.outcome)) (moment_of_reply h)
      ∙ sym (at_goal d appliances homes goal end old h (Some (header_at answer h)) there (reply_told h around));
  body = body_through new.header.part mid.header.part old.header.part rest.body middle;
  aligned = λ cuts e.
      aligned_through cuts new.header.part mid.header.part old.header.part
      (rest.aligned cuts
      (subst (λ (g : Header). let w = reply_of_moment d appliances mid g in AreAmong (cuts_of_hops d w.hops) cuts) (sym middle.low)
      (subst (λ (m : Moment). let w = walk_of d appliances labels.Answer m in AreAmong (cuts_of_hops d w.hops) cuts) (sym (moment_of_reply low))
      (subst (λ (hops : List Hop). AreAmong (cuts_of_hops d hops) cuts)
      (hops_at_goal d appliances goal end old (Some (header_at answer low)) there (reply_told low (low_in_body x.body old.header.part k.body))) e.reply))))
      (subst (λ (b : Box5). IsAligned cuts b old.header.part) (sym part) (k.aligned cuts (addresses_divided d cuts e.standing)));
}
  where
    low : Header
    low = low_of old.header.part

    part : mid.header.part ≡ x.body
    part = ap (λ (i : Image). i.part) r.header ∙ r.over

    middle : IsBody mid.header.part old.header.part
    middle = subst (λ (b : Box5). IsBody b old.header.part) (sym part) k.body

    inside_reply : (h : Header) → holds h mid.header.part ≡ true → holds h x.body ≡ true
    inside_reply h inside = subst (λ (b : Box5). holds h b ≡ true) part inside

    reply_told : (h : Header) → holds h x.body ≡ true → reply_of (header_at old.header h) ≡ Some (header_at answer h)
    reply_told h inside = sym (k.told h inside) ∙ ap (option_map (λ i. header_at i h)) r.told

    moment_of_reply : (h : Header) → moment_at h mid ≡ record { place = start_of goal; header = header_at answer h; conns = connections_at h old.conns.items; nats = translations_at h old.nats.items }
    moment_of_reply h =
        moments-same mid.place (start_of goal) (header_at mid.header h) (header_at answer h) _ _ _ _ r.place (ap (λ (i : Image). header_at i h) r.header) (r.conns h) (r.nats h)

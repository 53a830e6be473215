-- What is told of requests.
use Rattle.std.proofs.Common.{◌≡◌, ◌∙◌, [], List, None, Option, Some, ap, cond, refl, subst, sym, true}
use Rattle.box_images.proofs.BodyLemmas.{low_in_body}
use Rattle.box_images.specs.Terms.{header_at}
use Rattle.box_steps.specs.Terms.{moment_at}
use Rattle.box_steps.specs.declared.moment.BoxMoment.{BoxMoment}
use Rattle.cut_laws.proofs.Lemmas.{among_through, left_among, right_among}
use Rattle.header_boxes.specs.Terms.{IsAligned, holds, low_of}
use Rattle.vpc_base.specs.Terms.{AreAmong, CutLists, reply_of}
use Rattle.vpc_base.specs.declared.headers.Label.TheVariants as labels
use Rattle.vpc_laws.specs.Types.{Description, End, Header, Hop, Outcome, Phase, Stop, Verdict}
use Rattle.vpc_model.specs.Terms.{Appliances, Connection, Homes, Moment, Translation, Walk, cuts_of_hops, hops_after, hops_of_reply, near_cuts, reply_hops, reply_walk, request_walk, same_end, standing_cuts, start_of, verdict_by, verdict_of_arrival, verdict_of_reply, verdict_of_request, walk_of}
use Rattle.vpc_model.specs.declared.outcomes.Phase.TheVariants as phases
use Rattle.vpc_model.specs.declared.outcomes.Verdict.TheVariants as verdicts
use Rattle.vpc_model.specs.declared.stops.Stop.TheVariants as stops
use Rattle.box_walk.specs.Terms.{AreRequests, DivideArrival, Ending, IsWalkOn, IsWalkTo, Tells, arrival_at, stop_of, word_of_arrival}
use Rattle.box_walk.specs.declared.walks.Ending.TheVariants as endings
use Rattle.box_walk.proofs.TellingAll.{standing_among, tells_after}

-- a reply depends on what the request has left alone
reply_walk-left : (d : Description) (appliances : Appliances) (goal : End) (r : Header) (w v : Walk) → w.conns ≡ v.conns → w.nats ≡ v.nats → reply_walk d appliances goal r w ≡ reply_walk d appliances goal r v
reply_walk-left d appliances goal r w v conns nats =
    ap (λ (c : List Connection). walk_of d appliances labels.Answer (record { place = start_of goal; header = r; conns = c; nats = w.nats })) conns
    ∙ ap (λ (t : List Translation). walk_of d appliances labels.Answer (record { place = start_of goal; header = r; conns = v.conns; nats = t })) nats

verdict-left : (d : Description) (appliances : Appliances) (homes : Homes) (goal : End) (h : Header) (w v : Walk) (r : Option Header) → w.conns ≡ v.conns → w.nats ≡ v.nats
    → verdict_of_arrival d appliances homes goal h w r ≡ verdict_of_arrival d appliances homes goal h v r
verdict-left d appliances homes goal h w v None conns nats = refl
verdict-left d appliances homes goal h w v (Some r) conns nats = ap (λ (x : Walk). verdict_of_reply homes h x.outcome) (reply_walk-left d appliances goal r w v conns nats)

hops-left : (d : Description) (appliances : Appliances) (goal : End) (w v : Walk) (r : Option Header) → w.conns ≡ v.conns → w.nats ≡ v.nats → hops_of_reply d appliances goal w r ≡ hops_of_reply d appliances goal v r
hops-left d appliances goal w v None conns nats = refl
hops-left d appliances goal w v (Some r) conns nats = ap (λ (x : Walk). x.hops) (reply_walk-left d appliances goal r w v conns nats)

-- a request that arrives, by the moment to which it comes
pub verdict_at-arrival : (d : Description) (appliances : Appliances) (homes : Homes) (goal end : End) (m : BoxMoment) (h : Header) (w : Walk) → IsWalkTo w h m (endings.Arrived end)
    → stop_of (verdict_of_request d appliances homes goal h w w.outcome) ≡ word_of_arrival d appliances homes goal end m h
verdict_at-arrival d appliances homes goal end m h w k =
    ap (λ (o : Outcome). stop_of (verdict_of_request d appliances homes goal h w o)) k.outcome
    ∙ ap (λ (v : Verdict). stop_of (cond (same_end end goal) v (verdicts.Stopped phases.Request (stops.WrongPlace end)))) (verdict-left d appliances homes goal h w (arrival_at end m h) (reply_of (header_at m.header h)) k.conns k.nats)

hops_at-arrival : (d : Description) (appliances : Appliances) (goal end : End) (m : BoxMoment) (h : Header) (w : Walk) → IsWalkTo w h m (endings.Arrived end)
    → hops_after d appliances goal w w.outcome ≡ (let v = arrival_at end m h in hops_after d appliances goal v v.outcome)
hops_at-arrival d appliances goal end m h w k =
    ap (hops_after d appliances goal w) k.outcome
    ∙ ap (λ (hops : List Hop). cond (same_end end goal) hops []) (hops-left d appliances goal w (arrival_at end m h) (reply_of (header_at m.header h)) k.conns k.nats)

-- the cuts at the places of the low corner's walk
pub request_among : (d : Description) (appliances : Appliances) (start goal : End) (old : BoxMoment) → AreRequests start old
    → (cuts : CutLists) → AreAmong (near_cuts d appliances start goal (low_of old.header.part)) cuts
    → let walk = walk_of d appliances labels.Opening (moment_at (low_of old.header.part) old) in AreAmong (cuts_of_hops d walk.hops) cuts
request_among d appliances start goal old requests cuts e =
    let low = low_of old.header.part in
    let walk = request_walk d appliances start low in
    subst (λ (m : Moment). let w = walk_of d appliances labels.Opening m in AreAmong (cuts_of_hops d w.hops) cuts) (sym (requests low))
    (among_through (cuts_of_hops d walk.hops) (near_cuts d appliances start goal low) cuts (left_among (cuts_of_hops d walk.hops) (cuts_of_hops d (reply_hops d appliances start goal low))) e)

-- the walk of a request
pub request_led : (d : Description) (appliances : Appliances) (start : End) (old new : BoxMoment) (ending : Ending) → AreRequests start old
    → IsWalkOn d appliances labels.Opening old new ending → (h : Header) → holds h new.header.part ≡ true → IsWalkTo (request_walk d appliances start h) h new ending
request_led d appliances start old new ending requests w h inside =
    subst (λ (m : Moment). IsWalkTo (walk_of d appliances labels.Opening m) h new ending) (requests h) (w.walk h inside)

request_aligned : (d : Description) (appliances : Appliances) (start goal : End) (old new : BoxMoment) (ending : Ending) → AreRequests start old
    → IsWalkOn d appliances labels.Opening old new ending → (cuts : CutLists) → AreAmong (near_cuts d appliances start goal (low_of old.header.part)) cuts → IsAligned cuts new.header.part old.header.part
request_aligned d appliances start goal old new ending requests w cuts e = w.aligned cuts (request_among d appliances start goal old requests cuts e)

-- stopped on the way
pub request_stops : (d : Description) (appliances : Appliances) (homes : Homes) (goal : End) (old new : BoxMoment) (s : Stop) → AreRequests homes.start old
    → IsWalkOn d appliances labels.Opening old new (endings.Stopped s)
    → Tells (AreAmong (near_cuts d appliances homes.start goal (low_of old.header.part))) (λ h. stop_of (verdict_by d appliances homes goal h)) old new (Some (phases.Request, s))
request_stops d appliances homes goal old new s requests w = record {
  told = λ h inside.
      let walk = request_walk d appliances homes.start h in
      sym (ap (λ (o : Outcome). stop_of (verdict_of_request d appliances homes goal h walk o)) (request_led d appliances homes.start old new (endings.Stopped s) requests w h inside).outcome);
  body = w.body;
  aligned = λ cuts e. request_aligned d appliances homes.start goal old new (endings.Stopped s) requests w cuts e;
}

-- arrived
pub request_arrives : (d : Description) (appliances : Appliances) (homes : Homes) (goal end : End) (old mid new : BoxMoment) (told : Option (Phase × Stop)) → AreRequests homes.start old
    → IsWalkOn d appliances labels.Opening old mid (endings.Arrived end)
    → Tells (DivideArrival d appliances goal end mid) (word_of_arrival d appliances homes goal end mid) mid new told
    → Tells (AreAmong (near_cuts d appliances homes.start goal (low_of old.header.part))) (λ h. stop_of (verdict_by d appliances homes goal h)) old new told
request_arrives d appliances homes goal end old mid new told requests w k =
    let low = low_of old.header.part in
    let low_inside = low_in_body mid.header.part old.header.part w.body in
    let walk = request_walk d appliances homes.start low in
    tells_after d appliances labels.Opening (AreAmong (near_cuts d appliances homes.start goal low)) (DivideArrival d appliances goal end mid) (λ h. stop_of (verdict_by d appliances homes goal h)) (word_of_arrival d appliances homes goal end mid) old mid new (endings.Arrived end) told w
    (λ cuts e.
    let among = request_among d appliances homes.start goal old requests cuts e in (
      among,
      record {
        standing = among_through (standing_cuts d) _ cuts (standing_among d appliances labels.Opening (moment_at low old)) among;
        reply = subst (λ (g : Header). AreAmong (cuts_of_hops d (let v = arrival_at end mid g in hops_after d appliances goal v v.outcome)) cuts) (sym w.body.low)
            (subst (λ (hops : List Hop). AreAmong (cuts_of_hops d hops) cuts) (hops_at-arrival d appliances goal end mid low walk (request_led d appliances homes.start old mid (endings.Arrived end) requests w low low_inside))
            (among_through (cuts_of_hops d (reply_hops d appliances homes.start goal low)) (near_cuts d appliances homes.start goal low) cuts (right_among (cuts_of_hops d walk.hops) (cuts_of_hops d (reply_hops d appliances homes.start goal low))) e));
      },
    ))
    (λ h inside. verdict_at-arrival d appliances homes goal end mid h (request_walk d appliances homes.start h) (request_led d appliances homes.start old mid (endings.Arrived end) requests w h inside))
    k

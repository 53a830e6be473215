-- What is asked of requests at the goal's interface is asked of their whole walks.
use Rattle.std.proofs.Common.{List, Option, Some, [], add-zero, ap, arith, false, subst, sym, ℕ, ◌+◌, ◌-◌, ◌<◌, ◌∙◌, ◌≡◌}
use Rattle.vpc_base.specs.Cuts.{AreAmong}
use Rattle.vpc_base.specs.declared.headers.Label.TheVariants as labels
use Rattle.header_boxes.proofs.Lemmas.{holds_low, valid_if_within, within_holds}
use Rattle.header_boxes.specs.Terms.{IsAligned, IsWithin, low_of}
use Rattle.box_images.specs.Terms.{Answers, IsBody}
use Rattle.box_images.specs.declared.fields.Field.TheVariants.{Of}
use Rattle.box_images.specs.declared.fields.Side.TheVariants.{Dst, P, Proto, Q, Src}
use Rattle.box_images.specs.declared.images.Image.{Image}
use Rattle.box_steps.proofs.Narrowing.{kept_if_narrowed, moment-narrowed, moment_at-narrowed, remembers-kept, conns-kept, nats-kept}
use Rattle.box_steps.specs.Moments.{CanRemember, IsNarrowed, IsStepOn, image_over, moment_at, remembers}
use Rattle.box_steps.specs.declared.moment.BoxMoment.{BoxMoment}
use Rattle.box_steps.specs.declared.onward.Onward.TheVariants as onwards
use Rattle.vpc_laws.specs.Types.{Box5, Description, End, Header, Hop, Phase, Stop}
use Rattle.vpc_model.specs.Terms.{Appliances, Homes, Walk, appliances_of, cuts_of_hops, near_cuts, start_of, walk_of}
use Rattle.vpc_model.specs.declared.outcomes.Phase.TheVariants as phases
use Rattle.box_walk.proofs.Rests.{rest_arrives, rest_stops}
use Rattle.box_walk.proofs.Telling.{request_arrives, request_stops}
use Rattle.box_walk.specs.Terms.{AreRequests, DivideArrival, Ending, HaveCome, IsRestOn, IsWalkOn, IsWalkTo, Tells, asked_by, is_among, request_at, rest_of, word_of, word_of_arrival}
use Rattle.box_walk.specs.declared.walks.Ending.TheVariants as endings

-- the requests of a box at the start
abbrev requests_over : End → Box5 → BoxMoment
requests_over start b = record {
  place = start_of start;
  header = record { part = b; proto = Of Proto 0; src = Of Src 0; dst = Of Dst 0; p = Of P 0; q = Of Q 0 };
  conns = record { items = [] };
  nats = record { items = [] };
}

same_fields : (a b c d e f g h i j : ℕ) → a ≡ f → b ≡ g → c ≡ h → d ≡ i → e ≡ j
    → (let k : Header = record { proto = a; src = b; dst = c; p = d; q = e } in k) ≡ record { proto = f; src = g; dst = h; p = i; q = j }
same_fields a b c d e f g h i j proto src dst p q = cc

are_requests : (start : End) (b : Box5) → AreRequests start (requests_over start b)
are_requests start b h =
    ap (request_at start)
    (same_fields (h.proto + 0) (h.src + 0) (h.dst + 0) (h.p + 0) (h.q + 0) h.proto h.src h.dst h.p h.q (add-zero h.proto) (add-zero h.src) (add-zero h.dst) (add-zero h.p) (add-zero h.q))

-- room stays where there was room
pub room_kept : (b : Box5) (old new : BoxMoment) → IsNarrowed b old new → CanRemember labels.Opening old → CanRemember labels.Opening new
room_kept b old new n room =
    let kept = kept_if_narrowed b old new n in
    record {
      conns = let k = room.conns in let e = conns-kept b old new kept in omega arith;
      nats = let k = room.nats in let e = nats-kept b old new kept in omega arith;
      fresh = remembers-kept b old new new.place kept ∙ ap (remembers old) n.place ∙ room.fresh;
    }

-- the rest of their walks from the interface is that of their whole walks
walk_resumed : (d : Description) (a : Appliances) (start : End) (b : Box5) (before m new : BoxMoment) (ending : Ending) (c : HaveCome d a start before)
    → IsWithin b before.header.part → IsNarrowed b before m → IsRestOn d a labels.Opening c.left c.passed m new ending
    → IsWalkOn d a labels.Opening (requests_over start b) new ending
walk_resumed d a start b before m new ending c within n rest = record {
  walk = λ h inside.
      let on = c.walk h (within_holds b before.header.part h within (within_holds new.header.part b h body.within inside)) in
      subst (λ (w : Walk). IsWalkTo w h new ending) (sym (same h on.0 on.1.1)) (rest.walk h inside on.0 on.1.0);
  body = body;
  aligned = λ cuts among.
      let low = low_of b in
      let on = c.walk low (within_holds b before.header.part low within (holds_low b (valid_if_within b before.header.part within))) in
      subst (λ (x : Box5). IsAligned cuts new.header.part x) part
      (rest.aligned cuts on.0 on.1.0
      (subst (λ (x : Box5). AreAmong (cuts_of_hops d (rest_of d a labels.Opening c.left on.0 (moment_at (low_of x) m)).hops) cuts) (sym part)
      (subst (λ (w : Walk). AreAmong (cuts_of_hops d w.hops) cuts) (same low on.0 on.1.1) among)));
  moment = rest.moment;
}
  where
    part : m.header.part ≡ b
    part = ap (λ (i : Image). i.part) n.header

    body : IsBody new.header.part b
    body = subst (IsBody new.header.part) part rest.body

    same : (h : Header) (hops : List Hop) → walk_of d a labels.Opening (request_at start h) ≡ rest_of d a labels.Opening c.left hops (moment_at h before)
        → walk_of d a labels.Opening (moment_at h (requests_over start b)) ≡ rest_of d a labels.Opening c.left hops (moment_at h m)
    same h hops e = ap (walk_of d a labels.Opening) (are_requests start b h) ∙ e ∙ ap (rest_of d a labels.Opening c.left hops) (sym (moment_at-narrowed h b before m n))

-- what is known of their moment
new-fresh : (d : Description) (a : Appliances) (start : End) (b : Box5) (before m : BoxMoment) (c : HaveCome d a start before) → IsNarrowed b before m → is_among c.passed m.place ≡ false
new-fresh d a start b before m c n = ap (is_among c.passed) n.place ∙ c.fresh

one_left : (n : ℕ) → 0 < n → n ≡ n - 1 + 1
one_left n some = omega (arith, some)

-- stopped there
pub way_stops : (d : Description) (homes : Homes) (goal : End) (b : Box5) (before m new : BoxMoment) (s : Stop) → HaveCome d (appliances_of d) homes.start before
    → IsWithin b before.header.part → IsNarrowed b before m → IsStepOn d (appliances_of d) labels.Opening m new (onwards.Stop s)
    → Answers (AreAmong (near_cuts d (appliances_of d) homes.start goal (low_of b))) (word_of (asked_by d homes goal)) b (record { body = new.header.part; told = Some (phases.Request, s) })
way_stops d homes goal b before m new s c within n step =
    let a = appliances_of d in
    request_stops d a homes goal (requests_over homes.start b) new s (are_requests homes.start b)
    (walk_resumed d a homes.start b before m new (endings.Stopped s) c within n
    (rest_stops d a labels.Opening c.left (c.left - 1) c.passed m new s (one_left c.left c.some) (new-fresh d a homes.start b before m c n) step))

-- arrived
pub way_arrives : (d : Description) (homes : Homes) (goal end : End) (b : Box5) (before m mid arrived new : BoxMoment) (told : Option (Phase × Stop)) → HaveCome d (appliances_of d) homes.start before
    → IsWithin b before.header.part → IsNarrowed b before m → IsStepOn d (appliances_of d) labels.Opening m mid (onwards.Arrive end)
    → arrived ≡ record mid { header = image_over mid.header.part m.header }
    → Tells (DivideArrival d (appliances_of d) goal end arrived) (word_of_arrival d (appliances_of d) homes goal end arrived) arrived new told
    → Answers (AreAmong (near_cuts d (appliances_of d) homes.start goal (low_of b))) (word_of (asked_by d homes goal)) b (record { body = new.header.part; told = told })
way_arrives d homes goal end b before m mid arrived new told c within n step is tells =
    let a = appliances_of d in
    request_arrives d a homes goal end (requests_over homes.start b) arrived new told (are_requests homes.start b)
    (walk_resumed d a homes.start b before m arrived (endings.Arrived end) c within n
    (rest_arrives d a labels.Opening c.left (c.left - 1) c.passed m mid arrived end (one_left c.left c.some) (new-fresh d a homes.start b before m c n)
    (moment-narrowed d labels.Opening b before m c.moment within n) step is))
    tells

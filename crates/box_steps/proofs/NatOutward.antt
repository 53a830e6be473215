-- Steps of all packets of a moment at NAT gateways, on the way out.
use Rattle.std.proofs.Common.{All, Bool, IfSome, List, None, Option, Some, [], ap, arith, cond, false, inl, inr, length, map, option_map, refl, subst, sym, true, ℕ, ◌++◌, ◌==◌, ◌||◌, ◌∙◌, ◌∷◌, ◌≡◌, ◌⊎◌}
use Rattle.vpc_base.proofs.Lemmas.{All-append, All-cons, All-nil, length-append, length-map, or_cases}
use Rattle.vpc_base.specs.Header.{IsHeader}
use Rattle.vpc_base.specs.declared.headers.Dir.TheVariants as dirs
use Rattle.vpc_base.specs.declared.headers.Label.TheVariants as labels
use Rattle.header_boxes.proofs.Held.{holds_low, holds_whole, valid_if_within}
use Rattle.box_steps.specs.Terms.{AreApart, BoxMoment, GivesSent, HasNone, Image, ImageEntry, ImageNat, IsAligned, IsBody, IsBoxMoment, IsImageOfOpen, IsOpenOver, IsSentFirst, IsStepOn, IsStepTo, IsTranslatedOver, IsTurned, IsValidImage, Onward, Part, RemembersMore, connections_at, entry_over, from_gateway, has_conn, has_nat, header_at, holds, image_over, low_of, moment_at, nat_over, remembers, sent_first, translation_at, translations_at}
use Rattle.box_images.proofs.Lemmas.{images_fit, valid_over_body}
use Rattle.cut_laws.proofs.Rows.{fixed_are_standing}
use Rattle.nat_gateway.proofs.SentLemmas.{first_open_is_sent}
use Rattle.vpc_laws.proofs.Lemmas.{by_memory}
use Rattle.vpc_laws.specs.Types.{Box5, Description, Dir, EniNo, Header, NatNo, Place}
use Rattle.vpc_model.specs.Terms.{Appliances, IsAccepted, Moment, Step, Translation, addresses_in, fixed_cuts, from_nat, go, is_sound, is_translatable, nat_at, new_translation, own_address, own_subnet, plain, same_place, step_at, step_nat_out, step_of, stop, subnet_no, translate, translated_to, translation_of}
use Rattle.vpc_model.specs.declared.outcomes.By.TheVariants as bys
use Rattle.vpc_model.specs.declared.places.Came.TheVariants as from
use Rattle.vpc_model.specs.declared.places.Place.TheVariants as places
use Rattle.vpc_model.specs.declared.stops.Stop.TheVariants as stops
use Rattle.box_steps.proofs.Narrowing.{nothing-left, apart-over, connections_at-over, conns-over, has_conn-over, has_nat-over, kind-over, nats-over, translations_at-over}
use Rattle.box_steps.proofs.Turning.{divide_at_place, place-sound, stopped_step}
use Rattle.box_steps.specs.declared.onward.Onward.TheVariants as onwards
use Rattle.box_steps.proofs.NatTables.{apart-push, has_nat-at, has_nat-push, translations_at-push}

-- the model's step of an open that is sent out first
sent-out : (d : Description) (n : NatNo) (own : ℕ) (m : Moment) (after : Header) → (let row = nat_at d n in own ≡ own_address row.life)
    → Some after ≡ sent_first own m.header → IsSentFirst m.nats n own m.header
    → step_nat_out d labels.Opening n m ≡ record { next = from_nat d n after; by = bys.Nothing; conns = m.conns; nats = m.nats ++ record { nat = n; before = m.header; after = after } ∷ [] }
sent-out d n own m after own_is sent k = by-protocol (is_translatable m.header.proto) refl
  where
    -- no translation is found, and there is room
    first : from_gateway own m.header ≡ after → translate d n m (translation_of m.nats n m.header)
        ≡ record { next = from_nat d n after; by = bys.Nothing; conns = m.conns; nats = m.nats ++ record { nat = n; before = m.header; after = after } ∷ [] }
    first is =
        let row = nat_at d n in
        let t = new_translation m.nats n own m.header in
        let after_is : t.after ≡ after = k.sent ∙ is in
        ap (translate d n m) k.unknown
        ∙ ap (λ (b : Bool). cond b (plain m (stop (stops.NatFull n))) (translated_to d n m (new_translation m.nats n (own_address row.life) m.header))) k.room
        ∙ ap (λ (a : ℕ). translated_to d n m (new_translation m.nats n a m.header)) (sym own_is)
        ∙ ap (λ (a : Header). translated_to d n m (record { nat = n; before = m.header; after = a })) after_is

    by-protocol : (b : Bool) → is_translatable m.header.proto ≡ b
        → step_nat_out d labels.Opening n m ≡ record { next = from_nat d n after; by = bys.Nothing; conns = m.conns; nats = m.nats ++ record { nat = n; before = m.header; after = after } ∷ [] }
    by-protocol true is =
        let found : Some after ≡ Some (from_gateway own m.header) = sent ∙ ap (λ (b : Bool). cond b (Some (from_gateway own m.header)) None) is in
        let value : from_gateway own m.header ≡ after = (let back = sym found in cc) in
        ap (λ (b : Bool). cond b (translate d n m (translation_of m.nats n m.header)) (plain m (stop (stops.NatProtocol n)))) is ∙ first value
    by-protocol false is =
        let nothing : Some after ≡ None = sent ∙ ap (λ (b : Bool). cond b (Some (from_gateway own m.header)) None) is in absurd cc

-- and of one that isn't TCP, UDP or ICMP
not-sent : (d : Description) (n : NatNo) (own : ℕ) (m : Moment) → None ≡ sent_first own m.header → step_nat_out d labels.Opening n m ≡ plain m (stop (stops.NatProtocol n))
not-sent d n own m sent = by-protocol (is_translatable m.header.proto) refl
  where
    by-protocol : (b : Bool) → is_translatable m.header.proto ≡ b → step_nat_out d labels.Opening n m ≡ plain m (stop (stops.NatProtocol n))
    by-protocol true is = let some : None ≡ Some (from_gateway own m.header) = sent ∙ ap (λ (b : Bool). cond b (Some (from_gateway own m.header)) None) is in absurd cc
    by-protocol false is = ap (λ (b : Bool). cond b (translate d n m (translation_of m.nats n m.header)) (plain m (stop (stops.NatProtocol n)))) is

-- a gateway that the place doesn't remember has translated nothing
has_none : (old : BoxMoment) (n : NatNo) (h : Header) → old.place ≡ places.NatOut n → remembers old old.place ≡ false → HasNone n (translations_at h old.nats.items)
has_none old n h is fresh = has_nat-at h old.nats.items n ∙ sym (ap (remembers old) is) ∙ fresh

sent_first-told : (own : ℕ) (i : Image) (x : Part (Option Image)) (o : Option Image) (h : Header) → GivesSent own i x → x.told ≡ o → holds h x.body ≡ true
    → option_map (λ (j : Image). header_at j h) o ≡ sent_first own (header_at i h)
sent_first-told own i x o h k is inside = ap (option_map (λ (j : Image). header_at j h)) (sym is) ∙ k.told h inside

-- none of them goes out
pub refused_at_nat : (d : Description) (appliances : Appliances) (n : NatNo) (own : ℕ) (x : Part (Option Image)) (y : Part Onward) (old new : BoxMoment) (onward : Onward)
    → IsAccepted d → old.place ≡ places.NatOut n → IsBoxMoment d labels.Opening old → GivesSent own old.header x → x.told ≡ None
    → y ≡ record { body = x.body; told = onwards.Stop (stops.NatProtocol n) } → IsTurned y old new onward → IsStepOn d appliances labels.Opening old new onward
refused_at_nat d appliances n own x y old new onward accepted is moment k none y_is t =
    let body : y.body ≡ x.body = ap (λ (z : Part Onward). z.body) y_is in
    stopped_step d appliances labels.Opening y (stops.NatProtocol n) old new onward accepted moment t (ap (λ (z : Part Onward). z.told) y_is)
    (subst (λ (b : Box5). IsBody b old.header.part) (sym body) k.body)
    (λ cuts at. subst (λ (b : Box5). IsAligned cuts b old.header.part) (sym body) (k.aligned cuts (divide_at_place d fixed_cuts old.place cuts (fixed_are_standing d) at)))
    (λ h inside. ap (λ (p : Place). step_at d appliances labels.Opening p (moment_at h old)) is
    ∙ not-sent d n own (moment_at h old) (sent_first-told own old.header x None h k none (subst (λ (b : Box5). holds h b ≡ true) body inside)))

-- what is left after a translation, which is remembered
pub record IsTranslated (n : NatNo) (next : Place) (after : Image) (old new : BoxMoment) : Type 0 where
  pub place : new.place ≡ next
  pub header : new.header ≡ after
  pub conns : new.conns.items ≡ map (entry_over after.part) old.conns.items
  pub nats : new.nats.items ≡ map (nat_over after.part) old.nats.items ++ record { nat = n; before = image_over after.part old.header; after = after } ∷ []

-- the gateway alone is remembered besides
remembers-pushed : (body : Box5) (t : ImageNat) (old new : BoxMoment) (p : Place) → new.conns.items ≡ map (entry_over body) old.conns.items
    → new.nats.items ≡ map (nat_over body) old.nats.items ++ t ∷ [] → old.place ≡ places.NatOut t.nat → remembers new p ≡ true
    → (remembers old p ≡ true) ⊎ (same_place old.place p ≡ true)
remembers-pushed body t old new p conns nats is has =
    by_memory (λ q. remembers new q ≡ true → (remembers old q ≡ true) ⊎ (same_place old.place q ≡ true))
    (λ i has. inl (sym (connected i dirs.Outward) ∙ has)) (λ i has. inl (sym (connected i dirs.Inward) ∙ has)) translated (λ q rest has. absurd (nothing-left new q rest has)) p has
  where
    connected : (i : EniNo) (dir : Dir) → has_conn new.conns.items i dir ≡ has_conn old.conns.items i dir
    connected i dir = ap (λ (es : List ImageEntry). has_conn es i dir) conns ∙ has_conn-over body old.conns.items i dir

    translated : (m : NatNo) → remembers new (places.NatOut m) ≡ true → (remembers old (places.NatOut m) ≡ true) ⊎ (same_place old.place (places.NatOut m) ≡ true)
    translated m has =
        let both : (has_nat old.nats.items m || (t.nat.0 == m.0)) ≡ true
        = sym (ap (λ (ts : List ImageNat). has_nat ts m) nats ∙ has_nat-push (map (nat_over body) old.nats.items) t m
        ∙ ap (λ (b : Bool). b || (t.nat.0 == m.0)) (has_nat-over body old.nats.items m)) ∙ has in
        elim (or_cases (has_nat old.nats.items m) (t.nat.0 == m.0) both) [
          | inl known ↦ inl known
          | inr same ↦ inr (ap (λ (q : Place). same_place q (places.NatOut m)) is ∙ same)
        ]

-- the place is the router of the gateway's subnet
abbrev pub IsRouterOf : Description → NatNo → Place → Type 0
IsRouterOf d n p = let row = nat_at d n in p ≡ places.Router (subnet_no d (own_subnet row.life)) (from.Nat n)

-- the address is the gateway's own
abbrev pub IsOwnOf : Description → NatNo → ℕ → Type 0
IsOwnOf d n own = let row = nat_at d n in own ≡ own_address row.life

-- one header goes out, and its translation is remembered
translated-at : (d : Description) (appliances : Appliances) (n : NatNo) (own : ℕ) (after : Image) (place : Place) (old new : BoxMoment) (h : Header)
    → old.place ≡ places.NatOut n → remembers old old.place ≡ false → IsHeader (header_at old.header h) → IsOwnOf d n own → IsRouterOf d n place
    → Some (header_at after h) ≡ sent_first own (header_at old.header h) → IsTranslated n place after old new
    → IsStepTo (step_of d appliances labels.Opening (moment_at h old)) h new (onwards.Go place)
translated-at d appliances n own after place old new h is fresh fits own_is place_is sent t =
    let added : ImageNat = record { nat = n; before = image_over after.part old.header; after = after } in
    let first = first_open_is_sent (translations_at h old.nats.items) n own (header_at old.header h) fits (has_none old n h is fresh) in
    let step : step_of d appliances labels.Opening (moment_at h old)
    ≡ record { next = from_nat d n (header_at after h); by = bys.Nothing; conns = connections_at h old.conns.items; nats = translations_at h old.nats.items ++ translation_at h added ∷ [] }
    = ap (λ (p : Place). step_at d appliances labels.Opening p (moment_at h old)) is ∙ sent-out d n own (moment_at h old) (header_at after h) own_is sent first in
    record {
      next = ap (λ (z : Step). z.next) step ∙ ap (λ (p : Place). go p (header_at after h)) (sym place_is ∙ sym t.place) ∙ ap (λ (i : Image). go new.place (header_at i h)) (sym t.header);
      conns = ap (λ (z : Step). z.conns) step ∙ sym (ap (connections_at h) t.conns ∙ connections_at-over h after.part old.conns.items);
      nats = ap (λ (z : Step). z.nats) step
          ∙ sym (ap (translations_at h) t.nats ∙ translations_at-push h (map (nat_over after.part) old.nats.items) added
          ∙ ap (λ (ts : List Translation). ts ++ translation_at h added ∷ []) (translations_at-over h after.part old.nats.items));
    }

-- the moment with the translation
translated-moment : (d : Description) (n : NatNo) (after : Image) (place : Place) (old new : BoxMoment) → IsBoxMoment d labels.Opening old
    → old.place ≡ places.NatOut n → remembers old old.place ≡ false → IsBody after.part old.header.part → IsValidImage after → IsImageOfOpen (addresses_in d) after
    → is_sound d new.place ≡ true → IsTranslated n place after old new → IsBoxMoment d labels.Opening new
translated-moment d n after place old new moment is fresh body valid kind sound t =
    let addresses = addresses_in d in
    let added : ImageNat = record { nat = n; before = image_over after.part old.header; after = after } in
    let over : new.header.part ≡ after.part = ap (λ (i : Image). i.part) t.header in
    let translated : IsTranslatedOver addresses after.part added = record {
      origin = record { over = refl; valid = valid_over_body old.header after.part body.within moment.valid; kind = kind-over labels.Opening addresses after.part old.header body.within moment.kind };
      sent = record { over = refl; valid = valid; kind = kind };
    } in
    let none : has_nat (map (nat_over after.part) old.nats.items) n ≡ false = has_nat-over after.part old.nats.items n ∙ sym (ap (remembers old) is) ∙ fresh in
    record {
      sound = sound;
      valid = subst IsValidImage (sym t.header) valid;
      kind = subst (IsImageOfOpen addresses) (sym t.header) kind;
      conns = subst (λ (b : Box5). All (λ (e : ImageEntry). IsOpenOver addresses b e.header) new.conns.items) (sym over)
          (subst (All (λ (e : ImageEntry). IsOpenOver addresses after.part e.header)) (sym t.conns) (conns-over addresses after.part old.header.part old.conns.items body.within moment.conns));
      nats = subst (λ (b : Box5). All (IsTranslatedOver addresses b) new.nats.items) (sym over)
          (subst (All (IsTranslatedOver addresses after.part)) (sym t.nats)
          (All-append (IsTranslatedOver addresses after.part) (map (nat_over after.part) old.nats.items) (added ∷ [])
          (nats-over addresses after.part old.header.part old.nats.items body.within moment.nats)
          (All-cons (IsTranslatedOver addresses after.part) added [] translated (All-nil (IsTranslatedOver addresses after.part)))));
      apart = subst AreApart (sym t.nats) (apart-push (map (nat_over after.part) old.nats.items) added (apart-over after.part old.nats.items moment.apart) none);
    }

translated-memory : (n : NatNo) (after : Image) (place : Place) (old new : BoxMoment) → old.place ≡ places.NatOut n → IsTranslated n place after old new → RemembersMore old new
translated-memory n after place old new is t =
    let added : ImageNat = record { nat = n; before = image_over after.part old.header; after = after } in record {
      conns = let same = ap (λ (es : List ImageEntry). length es) t.conns ∙ length-map old.conns.items (entry_over after.part) in omega arith;
      nats = let same = ap (λ (ts : List ImageNat). length ts) t.nats ∙ length-append (map (nat_over after.part) old.nats.items) (added ∷ []) in
          let kept = length-map old.nats.items (nat_over after.part) in omega arith;
      known = λ p has. remembers-pushed after.part added old new p t.conns t.nats is has;
    }

-- all packets of a body go out, and the translation of each is remembered
pub translated_step : (d : Description) (appliances : Appliances) (n : NatNo) (own : ℕ) (x : Part (Option Image)) (after : Image) (place : Place) (old new : BoxMoment)
    → IsAccepted d → old.place ≡ places.NatOut n → IsBoxMoment d labels.Opening old → remembers old old.place ≡ false → IsOwnOf d n own → IsRouterOf d n place
    → GivesSent own old.header x → x.told ≡ Some after → IfSome x.told (IsImageOfOpen (addresses_in d)) → IsTranslated n place after old new
    → IsStepOn d appliances labels.Opening old new (onwards.Go place)
translated_step d appliances n own x after place old new accepted is moment fresh own_is place_is k told kinds t =
    let valid : IsValidImage after = subst (λ (o : Option Image). IfSome o IsValidImage) told k.valid in
    let kind : IsImageOfOpen (addresses_in d) after = subst (λ (o : Option Image). IfSome o (IsImageOfOpen (addresses_in d))) told kinds in
    let over : after.part ≡ x.body = subst (λ (o : Option Image). IfSome o (λ (i : Image). i.part ≡ x.body)) told k.over in
    let body : IsBody after.part old.header.part = subst (λ (b : Box5). IsBody b old.header.part) (sym over) k.body in
    let new_over : new.header.part ≡ after.part = ap (λ (i : Image). i.part) t.header in
    let step : (h : Header) → holds h after.part ≡ true → IsStepTo (step_of d appliances labels.Opening (moment_at h old)) h new (onwards.Go place)
    = λ h inside. translated-at d appliances n own after place old new h is fresh
    (images_fit old.header h moment.valid (holds_whole h after.part old.header.part body.within inside)) own_is place_is
    (sent_first-told own old.header x (Some after) h k told (subst (λ (b : Box5). holds h b ≡ true) over inside)) t in
    let low = holds_low after.part (valid_if_within after.part old.header.part body.within) in
    let sound = place-sound d appliances labels.Opening (low_of after.part) old new (onwards.Go place) accepted moment.sound t.place (step (low_of after.part) low) in
    record {
      step = λ h inside. step h (subst (λ (b : Box5). holds h b ≡ true) new_over inside);
      place = t.place;
      body = subst (λ (b : Box5). IsBody b old.header.part) (sym new_over) body;
      aligned = λ cuts at. subst (λ (b : Box5). IsAligned cuts b old.header.part) (sym (new_over ∙ over)) (k.aligned cuts (divide_at_place d fixed_cuts old.place cuts (fixed_are_standing d) at));
      moment = translated-moment d n after place old new moment is fresh body valid kind sound t;
      memory = translated-memory n after place old new is t;
    }

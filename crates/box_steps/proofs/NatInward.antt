-- Steps of all packets of a moment at NAT gateways, on the way back.
use Rattle.std.proofs.Common.{Bool, IfSome, List, None, Option, Some, [], ap, cond, false, find, option_and_then, option_map, refl, subst, sym, true, ℕ, ◌&&◌, ◌==◌, ◌∙◌, ◌∷◌, ◌≡◌}
use Rattle.vpc_base.proofs.Lemmas.{All-contains, eqb-true, find-member, or_parts}
use Rattle.vpc_base.specs.Header.{reply_of}
use Rattle.vpc_base.specs.declared.headers.Label.TheVariants as labels
use Rattle.header_boxes.specs.Terms.{IsAligned, holds}
use Rattle.box_images.specs.Terms.{IsBody, IsImageOfAnswer, IsValidImage, header_at}
use Rattle.image_tests.specs.Types.{Image, Part}
use Rattle.nat_gateway.specs.OnImages.{AreAnswerAndTranslated, GivesInward}
use Rattle.nat_gateway.specs.OnImages as pairs
use Rattle.vpc_laws.proofs.Lemmas.{find-none}
use Rattle.vpc_laws.specs.Types.{Box5, Description, Header, Label, NatNo, Place}
use Rattle.vpc_model.specs.Terms.{Appliances, IsAccepted, Translation, addresses_in, from_inward, go, inward, is_header, plain, step_at, step_of}
use Rattle.vpc_model.specs.declared.places.Place.TheVariants as places
use Rattle.vpc_model.specs.declared.stops.Stop.TheVariants as stops
use Rattle.box_steps.proofs.Turning.{addresses_at_place, all_stopped_step, rewritten_step, stopped_step}
use Rattle.box_steps.specs.Terms.{AreApart, BoxMoment, ImageNat, IsBoxMoment, IsRewritten, IsStepOn, IsTranslatedOver, IsTurned, Onward, has_nat, moment_at, translation_at, translations_at}
use Rattle.box_steps.specs.declared.onward.Onward.TheVariants as onwards
use Rattle.box_steps.proofs.NatOutward.{IsRouterOf}

-- what the gateway sent out, as its answers ask it
abbrev sent_by : NatNo → Header → Translation → Bool
sent_by n k t = (t.nat.0 == n.0) && is_header k (reply_of t.after)

-- the one translation of a gateway, if it has one
abbrev pub one_of : NatNo → List ImageNat → Option ImageNat
one_of n ts = find (λ (t : ImageNat). t.nat.0 == n.0) ts

none-sent : (h : Header) (ts : List ImageNat) (n : NatNo) (k : Header) → has_nat ts n ≡ false → find (sent_by n k) (translations_at h ts) ≡ None
none-sent h [] n k none = refl
none-sent h (t ∷ ts) n k none = let each = or_parts (t.nat.0 == n.0) (has_nat ts n) none in rw each.0 (none-sent h ts n k each.1)

-- a gateway without a translation gives nothing back
inward-none : (h : Header) (ts : List ImageNat) (n : NatNo) (k : Header) → one_of n ts ≡ None → inward (translations_at h ts) n k ≡ None
inward-none h ts n k none = ap (λ (o : Option Translation). option_and_then (λ (t : Translation). reply_of t.before) o) (none-sent h ts n k (find-none (λ (t : ImageNat). t.nat.0 == n.0) ts none))

first-sent : (h : Header) (t : ImageNat) (ts : List ImageNat) (k : Header) → has_nat ts t.nat ≡ false
    → inward (translations_at h (t ∷ ts)) t.nat k ≡ inward (pairs.translation_at t.nat t.before t.after h ∷ []) t.nat k
first-sent h t ts k none =
    ap (λ (o : Option Translation). option_and_then (λ (u : Translation). reply_of u.before) (cond (sent_by t.nat k (translation_at h t)) (Some (translation_at h t)) o)) (none-sent h ts t.nat k none)

-- with one, it gives back by that alone
inward-one : (h : Header) (ts : List ImageNat) (n : NatNo) (k : Header) (t : ImageNat) → AreApart ts → one_of n ts ≡ Some t
    → inward (translations_at h ts) n k ≡ inward (pairs.translation_at n t.before t.after h ∷ []) n k
inward-one h [] n k t apart found = let some : None ≡ Some t = found in absurd cc
inward-one h (u ∷ ts) n k t apart found = by (inward-one h ts n k t apart.1) (u.nat.0 == n.0) refl
  where
    by : (one_of n ts ≡ Some t → inward (translations_at h ts) n k ≡ inward (pairs.translation_at n t.before t.after h ∷ []) n k) → (b : Bool) → (u.nat.0 == n.0) ≡ b
        → inward (translations_at h (u ∷ ts)) n k ≡ inward (pairs.translation_at n t.before t.after h ∷ []) n k
    by later true e =
        let number : u.nat ≡ n = ap (λ (m : ℕ). (let z : NatNo = record { 0 = m } in z)) (eqb-true u.nat.0 n.0 e) in
        let here : Some u ≡ Some t = sym (ap (λ (b : Bool). cond b (Some u) (one_of n ts)) e) ∙ found in
        let same : u ≡ t = cc in
        subst (λ (v : ImageNat). inward (translations_at h (u ∷ ts)) n k ≡ inward (pairs.translation_at n v.before v.after h ∷ []) n k) same
        (subst (λ (m : NatNo). inward (translations_at h (u ∷ ts)) m k ≡ inward (pairs.translation_at m u.before u.after h ∷ []) m k) number (first-sent h u ts k apart.0))
    by later false e =
        let rest : one_of n ts ≡ Some t = sym (ap (λ (b : Bool). cond b (Some u) (one_of n ts)) e) ∙ found in
        ap (λ (b : Bool). option_and_then (λ (v : Translation). reply_of v.before)
        (cond (b && is_header k (reply_of (translation_at h u).after)) (Some (translation_at h u)) (find (sent_by n k) (translations_at h ts)))) e
        ∙ later rest

-- the model's step of an answer, by what the gateway gives back
given-back : (d : Description) (appliances : Appliances) (n : NatNo) (old : BoxMoment) (h : Header) (o : Option Header) → old.place ≡ places.NatIn n
    → inward (translations_at h old.nats.items) n (header_at old.header h) ≡ o
    → step_of d appliances labels.Answer (moment_at h old) ≡ plain (moment_at h old) (from_inward d n o)
given-back d appliances n old h o is given =
    ap (λ (p : Place). step_at d appliances labels.Answer p (moment_at h old)) is ∙ ap (λ (x : Option Header). plain (moment_at h old) (from_inward d n x)) given

inward-told : (addresses : List ℕ) (n : NatNo) (t : ImageNat) (old : BoxMoment) (x : Part (Option Image)) (o : Option Image) (h : Header) → AreApart old.nats.items
    → one_of n old.nats.items ≡ Some t → GivesInward addresses n t.before t.after old.header x → x.told ≡ o → holds h x.body ≡ true
    → inward (translations_at h old.nats.items) n (header_at old.header h) ≡ option_map (λ (i : Image). header_at i h) o
inward-told addresses n t old x o h apart found k told inside =
    inward-one h old.nats.items n (header_at old.header h) t apart found ∙ sym (ap (option_map (λ (i : Image). header_at i h)) (sym told) ∙ k.told h inside)

-- a gateway that has translated nothing stops all answers
pub unsolicited_at_nat : (d : Description) (appliances : Appliances) (n : NatNo) (y : Part Onward) (old new : BoxMoment) (onward : Onward)
    → IsAccepted d → old.place ≡ places.NatIn n → IsBoxMoment d labels.Answer old → one_of n old.nats.items ≡ None
    → y ≡ record { body = old.header.part; told = onwards.Stop (stops.NatUnsolicited n) } → IsTurned y old new onward → IsStepOn d appliances labels.Answer old new onward
unsolicited_at_nat d appliances n y old new onward accepted is moment none y_is t =
    all_stopped_step d appliances labels.Answer y (stops.NatUnsolicited n) old new onward accepted moment t y_is
    (λ h. given-back d appliances n old h None is (inward-none h old.nats.items n (header_at old.header h) none))

-- those that answer no translated open are stopped
pub not_given_back : (d : Description) (appliances : Appliances) (n : NatNo) (t : ImageNat) (x : Part (Option Image)) (y : Part Onward) (old new : BoxMoment) (onward : Onward)
    → IsAccepted d → old.place ≡ places.NatIn n → IsBoxMoment d labels.Answer old → one_of n old.nats.items ≡ Some t
    → GivesInward (addresses_in d) n t.before t.after old.header x → x.told ≡ None
    → y ≡ record { body = x.body; told = onwards.Stop (stops.NatUnsolicited n) } → IsTurned y old new onward → IsStepOn d appliances labels.Answer old new onward
not_given_back d appliances n t x y old new onward accepted is moment found k none y_is turned =
    let body : y.body ≡ x.body = ap (λ (z : Part Onward). z.body) y_is in
    stopped_step d appliances labels.Answer y (stops.NatUnsolicited n) old new onward accepted moment turned (ap (λ (z : Part Onward). z.told) y_is)
    (subst (λ (b : Box5). IsBody b old.header.part) (sym body) k.body)
    (λ cuts at. subst (λ (b : Box5). IsAligned cuts b old.header.part) (sym body) (k.aligned cuts (addresses_at_place d old.place cuts at)))
    (λ h inside. given-back d appliances n old h None is (inward-told (addresses_in d) n t old x None h moment.apart found k none (subst (λ (b : Box5). holds h b ≡ true) body inside)))

-- all others go on as the answers to what was sent
pub given_back : (d : Description) (appliances : Appliances) (n : NatNo) (t : ImageNat) (x : Part (Option Image)) (header : Image) (place : Place) (old new : BoxMoment)
    → IsAccepted d → old.place ≡ places.NatIn n → IsBoxMoment d labels.Answer old → one_of n old.nats.items ≡ Some t → IsRouterOf d n place
    → GivesInward (addresses_in d) n t.before t.after old.header x → x.told ≡ Some header → IfSome x.told (IsImageOfAnswer (addresses_in d))
    → IsRewritten place header old new → IsStepOn d appliances labels.Answer old new (onwards.Go place)
given_back d appliances n t x header place old new accepted is moment found place_is k told kinds r =
    let valid : IsValidImage header = subst (λ (o : Option Image). IfSome o IsValidImage) told k.valid in
    let kind : IsImageOfAnswer (addresses_in d) header = subst (λ (o : Option Image). IfSome o (IsImageOfAnswer (addresses_in d))) told kinds in
    let over : header.part ≡ x.body = subst (λ (o : Option Image). IfSome o (λ (i : Image). i.part ≡ x.body)) told k.over in
    rewritten_step d appliances labels.Answer place header old new accepted moment r
    (subst (λ (b : Box5). IsBody b old.header.part) (sym over) k.body)
    (λ cuts at. subst (λ (b : Box5). IsAligned cuts b old.header.part) (sym over) (k.aligned cuts (addresses_at_place d old.place cuts at)))
    valid kind
    (λ h inside.
    given-back d appliances n old h (Some (header_at header h)) is
    (inward-told (addresses_in d) n t old x (Some header) h moment.apart found k told (subst (λ (b : Box5). holds h b ≡ true) over inside))
    ∙ ap (λ (p : Place). plain (moment_at h old) (go p (header_at header h))) (sym place_is))

-- the translation that was found is one of those remembered
pub found-translated : (d : Description) (label : Label) (n : NatNo) (t : ImageNat) (old : BoxMoment) → IsBoxMoment d label old → one_of n old.nats.items ≡ Some t
    → IsTranslatedOver (addresses_in d) old.header.part t
found-translated d label n t old moment found =
    All-contains (IsTranslatedOver (addresses_in d) old.header.part) old.nats.items t moment.nats (find-member (λ (u : ImageNat). u.nat.0 == n.0) old.nats.items t found).1

pub answer-and-translated : (d : Description) (n : NatNo) (t : ImageNat) (old : BoxMoment) → IsBoxMoment d labels.Answer old → one_of n old.nats.items ≡ Some t
    → AreAnswerAndTranslated (addresses_in d) old.header t.before t.after
answer-and-translated d n t old moment found =
    let k = found-translated d labels.Answer n t old moment found in record { answer = moment.kind; origin = k.origin.kind; sent = k.sent.kind }

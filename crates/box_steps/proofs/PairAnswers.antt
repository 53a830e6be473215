-- What pairs of a private and a public address answer for all headers of a body.
use Rattle.std.proofs.Common.{Contains, None, Option, Some, [], ap, filter, find, is_some, option_map, subst, sym, true, ℕ, ◌==◌, ◌∙◌, ◌∷◌, ◌≡◌}
use Rattle.vpc_base.proofs.Lemmas.{Contains-here, Contains-later, and_parts, filter-member, filter_map-member, find-member, flat_map-member}
use Rattle.header_boxes.specs.Boxes.{IsWithin}
use Rattle.box_images.proofs.Lemmas.{valid_over_body}
use Rattle.box_images.specs.Terms.{IsValidImage}
use Rattle.image_tests.specs.Types.{Image}
use Rattle.vpc_laws.specs.Types.{Box5, Description, Header, Label, Place, VpcNo}
use Rattle.vpc_model.specs.Terms.{Appliances, addresses_in, both_addresses, gateway_of, has_gateway, is_in_vpc, is_vpc, pair_of, pairs_in, pairs_of, step_at, step_of}
use Rattle.box_steps.proofs.HostAnswers.{addresses_have}
use Rattle.box_steps.proofs.Narrowing.{IsKept, kept_if_narrowed, kind-over}
use Rattle.box_steps.specs.Terms.{BoxMoment, IsBoxMoment, IsImageOf, IsNarrowed, moment_at}

-- ---- pairs of a private and a public address

pair-both : (x : ℕ × Option ℕ) (p : ℕ × ℕ) → pair_of x ≡ Some p → Contains (both_addresses x) p.0 × Contains (both_addresses x) p.1
pair-both (a, None) p is = absurd (let none : None ≡ Some p = is in cc)
pair-both (a, Some b) p is =
    let same : (a, b) ≡ p = let some : Some (a, b) ≡ Some p = is in cc in (
      subst (λ (q : ℕ × ℕ). Contains (a ∷ b ∷ []) q.0) same (Contains-here a (b ∷ [])),
      subst (λ (q : ℕ × ℕ). Contains (a ∷ b ∷ []) q.1) same (Contains-later a (b ∷ []) b (Contains-here b [])),
    )

-- both are addresses of the description
pairs_have : (d : Description) (v : VpcNo) (p : ℕ × ℕ) → Contains (pairs_in d v) p → Contains (addresses_in d) p.0 × Contains (addresses_in d) p.1
pairs_have d v p has =
    let row = flat_map-member pairs_of (filter (is_in_vpc d v) d.interfaces) p has in
    let listed = (filter-member (is_in_vpc d v) d.interfaces row.0 row.1).1 in
    let x = filter_map-member pair_of row.0.addresses p row.2 in
    let both = pair-both x.0 p x.2 in
    (addresses_have d row.0 x.0 p.0 listed x.1 both.0, addresses_have d row.0 x.0 p.1 listed x.1 both.1)

-- the public address of a private one
pub public-has : (d : Description) (v : VpcNo) (a public : ℕ) (o : Option (ℕ × ℕ)) → find (λ p. p.0 == a) (pairs_in d v) ≡ o → option_map (λ p. p.1) o ≡ Some public → Contains (addresses_in d) public
public-has d v a public None is told = absurd (let none : None ≡ Some public = told in cc)
public-has d v a public (Some p) is told =
    let same : p.1 ≡ public = let some : Some p.1 ≡ Some public = told in cc in
    subst (Contains (addresses_in d)) same (pairs_have d v p (find-member (λ p. p.0 == a) (pairs_in d v) p is).1).1

-- the private address of a public one
pub private-has : (d : Description) (v : VpcNo) (public own : ℕ) (o : Option (ℕ × ℕ)) → find (λ p. p.1 == public) (pairs_in d v) ≡ o → option_map (λ p. p.0) o ≡ Some own → Contains (addresses_in d) own
private-has d v public own None is told = absurd (let none : None ≡ Some own = told in cc)
private-has d v public own (Some p) is told =
    let same : p.0 ≡ own = let some : Some p.0 ≡ Some own = told in cc in
    subst (Contains (addresses_in d)) same (pairs_have d v p (find-member (λ p. p.1 == public) (pairs_in d v) p is).1).0

-- ---- moments at a gateway

pub gateway-vpc : (d : Description) (v : VpcNo) → has_gateway d v ≡ true → is_vpc d v ≡ true
gateway-vpc d v has = (and_parts (is_vpc d v) (is_some (gateway_of d v)) has).0

-- the moment is the narrowed one with another place and header
pub record IsSent (narrowed new : BoxMoment) (p : Place) (i : Image) : Type 0 where
  pub place : new.place ≡ p
  pub header : new.header ≡ i
  pub conns : new.conns.items ≡ narrowed.conns.items
  pub nats : new.nats.items ≡ narrowed.nats.items

-- so it keeps what is remembered, and an image of its kind
pub sent-kept : (narrowed new old : BoxMoment) (x : Box5) (place : Place) (header : Image) → IsNarrowed x old narrowed → IsSent narrowed new place header → IsKept x old new
sent-kept narrowed new old x place header n s = let kept = kept_if_narrowed x old narrowed n in record { conns = s.conns ∙ kept.conns; nats = s.nats ∙ kept.nats }

pub kind_narrowed : (d : Description) (label : Label) (body : Box5) (old narrowed : BoxMoment) → IsBoxMoment d label old → IsWithin body old.header.part → IsNarrowed body old narrowed
    → IsImageOf label (addresses_in d) narrowed.header
kind_narrowed d label body old narrowed k within n = subst (IsImageOf label (addresses_in d)) (sym n.header) (kind-over label (addresses_in d) body old.header within k.kind)

pub valid_narrowed : (d : Description) (label : Label) (body : Box5) (old narrowed : BoxMoment) → IsBoxMoment d label old → IsWithin body old.header.part → IsNarrowed body old narrowed → IsValidImage narrowed.header
valid_narrowed d label body old narrowed k within n = subst IsValidImage (sym n.header) (valid_over_body old.header body within k.valid)

pub at-place : (d : Description) (appliances : Appliances) (label : Label) (h : Header) (m : BoxMoment) (p : Place) → m.place ≡ p
    → step_of d appliances label (moment_at h m) ≡ step_at d appliances label p (moment_at h m)
at-place d appliances label h m p is = ap (λ (q : Place). step_at d appliances label q (moment_at h m)) is

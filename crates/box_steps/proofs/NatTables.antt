-- What a NAT gateway asks of all packets of a moment: its translations, their side, its subnet.
use Rattle.std.proofs.Common.{Bool, Contains, List, Option, [], ap, arith, false, flat_map, inl, inr, refl, subst, sym, true, ℕ, ◌++◌, ◌==◌, ◌||◌, ◌∙◌, ◌∷◌, ◌≡◌, ◌⊎◌}
use Rattle.vpc_base.proofs.Lemmas.{Contains-flat_map, Contains-here, and_parts, eqb-true, false≢true, list_any-member, nat_tests, or_from, or_parts, row-member}
use Rattle.std.specs.List.{list_any}
use Rattle.vpc_base.specs.declared.headers.Label.TheVariants as labels
use Rattle.image_tests.specs.Types.{Part}
use Rattle.vpc_laws.proofs.Lemmas.{nat_addresses_are_interfaces}
use Rattle.vpc_laws.specs.Types.{Description, Header, Interface, Label, NatLife, NatNo, Place}
use Rattle.vpc_model.specs.Terms.{Appliances, IsAccepted, Translation, addresses_in, both_addresses, eni_no, interface_at, is_assigned, is_live, is_nat, is_sound, nat_at, no_interface, own_address, step_at}
use Rattle.vpc_model.specs.declared.places.Place.TheVariants as places
use Rattle.vpc_model.specs.declared.rows.NatLife.TheVariants as lives
use Rattle.vpc_model.specs.declared.stops.Stop.TheVariants as stops
use Rattle.box_steps.proofs.Turning.{all_stopped_step}
use Rattle.box_steps.specs.Terms.{AreApart, BoxMoment, ImageNat, IsBoxMoment, IsStepOn, IsTurned, Onward, has_nat, moment_at, translation_at, translations_at}
use Rattle.box_steps.specs.declared.onward.Onward.TheVariants as onwards

-- ---- lists of translations

pub has_nat-at : (h : Header) (ts : List ImageNat) (n : NatNo) → list_any (λ (t : Translation). t.nat.0 == n.0) (translations_at h ts) ≡ has_nat ts n
has_nat-at h [] n = refl
has_nat-at h (t ∷ ts) n = ap (λ (b : Bool). (t.nat.0 == n.0) || b) (has_nat-at h ts n)

pub has_nat-push : (ts : List ImageNat) (t : ImageNat) (n : NatNo) → has_nat (ts ++ t ∷ []) n ≡ (has_nat ts n || (t.nat.0 == n.0))
has_nat-push [] t n = or-false (t.nat.0 == n.0)
  where
    or-false : (b : Bool) → (b || false) ≡ b
    or-false true = refl
    or-false false = refl
has_nat-push (u ∷ ts) t n = ap (λ (b : Bool). (u.nat.0 == n.0) || b) (has_nat-push ts t n) ∙ or-later (u.nat.0 == n.0) (has_nat ts n) (t.nat.0 == n.0)
  where
    or-later : (a b c : Bool) → (a || (b || c)) ≡ ((a || b) || c)
    or-later true b c = refl
    or-later false b c = refl

same-number : (m n : ℕ) → (m == n) ≡ false → (n == m) ≡ false
same-number m n e = grind (arith, nat_tests)

-- a gateway that has translated nothing is added
pub apart-push : (ts : List ImageNat) (t : ImageNat) → AreApart ts → has_nat ts t.nat ≡ false → AreApart (ts ++ t ∷ [])
apart-push [] t k none = (refl, tt)
apart-push (u ∷ ts) t k none =
    let each = or_parts (u.nat.0 == t.nat.0) (has_nat ts t.nat) none in (
      has_nat-push ts t u.nat ∙ or_from (has_nat ts u.nat) (t.nat.0 == u.nat.0) k.0 (same-number u.nat.0 t.nat.0 each.0),
      apart-push ts t k.1 each.1,
    )

pub translations_at-push : (h : Header) (ts : List ImageNat) (t : ImageNat) → translations_at h (ts ++ t ∷ []) ≡ translations_at h ts ++ translation_at h t ∷ []
translations_at-push h [] t = refl
translations_at-push h (u ∷ ts) t = ap (λ (xs : List Translation). translation_at h u ∷ xs) (translations_at-push h ts t)

-- ---- packets that come from the wrong side

pub answer_at_nat_out : (d : Description) (appliances : Appliances) (n : NatNo) (x : Part Onward) (old new : BoxMoment) (onward : Onward)
    → IsAccepted d → old.place ≡ places.NatOut n → IsBoxMoment d labels.Answer old → x ≡ record { body = old.header.part; told = onwards.Stop (stops.NatAnswer n) }
    → IsTurned x old new onward → IsStepOn d appliances labels.Answer old new onward
answer_at_nat_out d appliances n x old new onward accepted is moment x_is t =
    all_stopped_step d appliances labels.Answer x (stops.NatAnswer n) old new onward accepted moment t x_is
    (λ h. ap (λ (p : Place). step_at d appliances labels.Answer p (moment_at h old)) is)

pub open_at_nat_in : (d : Description) (appliances : Appliances) (n : NatNo) (x : Part Onward) (old new : BoxMoment) (onward : Onward)
    → IsAccepted d → old.place ≡ places.NatIn n → IsBoxMoment d labels.Opening old → x ≡ record { body = old.header.part; told = onwards.Stop (stops.NatUnsolicited n) }
    → IsTurned x old new onward → IsStepOn d appliances labels.Opening old new onward
open_at_nat_in d appliances n x old new onward accepted is moment x_is t =
    all_stopped_step d appliances labels.Opening x (stops.NatUnsolicited n) old new onward accepted moment t x_is
    (λ h. ap (λ (p : Place). step_at d appliances labels.Opening p (moment_at h old)) is)

-- ---- the gateway

-- a gateway where a packet can be is described and translates
pub works_at : (d : Description) (label : Label) (n : NatNo) (old : BoxMoment) → IsBoxMoment d label old → (old.place ≡ places.NatOut n) ⊎ (old.place ≡ places.NatIn n)
    → (is_nat d n ≡ true) × (let row = nat_at d n in is_live row.life ≡ true)
works_at d label n old moment (inl is) = let row = nat_at d n in and_parts (is_nat d n) (is_live row.life) (ap (is_sound d) (sym is) ∙ moment.sound)
works_at d label n old moment (inr is) = let row = nat_at d n in and_parts (is_nat d n) (is_live row.life) (ap (is_sound d) (sym is) ∙ moment.sound)

address-listed : (d : Description) (e : Interface) (a : ℕ) → Contains d.interfaces e → is_assigned e a ≡ true → Contains (addresses_in d) a
address-listed d e a listed has =
    let found = list_any-member (λ (x : ℕ × Option ℕ). x.0 == a) e.addresses has in
    let pair = found.0 in
    let mine : Contains (both_addresses pair) a = subst (Contains (both_addresses pair)) (eqb-true pair.0 a found.2) (Contains-here pair.0 _) in
    Contains-flat_map (λ (f : Interface). flat_map both_addresses f.addresses) d.interfaces e a listed (Contains-flat_map both_addresses e.addresses pair a found.1 mine)

-- the address of a gateway that translates is one of an interface
own-listed : (d : Description) (n : NatNo) (life : NatLife) → IsAccepted d → is_nat d n ≡ true → (let row = nat_at d n in row.life ≡ life) → is_live life ≡ true
    → Contains (addresses_in d) (own_address life)
own-listed d n lives.Gone accepted lies is live = absurd (false≢true live)
own-listed d n lives.Unmodelled accepted lies is live = absurd (false≢true live)
own-listed d n (lives.Live subnet eni address) accepted lies is live =
    let found = nat_addresses_are_interfaces d n subnet eni address accepted lies is in
    let i = eni_no d eni in
    address-listed d (interface_at d i) address (row-member d.interfaces i.0 no_interface found.0) found.3

pub own_listed : (d : Description) (n : NatNo) (own : ℕ) (old : BoxMoment) → IsAccepted d → IsBoxMoment d labels.Opening old → old.place ≡ places.NatOut n → (let row = nat_at d n in own ≡ own_address row.life)
    → Contains (addresses_in d) own
own_listed d n own old accepted moment is own_is =
    let works = works_at d labels.Opening n old moment (inl is) in
    let row = nat_at d n in
    subst (Contains (addresses_in d)) (sym own_is) (own-listed d n row.life accepted works.0 refl works.1)

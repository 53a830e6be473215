-- By which attachment and subnet a packet comes into a transit gateway.
use Rattle.std.proofs.Common.{◌≡◌, ◌∙◌, Err, List, None, Ok, Option, Some, ap, refl, sym, ℕ}
use Rattle.transit_gateway.specs.Index.{enter_by, enter_zone, entered}
use Rattle.transit_gateway.specs.declared.index.EnterStop.TheVariants as enter_stop
use Rattle.vpc_laws.specs.Types.{AttNo, Description, Header, SubnetNo, TableNo}
use Rattle.vpc_model.specs.Step.Router.{to_transit, to_zone}
use Rattle.vpc_model.specs.Step.Words.{stop}
use Rattle.vpc_model.specs.Transit.{attachment_for, zone_subnet}
use Rattle.vpc_model.specs.declared.stops.Stop.TheVariants as stops

-- ---- what is found

same-pair : (b a : AttNo) (u t : SubnetNo) → enter_zone b (Some u) ≡ Ok (a, t) → ◌≡◌ {A = AttNo × SubnetNo} (b, u) (a, t)
same-pair b a u t e = cc

same-attachment : (b a : AttNo) → enter_zone b None ≡ Err (enter_stop.NoZone a) → b ≡ a
same-attachment b a e = cc

enters-by : (zone : AttNo → Option SubnetNo) (b a : AttNo) (t : SubnetNo) (z : Option SubnetNo) → zone b ≡ z → enter_zone b z ≡ Ok (a, t) → (Some b ≡ Some a) × (zone a ≡ Some t)
enters-by zone b a t None is e = absurd cc
enters-by zone b a t (Some u) is e =
    let pair = same-pair b a u t e in
    let attachment : b ≡ a = ap (λ (x : AttNo × SubnetNo). x.0) pair in
    (ap (λ (x : AttNo). Some x) attachment, ap zone (sym attachment) ∙ is ∙ ap (λ (x : AttNo × SubnetNo). Some x.1) pair)

enters : (o : Option AttNo) (zone : AttNo → Option SubnetNo) (a : AttNo) (t : SubnetNo) → enter_by o zone ≡ Ok (a, t) → (o ≡ Some a) × (zone a ≡ Some t)
enters None zone a t e = absurd cc
enters (Some b) zone a t e = enters-by zone b a t (zone b) refl e

finds-no-zone-by : (zone : AttNo → Option SubnetNo) (b a : AttNo) (z : Option SubnetNo) → zone b ≡ z → enter_zone b z ≡ Err (enter_stop.NoZone a) → (Some b ≡ Some a) × (zone a ≡ None)
finds-no-zone-by zone b a None is e = let attachment = same-attachment b a e in (ap (λ (x : AttNo). Some x) attachment, ap zone (sym attachment) ∙ is)
finds-no-zone-by zone b a (Some u) is e = absurd cc

finds-no-zone : (o : Option AttNo) (zone : AttNo → Option SubnetNo) (a : AttNo) → enter_by o zone ≡ Err (enter_stop.NoZone a) → (o ≡ Some a) × (zone a ≡ None)
finds-no-zone None zone a e = absurd cc
finds-no-zone (Some b) zone a e = finds-no-zone-by zone b a (zone b) refl e

some-attachment : (b : AttNo) (z : Option SubnetNo) → enter_zone b z ≡ Err enter_stop.NoAttachment → Some b ≡ None
some-attachment b None e = absurd cc
some-attachment b (Some u) e = absurd cc

finds-no-attachment : (o : Option AttNo) (zone : AttNo → Option SubnetNo) → enter_by o zone ≡ Err enter_stop.NoAttachment → o ≡ None
finds-no-attachment None zone e = refl
finds-no-attachment (Some b) zone e = some-attachment b (zone b) e

-- ---- a route to a transit gateway

pub to_transit-entered : (d : Description) (s : SubnetNo) (h : Header) (t : TableNo) (k : ℕ) (gateway : List ℕ) (a : AttNo) (u : SubnetNo) → entered d gateway s ≡ Ok (a, u)
    → to_zone d s h a (Some u) ≡ to_transit d s h t k (attachment_for d gateway s)
to_transit-entered d s h t k gateway a u told =
    let found = enters (attachment_for d gateway s) (λ b. zone_subnet d b s) a u told in
    sym (ap (to_transit d s h t k) found.0 ∙ ap (to_zone d s h a) found.1)

pub to_transit-no_zone : (d : Description) (s : SubnetNo) (h : Header) (t : TableNo) (k : ℕ) (gateway : List ℕ) (a : AttNo) → entered d gateway s ≡ Err (enter_stop.NoZone a)
    → to_zone d s h a None ≡ to_transit d s h t k (attachment_for d gateway s)
to_transit-no_zone d s h t k gateway a told =
    let found = finds-no-zone (attachment_for d gateway s) (λ b. zone_subnet d b s) a told in
    sym (ap (to_transit d s h t k) found.0 ∙ ap (to_zone d s h a) found.1)

pub to_transit-no_attachment : (d : Description) (s : SubnetNo) (h : Header) (t : TableNo) (k : ℕ) (gateway : List ℕ) → entered d gateway s ≡ Err enter_stop.NoAttachment
    → stop (stops.TgwNoAttachment t k) ≡ to_transit d s h t k (attachment_for d gateway s)
to_transit-no_attachment d s h t k gateway told =
    sym (ap (to_transit d s h t k) (finds-no-attachment (attachment_for d gateway s) (λ b. zone_subnet d b s) told))

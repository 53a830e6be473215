-- The tests of what stops requests decide whether it is one.
use Rattle.std.proofs.Common.{◌≡◌, ◌==◌, ◌&&◌, None, Option, Some, ap, ap₂, refl, subst, true, ℕ}
use Rattle.std.specs.Bool.{Decides}
use Rattle.std.specs.Prelude.{bytes_eq}
use Rattle.std.proofs.lemmas.Bool.{and_from, and_parts, eqb-true, false≢true}
use Rattle.vpc_base.proofs.Bytes.{bytes_self, same_bytes}
use Rattle.vpc_model.proofs.Names.{name_text_tells}
use Rattle.vpc_model.proofs.Parts.{same_parts}
use Rattle.vpc_laws.proofs.Same.{AttNo-same, EniNo-same, NatNo-same, PeerNo-same, SubnetNo-same, VpcNo-same, ends_are_told_apart, itself, same_place-refl, same_place-true}
use Rattle.vpc_laws.specs.Types.{AclNo, Component, Foreign, IgwNo, Phase, Stop, StopRule, TableNo, TgwTableNo}
use Rattle.vpc_model.specs.declared.outcomes.Phase.TheVariants as phases
use Rattle.vpc_model.specs.declared.stops.Foreign.TheVariants as foreign
use Rattle.vpc_model.specs.declared.stops.Component.TheVariants as at
use Rattle.vpc_model.specs.declared.stops.StopRule.TheVariants as rules
use Rattle.vpc_model.specs.Names.{name_text}
use Rattle.vpc_model.specs.Told.{component_of, name_of, parts_of, rule_of}
use Rattle.unused_rules.specs.Same.{same_component, same_foreign, same_phase, same_rule, same_stop, same_told}

-- ---- numbers

AclNo-same : (a b : AclNo) → (a.0 == b.0) ≡ true → a ≡ b
AclNo-same a b e = let make : ℕ → AclNo = λ k. record { 0 = k } in ap make (eqb-true a.0 b.0 e)

IgwNo-same : (a b : IgwNo) → (a.0 == b.0) ≡ true → a ≡ b
IgwNo-same a b e = let make : ℕ → IgwNo = λ k. record { 0 = k } in ap make (eqb-true a.0 b.0 e)

TableNo-same : (a b : TableNo) → (a.0 == b.0) ≡ true → a ≡ b
TableNo-same a b e = let make : ℕ → TableNo = λ k. record { 0 = k } in ap make (eqb-true a.0 b.0 e)

TgwTableNo-same : (a b : TgwTableNo) → (a.0 == b.0) ≡ true → a ≡ b
TgwTableNo-same a b e = let make : ℕ → TgwTableNo = λ k. record { 0 = k } in ap make (eqb-true a.0 b.0 e)

-- a row and its number in it
placed : {A B : Type 0} (make : A → ℕ → B) (n_of : A → ℕ) → ((a b : A) → (n_of a == n_of b) ≡ true → a ≡ b) → (a b : A) (j k : ℕ) → ((n_of a == n_of b) && (j == k)) ≡ true → make a j ≡ make b k
placed make n_of same a b j k e = let parts = and_parts (n_of a == n_of b) (j == k) e in ap₂ make (same a b parts.0) (eqb-true j k parts.1)

both : (j k : ℕ) → ((j == j) && (k == k)) ≡ true
both j k = and_from (j == j) (k == k) (itself j) (itself k)

-- ---- stops

same_foreign-true : (a b : Foreign) → same_foreign a b ≡ true → a ≡ b
same_foreign-true (foreign.Target x j) (foreign.Target y k) e = placed foreign.Target (λ t. t.0) TableNo-same x y j k e
same_foreign-true (foreign.Nat x) (foreign.Nat y) e = ap foreign.Nat (NatNo-same x y e)
same_foreign-true (foreign.Peering x) (foreign.Peering y) e = ap foreign.Peering (PeerNo-same x y e)
same_foreign-true (foreign.Attachment x) (foreign.Attachment y) e = ap foreign.Attachment (AttNo-same x y e)
same_foreign-true (foreign.Table x) (foreign.Table y) e = ap foreign.Table (TgwTableNo-same x y e)
same_foreign-true (foreign.FarAttachment x j) (foreign.FarAttachment y k) e = placed foreign.FarAttachment (λ t. t.0) TgwTableNo-same x y j k e
same_foreign-true _ _ e = absurd (false≢true e)

same_foreign-refl : (a : Foreign) → same_foreign a a ≡ true
same_foreign-refl (foreign.Target x j) = both x.0 j
same_foreign-refl (foreign.Nat x) = itself x.0
same_foreign-refl (foreign.Peering x) = itself x.0
same_foreign-refl (foreign.Attachment x) = itself x.0
same_foreign-refl (foreign.Table x) = itself x.0
same_foreign-refl (foreign.FarAttachment x j) = both x.0 j

same_component-true : (a b : Component) → same_component a b ≡ true → a ≡ b
same_component-true (at.Interface x) (at.Interface y) e = ap at.Interface (EniNo-same x y e)
same_component-true (at.Table x) (at.Table y) e = ap at.Table (TableNo-same x y e)
same_component-true (at.Target x j) (at.Target y k) e = placed at.Target (λ t. t.0) TableNo-same x y j k e
same_component-true (at.Acl x) (at.Acl y) e = ap at.Acl (AclNo-same x y e)
same_component-true (at.Vpc x) (at.Vpc y) e = ap at.Vpc (VpcNo-same x y e)
same_component-true (at.Subnet x) (at.Subnet y) e = ap at.Subnet (SubnetNo-same x y e)
same_component-true (at.InternetGateway x) (at.InternetGateway y) e = ap at.InternetGateway (IgwNo-same x y e)
same_component-true (at.NatGateway x) (at.NatGateway y) e = ap at.NatGateway (NatNo-same x y e)
same_component-true (at.Peering x) (at.Peering y) e = ap at.Peering (PeerNo-same x y e)
same_component-true (at.Attachment x) (at.Attachment y) e = ap at.Attachment (AttNo-same x y e)
same_component-true (at.TransitTable x) (at.TransitTable y) e = ap at.TransitTable (TgwTableNo-same x y e)
same_component-true (at.Foreign x) (at.Foreign y) e = ap at.Foreign (same_foreign-true x y e)
same_component-true (at.Place x) (at.Place y) e = ap at.Place (same_place-true x y e)
same_component-true (at.End x) (at.End y) e = let decides = ends_are_told_apart x y in ap at.End (decides.0 e)
same_component-true _ _ e = absurd (false≢true e)

same_component-refl : (a : Component) → same_component a a ≡ true
same_component-refl (at.Interface x) = itself x.0
same_component-refl (at.Table x) = itself x.0
same_component-refl (at.Target x j) = both x.0 j
same_component-refl (at.Acl x) = itself x.0
same_component-refl (at.Vpc x) = itself x.0
same_component-refl (at.Subnet x) = itself x.0
same_component-refl (at.InternetGateway x) = itself x.0
same_component-refl (at.NatGateway x) = itself x.0
same_component-refl (at.Peering x) = itself x.0
same_component-refl (at.Attachment x) = itself x.0
same_component-refl (at.TransitTable x) = itself x.0
same_component-refl (at.Foreign x) = same_foreign-refl x
same_component-refl (at.Place x) = same_place-refl x
same_component-refl (at.End x) = let decides = ends_are_told_apart x x in decides.1 refl

same_rule-true : (a b : StopRule) → same_rule a b ≡ true → a ≡ b
same_rule-true rules.None rules.None e = refl
same_rule-true (rules.AclRow j) (rules.AclRow k) e = ap rules.AclRow (eqb-true j k e)
same_rule-true (rules.Route x j) (rules.Route y k) e = placed rules.Route (λ t. t.0) TableNo-same x y j k e
same_rule-true (rules.TransitRoute x j) (rules.TransitRoute y k) e = placed rules.TransitRoute (λ t. t.0) TgwTableNo-same x y j k e
same_rule-true (rules.Access x) (rules.Access y) e = ap rules.Access (SubnetNo-same x y e)
same_rule-true _ _ e = absurd (false≢true e)

same_rule-refl : (a : StopRule) → same_rule a a ≡ true
same_rule-refl rules.None = refl
same_rule-refl (rules.AclRow j) = itself j
same_rule-refl (rules.Route x j) = both x.0 j
same_rule-refl (rules.TransitRoute x j) = both x.0 j
same_rule-refl (rules.Access x) = itself x.0

same_stop-true : (a b : Stop) → same_stop a b ≡ true → a ≡ b
same_stop-true a b e =
    let name = name_text (name_of a) in
    let other = name_text (name_of b) in
    let component = same_component (component_of a) (component_of b) in
    let rule = same_rule (rule_of a) (rule_of b) in
    let parts = and_parts (bytes_eq name other) (component && rule) e in
    let more = and_parts component rule parts.1 in
    same_parts a b (parts_of a) (parts_of b) refl refl
    (name_text_tells (name_of a) (name_of b) (same_bytes name other parts.0))
    (same_component-true (component_of a) (component_of b) more.0) (same_rule-true (rule_of a) (rule_of b) more.1)

same_stop-refl : (a : Stop) → same_stop a a ≡ true
same_stop-refl a =
    let name = name_text (name_of a) in
    let component = component_of a in
    let rule = rule_of a in
    and_from (bytes_eq name name) (same_component component component && same_rule rule rule) (bytes_self name)
    (and_from (same_component component component) (same_rule rule rule) (same_component-refl component) (same_rule-refl rule))

same_phase-true : (a b : Phase) → same_phase a b ≡ true → a ≡ b
same_phase-true phases.Request phases.Request e = refl
same_phase-true phases.Reply phases.Reply e = refl
same_phase-true _ _ e = absurd (false≢true e)

same_phase-refl : (a : Phase) → same_phase a a ≡ true
same_phase-refl phases.Request = refl
same_phase-refl phases.Reply = refl

-- ---- what is told

same_told-true : (a b : Option (Phase × Stop)) → same_told a b ≡ true → a ≡ b
same_told-true None None e = refl
same_told-true (Some a) (Some b) e =
    let parts = and_parts (same_phase a.0 b.0) (same_stop a.1 b.1) e in
    ap₂ (λ (p : Phase) (s : Stop). Some (p, s)) (same_phase-true a.0 b.0 parts.0) (same_stop-true a.1 b.1 parts.1)
same_told-true _ _ e = absurd (false≢true e)

same_told-refl : (a : Option (Phase × Stop)) → same_told a a ≡ true
same_told-refl None = refl
same_told-refl (Some a) = and_from (same_phase a.0 a.0) (same_stop a.1 a.1) (same_phase-refl a.0) (same_stop-refl a.1)

pub told_apart : (a b : Option (Phase × Stop)) → Decides (same_told a b) (a ≡ b)
told_apart a b = (same_told-true a b, λ e. subst (λ (c : Option (Phase × Stop)). same_told a c ≡ true) e (same_told-refl a))

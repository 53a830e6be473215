-- The tests of places, headers, connections and ends decide whether two of them are one.
use Rattle.std.proofs.Common.{◌≡◌, ℕ, ◌==◌, ◌&&◌, true, refl, ap, subst, ap₂}
use Rattle.std.specs.Bool.{Decides}
use Rattle.std.proofs.lemmas.Bool.{and_parts, and_from, eqb-true, eq-eqb, false≢true}
use Rattle.vpc_base.specs.Dir.{same_dir}
use Rattle.vpc_base.specs.declared.headers.Dir.TheVariants.{Inward, Outward}
use Rattle.vpc_model.specs.declared.places.Came.TheVariants.{Firewall, Host, Nat, Transit}
use Rattle.vpc_model.specs.declared.places.End.TheVariants.{Far as AtFar, Interface, Internet as AtInternet}
use Rattle.vpc_model.specs.declared.places.EnterBy.TheVariants.{Far, Gateway, Peering}
use Rattle.vpc_model.specs.declared.places.Place.TheVariants.{OutOf, Router, Enter, Into, IgwOut, Internet, IgwIn, NatOut, NatIn, Peer, Tgw, TgwLeave, FarOut, FarIn, Inspect}
use Rattle.vpc_laws.specs.Types.{AttNo, Came, Dir, End, EniNo, EnterBy, FarNo, FirewallNo, Header, NatNo, PeerNo, Place, SubnetNo, VpcNo}
use Rattle.vpc_model.specs.Connections.{Connection, same_connection, same_header}
use Rattle.vpc_model.specs.Verdict.{same_end}
use Rattle.vpc_model.specs.Walk.{same_came, same_enter, same_place}
use Rattle.vpc_laws.proofs.Flow.{same_header-fields}
use Rattle.vpc_laws.proofs.Replies.{same_header-refl}

-- ---- numbers

pub VpcNo-same : (a b : VpcNo) → (a.0 == b.0) ≡ true → a ≡ b
VpcNo-same a b e = let make : ℕ → VpcNo = λ k. record { 0 = k } in ap make (eqb-true a.0 b.0 e)

pub SubnetNo-same : (a b : SubnetNo) → (a.0 == b.0) ≡ true → a ≡ b
SubnetNo-same a b e = let make : ℕ → SubnetNo = λ k. record { 0 = k } in ap make (eqb-true a.0 b.0 e)

pub EniNo-same : (a b : EniNo) → (a.0 == b.0) ≡ true → a ≡ b
EniNo-same a b e = let make : ℕ → EniNo = λ k. record { 0 = k } in ap make (eqb-true a.0 b.0 e)

pub NatNo-same : (a b : NatNo) → (a.0 == b.0) ≡ true → a ≡ b
NatNo-same a b e = let make : ℕ → NatNo = λ k. record { 0 = k } in ap make (eqb-true a.0 b.0 e)

pub PeerNo-same : (a b : PeerNo) → (a.0 == b.0) ≡ true → a ≡ b
PeerNo-same a b e = let make : ℕ → PeerNo = λ k. record { 0 = k } in ap make (eqb-true a.0 b.0 e)

pub AttNo-same : (a b : AttNo) → (a.0 == b.0) ≡ true → a ≡ b
AttNo-same a b e = let make : ℕ → AttNo = λ k. record { 0 = k } in ap make (eqb-true a.0 b.0 e)

pub FarNo-same : (a b : FarNo) → (a.0 == b.0) ≡ true → a ≡ b
FarNo-same a b e = let make : ℕ → FarNo = λ k. record { 0 = k } in ap make (eqb-true a.0 b.0 e)

pub FirewallNo-same : (a b : FirewallNo) → (a.0 == b.0) ≡ true → a ≡ b
FirewallNo-same a b e = let make : ℕ → FirewallNo = λ k. record { 0 = k } in ap make (eqb-true a.0 b.0 e)

pub itself : (n : ℕ) → (n == n) ≡ true
itself n = eq-eqb n n refl

-- ---- places

same_came-true : (a b : Came) → same_came a b ≡ true → a ≡ b
same_came-true (Host i) (Host j) e = ap Host (EniNo-same i j e)
same_came-true (Nat n) (Nat o) e = ap Nat (NatNo-same n o e)
same_came-true (Transit x) (Transit y) e = ap Transit (AttNo-same x y e)
same_came-true (Firewall x) (Firewall y) e = ap Firewall (FirewallNo-same x y e)
same_came-true _ _ e = absurd (false≢true e)

same_came-refl : (a : Came) → same_came a a ≡ true
same_came-refl (Host i) = itself i.0
same_came-refl (Nat n) = itself n.0
same_came-refl (Transit x) = itself x.0
same_came-refl (Firewall x) = itself x.0

same_enter-true : (a b : EnterBy) → same_enter a b ≡ true → a ≡ b
same_enter-true Gateway Gateway e = refl
same_enter-true (Peering x) (Peering y) e = ap Peering (PeerNo-same x y e)
same_enter-true (Far k) (Far l) e = ap Far (FarNo-same k l e)
same_enter-true _ _ e = absurd (false≢true e)

same_enter-refl : (a : EnterBy) → same_enter a a ≡ true
same_enter-refl Gateway = refl
same_enter-refl (Peering x) = itself x.0
same_enter-refl (Far k) = itself k.0

pub same_place-true : (p q : Place) → same_place p q ≡ true → p ≡ q
same_place-true (OutOf i) (OutOf j) e = ap OutOf (EniNo-same i j e)
same_place-true (Router s c) (Router t b) e = let parts = and_parts (s.0 == t.0) (same_came c b) e in ap₂ Router (SubnetNo-same s t parts.0) (same_came-true c b parts.1)
same_place-true (Enter v b) (Enter w c) e = let parts = and_parts (v.0 == w.0) (same_enter b c) e in ap₂ Enter (VpcNo-same v w parts.0) (same_enter-true b c parts.1)
same_place-true (Into i) (Into j) e = ap Into (EniNo-same i j e)
same_place-true (IgwOut v) (IgwOut w) e = ap IgwOut (VpcNo-same v w e)
same_place-true Internet Internet e = refl
same_place-true (IgwIn v) (IgwIn w) e = ap IgwIn (VpcNo-same v w e)
same_place-true (NatOut n) (NatOut o) e = ap NatOut (NatNo-same n o e)
same_place-true (NatIn n) (NatIn o) e = ap NatIn (NatNo-same n o e)
same_place-true (Peer x v) (Peer y w) e = let parts = and_parts (x.0 == y.0) (v.0 == w.0) e in ap₂ Peer (PeerNo-same x y parts.0) (VpcNo-same v w parts.1)
same_place-true (Tgw a s) (Tgw b t) e = let parts = and_parts (a.0 == b.0) (s.0 == t.0) e in ap₂ Tgw (AttNo-same a b parts.0) (SubnetNo-same s t parts.1)
same_place-true (TgwLeave a s) (TgwLeave b t) e = let parts = and_parts (a.0 == b.0) (s.0 == t.0) e in ap₂ TgwLeave (AttNo-same a b parts.0) (SubnetNo-same s t parts.1)
same_place-true (FarOut k) (FarOut l) e = ap FarOut (FarNo-same k l e)
same_place-true (FarIn k) (FarIn l) e = ap FarIn (FarNo-same k l e)
same_place-true (Inspect x) (Inspect y) e = ap Inspect (FirewallNo-same x y e)
same_place-true _ _ e = absurd (false≢true e)

pub same_place-refl : (p : Place) → same_place p p ≡ true
same_place-refl (OutOf i) = itself i.0
same_place-refl (Router s c) = and_from (s.0 == s.0) (same_came c c) (itself s.0) (same_came-refl c)
same_place-refl (Enter v b) = and_from (v.0 == v.0) (same_enter b b) (itself v.0) (same_enter-refl b)
same_place-refl (Into i) = itself i.0
same_place-refl (IgwOut v) = itself v.0
same_place-refl Internet = refl
same_place-refl (IgwIn v) = itself v.0
same_place-refl (NatOut n) = itself n.0
same_place-refl (NatIn n) = itself n.0
same_place-refl (Peer x v) = and_from (x.0 == x.0) (v.0 == v.0) (itself x.0) (itself v.0)
same_place-refl (Tgw a s) = and_from (a.0 == a.0) (s.0 == s.0) (itself a.0) (itself s.0)
same_place-refl (TgwLeave a s) = and_from (a.0 == a.0) (s.0 == s.0) (itself a.0) (itself s.0)
same_place-refl (FarOut k) = itself k.0
same_place-refl (FarIn k) = itself k.0
same_place-refl (Inspect x) = itself x.0

pub places_are_told_apart : (p q : Place) → Decides (same_place p q) (p ≡ q)
places_are_told_apart p q = (same_place-true p q, λ e. subst (λ (r : Place). same_place p r ≡ true) e (same_place-refl p))

-- ---- headers, connections and ends

five : {X : Type 0} (make : ℕ → ℕ → ℕ → ℕ → ℕ → X) (a b c d e : ℕ) (f g h i j : ℕ) → a ≡ f → b ≡ g → c ≡ h → d ≡ i → e ≡ j → make a b c d e ≡ make f g h i j
five make a b c d e f g h i j p q r s t = cc

pub same_header-true : (a b : Header) → same_header a b ≡ true → a ≡ b
same_header-true a b e =
    let same = same_header-fields a b e in
    let make : ℕ → ℕ → ℕ → ℕ → ℕ → Header = λ proto src dst p q. record { proto = proto; src = src; dst = dst; p = p; q = q } in
    five make a.proto a.src a.dst a.p a.q b.proto b.src b.dst b.p b.q same.proto same.src same.dst same.p same.q

pub headers_are_told_apart : (a b : Header) → Decides (same_header a b) (a ≡ b)
headers_are_told_apart a b = (same_header-true a b, λ e. subst (λ (h : Header). same_header a h ≡ true) e (same_header-refl a))

pub ends_are_told_apart : (a b : End) → Decides (same_end a b) (a ≡ b)
ends_are_told_apart (Interface i) (Interface j) = (λ e. ap Interface (EniNo-same i j e), λ e. subst (λ (b : End). same_end (Interface i) b ≡ true) e (itself i.0))
ends_are_told_apart AtInternet AtInternet = (λ e. refl, λ e. refl)
ends_are_told_apart (Interface i) AtInternet = (λ e. absurd (false≢true e), λ e. cc)
ends_are_told_apart AtInternet (Interface j) = (λ e. absurd (false≢true e), λ e. cc)
ends_are_told_apart (AtFar k) (AtFar l) = (λ e. ap AtFar (FarNo-same k l e), λ e. subst (λ (b : End). same_end (AtFar k) b ≡ true) e (itself k.0))
ends_are_told_apart (AtFar k) (Interface j) = (λ e. absurd (false≢true e), λ e. cc)
ends_are_told_apart (AtFar k) AtInternet = (λ e. absurd (false≢true e), λ e. cc)
ends_are_told_apart (Interface i) (AtFar l) = (λ e. absurd (false≢true e), λ e. cc)
ends_are_told_apart AtInternet (AtFar l) = (λ e. absurd (false≢true e), λ e. cc)

pub same_dir-true : (a b : Dir) → same_dir a b ≡ true → a ≡ b
same_dir-true Inward Inward e = refl
same_dir-true Outward Outward e = refl
same_dir-true Inward Outward e = absurd (false≢true e)
same_dir-true Outward Inward e = absurd (false≢true e)

pub same_dir-refl : (a : Dir) → same_dir a a ≡ true
same_dir-refl Inward = refl
same_dir-refl Outward = refl

pub three : {A B C D : Type 0} (make : A → B → C → D) (a d : A) (b e : B) (c f : C) → a ≡ d → b ≡ e → c ≡ f → make a b c ≡ make d e f
three make a d b e c f p q r = cc

same_connection-true : (a b : Connection) → same_connection a b ≡ true → a ≡ b
same_connection-true a b e =
    let outer = and_parts (a.eni.0 == b.eni.0) (same_dir a.dir b.dir && same_header a.header b.header) e in
    let inner = and_parts (same_dir a.dir b.dir) (same_header a.header b.header) outer.1 in
    let make : EniNo → Dir → Header → Connection = λ eni dir header. record { eni = eni; dir = dir; header = header } in
    three make a.eni b.eni a.dir b.dir a.header b.header (EniNo-same a.eni b.eni outer.0) (same_dir-true a.dir b.dir inner.0) (same_header-true a.header b.header inner.1)

same_connection-refl : (a : Connection) → same_connection a a ≡ true
same_connection-refl a =
    and_from (a.eni.0 == a.eni.0) (same_dir a.dir a.dir && same_header a.header a.header) (itself a.eni.0)
    (and_from (same_dir a.dir a.dir) (same_header a.header a.header) (same_dir-refl a.dir) (same_header-refl a.header))

pub connections_are_told_apart : (a b : Connection) → Decides (same_connection a b) (a ≡ b)
connections_are_told_apart a b = (same_connection-true a b, λ e. subst (λ (c : Connection). same_connection a c ≡ true) e (same_connection-refl a))

-- The interface that has an address has it assigned or delegated.
use Rattle.std.proofs.Common.{◌≡◌, ◌∙◌, ◌&&◌, ◌||◌, ◌+◌, ◌∷◌, [], Bool, List, None, Option, Some, ap, ap₂, cond, false, option_map, position, refl, subst, sym, true, ℕ}
use Rattle.std.specs.List.{AllByRecursion, IsDistinct, list_any, position_from}
use Rattle.std.specs.Str.{bytes_eq}
use Rattle.std.proofs.lemmas.Bool.{and_from, and_parts, both_ways, false_from_ne_true}
use Rattle.std.proofs.lemmas.Iterator.Adapters.{position_from-zero}
use Rattle.prefix_text.specs.Block.{holds}
use Rattle.vpc_base.proofs.Bytes.{bytes_self, same_bytes}
use Rattle.vpc_base.proofs.Members.{AllByRecursion-weaker}
use Rattle.vpc_laws.proofs.Accepting.{accepted_has_nothing_twice}
use Rattle.vpc_laws.specs.Accepted.{both_have}
use Rattle.vpc_laws.specs.Hosts.{HostsAreAssignedOrDelegated}
use Rattle.vpc_laws.specs.Types.{Description, EniNo, Interface, VpcNo}
use Rattle.vpc_model.specs.Choice.{or_else}
use Rattle.vpc_model.specs.Lookup.{has_address, is_assigned, is_in_vpc, vpc_at, vpc_of_interface}

-- ---- the first that passes either of two tests, where no two pass any

abbrev AreAlone : {X : Type 0} → (X → Bool) → (X → Bool) → List X → Type 0
AreAlone p q xs = IsDistinct (λ x y. (p x || q x) && (p y || q y)) xs

fails-later : (x p q : Bool) → x ≡ true → (x && (p || q)) ≡ false → p ≡ false
fails-later true true q e f = absurd cc
fails-later true false q e f = refl
fails-later false p q e f = absurd cc

none-from : {X : Type 0} (p : X → Bool) (k : ℕ) (xs : List X) → AllByRecursion (λ y. p y ≡ false) xs → position_from p k xs ≡ None
none-from p k [] all = refl
none-from p k (x ∷ xs) all = rw all.0 (none-from p (k + 1) xs all.1)

from-agree : {X : Type 0} (p q : X → Bool) → ((x : X) → p x ≡ q x) → (k : ℕ) (xs : List X) → position_from p k xs ≡ position_from q k xs
from-agree p q same k [] = refl
from-agree p q same k (x ∷ xs) = ap₂ (λ (b : Bool) (o : Option ℕ). cond b (Some k) o) (same x) (from-agree p q same (k + 1) xs)

either-from : {X : Type 0} (p q : X → Bool) (k : ℕ) (xs : List X) → AreAlone p q xs → position_from (λ x. p x || q x) k xs ≡ or_else (position_from p k xs) (position_from q k xs)
unfolding IsDistinct
either-from p q k [] alone = refl
either-from {X} p q k (x ∷ xs) alone = by (p x) (q x) refl refl (either-from p q (k + 1) xs alone.1)
  where
    by : (first second : Bool) → p x ≡ first → q x ≡ second
        → position_from (λ y. p y || q y) (k + 1) xs ≡ or_else (position_from p (k + 1) xs) (position_from q (k + 1) xs)
        → cond (first || second) (Some k) (position_from (λ y. p y || q y) (k + 1) xs)
        ≡ or_else (cond first (Some k) (position_from p (k + 1) xs)) (cond second (Some k) (position_from q (k + 1) xs))
    by true second is other rest = refl
    by false true is other rest =
        let none : position_from p (k + 1) xs ≡ None =
        none-from p (k + 1) xs (AllByRecursion-weaker (λ y. ((p x || q x) && (p y || q y)) ≡ false) (λ y. p y ≡ false)
        (λ y e. fails-later (p x || q x) (p y) (q y) (rw (is, other) refl) e) xs alone.0) in
        rw none refl
    by false false is other rest = rest

-- ---- interfaces

apart-weaker : {X : Type 0} (same fewer : X → X → Bool) → ((x y : X) → same x y ≡ false → fewer x y ≡ false) → (xs : List X) → IsDistinct same xs → IsDistinct fewer xs
unfolding IsDistinct
apart-weaker same fewer weaker [] all = tt
apart-weaker same fewer weaker (x ∷ xs) all =
    (AllByRecursion-weaker (λ y. same x y ≡ false) (λ y. fewer x y ≡ false) (weaker x) xs all.0, apart-weaker same fewer weaker xs all.1)

module _ (d : Description) (v : VpcNo) (a : ℕ) where
  abbrev assigned : Interface → Bool
  assigned e = is_assigned e a && is_in_vpc d v e

  abbrev delegated : Interface → Bool
  delegated e = list_any (holds a) e.prefixes && is_in_vpc d v e

  and-either : (p q r : Bool) → ((p || q) && r) ≡ ((p && r) || (q && r))
  and-either true q true = refl
  and-either true true false = refl
  and-either true false false = refl
  and-either false q r = refl

  has-either : (e : Interface) → (has_address e a && is_in_vpc d v e) ≡ (assigned e || delegated e)
  has-either e = and-either (is_assigned e a) (list_any (holds a) e.prefixes) (is_in_vpc d v e)

  apart : (e o : Interface) → both_have d a e o ≡ false → ((assigned e || delegated e) && (assigned o || delegated o)) ≡ false
  apart e o not =
      false_from_ne_true ((assigned e || delegated e) && (assigned o || delegated o))
      (λ both.
      let id = (vpc_at d v).id in
      let parts = and_parts (assigned e || delegated e) (assigned o || delegated o) both in
      let one = and_parts (has_address e a) (is_in_vpc d v e) (has-either e ∙ parts.0) in
      let other = and_parts (has_address o a) (is_in_vpc d v o) (has-either o ∙ parts.1) in
      let same : vpc_of_interface d e ≡ vpc_of_interface d o = same_bytes (vpc_of_interface d e) id one.1 ∙ sym (same_bytes (vpc_of_interface d o) id other.1) in
      both_ways (both_have d a e o) not
      (and_from (bytes_eq (vpc_of_interface d e) (vpc_of_interface d o)) (has_address e a && has_address o a)
      (subst (λ (x : List ℕ). bytes_eq (vpc_of_interface d e) x ≡ true) same (bytes_self (vpc_of_interface d e)))
      (and_from (has_address e a) (has_address o a) one.0 other.0)))

abbrev numbered : ℕ → EniNo
numbered k = record { 0 = k }

or-numbered : (o p : Option ℕ) → option_map numbered (or_else o p) ≡ or_else (option_map numbered o) (option_map numbered p)
or-numbered None p = refl
or-numbered (Some k) p = refl

pub hosts_are_assigned_or_delegated : HostsAreAssignedOrDelegated
hosts_are_assigned_or_delegated d v a accepted =
    let p = assigned d v a in
    let q = delegated d v a in
    let hosts = (accepted_has_nothing_twice d accepted).hosts a in
    let alone : IsDistinct (λ x y. (p x || q x) && (p y || q y)) d.interfaces =
    apart-weaker (both_have d a) (λ x y. (p x || q x) && (p y || q y)) (apart d v a) d.interfaces hosts in
    ap (option_map numbered)
    (position_from-zero (λ e. has_address e a && is_in_vpc d v e) d.interfaces
    ∙ from-agree (λ e. has_address e a && is_in_vpc d v e) (λ e. p e || q e) (has-either d v a) 0 d.interfaces
    ∙ either-from p q 0 d.interfaces alone
    ∙ ap₂ (λ (x y : Option ℕ). or_else x y) (sym (position_from-zero p d.interfaces)) (sym (position_from-zero q d.interfaces)))
    ∙ or-numbered (position p d.interfaces) (position q d.interfaces)

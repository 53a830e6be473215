-- Uses of prefix lists that were seen.
use Rattle.std.proofs.Common.{Bool, List, None, Option, Some, [], ap, bytes_eq, false, refl, subst, sym, true, ◌&&◌, ◌++◌, ◌||◌, ◌∙◌, ◌∷◌, ◌≡◌}
use Rattle.std.specs.Bool.{beq}
use Rattle.std.specs.List.{list_any}
use Rattle.vpc_base.proofs.Lemmas.{and_parts, bytes_eq-Decides, list_any-append}
use Rattle.vpc_laws.specs.Types.{Reach, Route}
use Rattle.vpc_model.specs.declared.rows.Reach.TheVariants as reaches
use Rattle.vpc_model.specs.Terms.{is_local}
use Rattle.route_tables.specs.Repeats.{ListUse, is_known, is_same, same_use, use_by, use_of, with_use}

-- ---- uses that are the same

same_bool : (x y : Bool) → beq x y ≡ true → x ≡ y
same_bool true true e = refl
same_bool true false e = sym e
same_bool false true e = e
same_bool false false e = refl

same_use-tells : (x y : ListUse) → same_use x y ≡ true → x ≡ y
same_use-tells x y e =
    let parts = and_parts (bytes_eq x.list y.list && beq x.propagated y.propagated) (beq x.local y.local) e in
    let first = and_parts (bytes_eq x.list y.list) (beq x.propagated y.propagated) parts.0 in
    let list : x.list ≡ y.list = (bytes_eq-Decides x.list y.list).0 first.0 in
    let propagated : x.propagated ≡ y.propagated = same_bool x.propagated y.propagated first.1 in
    let local : x.local ≡ y.local = same_bool x.local y.local parts.1 in
    ap (λ l. record { list = l; propagated = x.propagated; local = x.local }) list
    ∙ (ap (λ t. record { list = y.list; propagated = t; local = x.local }) propagated
    ∙ ap (λ t. record { list = y.list; propagated = y.propagated; local = t }) local)

-- routes that differ at most in their targets, where both or neither are local
pub record AreAlike (r s : Route) : Type 0 where
  pub reach : r.reach ≡ s.reach
  pub propagated : r.propagated ≡ s.propagated
  pub local : is_local r.target ≡ is_local s.target

pub alike-itself : (r : Route) → AreAlike r r
alike-itself r = record { reach = refl; propagated = refl; local = refl }

pub alike-then : (r s t : Route) → AreAlike r s → AreAlike s t → AreAlike r t
alike-then r s t one two = record { reach = one.reach ∙ two.reach; propagated = one.propagated ∙ two.propagated; local = one.local ∙ two.local }

pub alike-same : (r s : Route) → r ≡ s → AreAlike r s
alike-same r s is = subst (AreAlike r) is (alike-itself r)

-- so are routes that use one list alike
pub alike-uses : (r s : Route) → is_same (use_of r) (use_of s) ≡ true → AreAlike r s
alike-uses r s e = let is = by r.reach s.reach r.propagated s.propagated (is_local r.target) (is_local s.target) e in record { reach = is.0; propagated = is.1; local = is.2 }
  where
    by : (x y : Reach) (p q l m : Bool) → is_same (use_by x p l) (use_by y q m) ≡ true → (x ≡ y) × (p ≡ q) × (l ≡ m)
    by (reaches.Block b) y p q l m e = cc
    by (reaches.List a) (reaches.Block b) p q l m e = cc
    by (reaches.List a) (reaches.List b) p q l m e =
        let is = same_use-tells (record { list = a; propagated = p; local = l }) (record { list = b; propagated = q; local = m }) e in
        (ap (λ (u : ListUse). reaches.List u.list) is, ap (λ (u : ListUse). u.propagated) is, ap (λ (u : ListUse). u.local) is)

-- ---- uses that were seen

-- the uses are those of some routes
pub record HasSeen (seen : List ListUse) (earlier : List Route) : Type 0 where
  pub known : (o : Option ListUse) → is_known seen o ≡ list_any (λ s. is_same o (use_of s)) earlier

pub seen-nothing : HasSeen [] []
seen-nothing = record { known = none }
  where
    none : (o : Option ListUse) → is_known [] o ≡ false
    none None = refl
    none (Some u) = refl

or_nothing : (b : Bool) → (b || false) ≡ b
or_nothing true = refl
or_nothing false = refl

or_true : (b : Bool) → b ≡ true → b ≡ (b || true)
or_true true e = refl
or_true false e = e

-- one more use
known-with : (seen : List ListUse) (o v : Option ListUse) → is_known (with_use seen v) o ≡ (is_known seen o || is_same o v)
known-with seen None None = refl
known-with seen None (Some v) = refl
known-with seen (Some u) None = sym (or_nothing (list_any (same_use u) seen))
known-with seen (Some u) (Some v) = list_any-append (same_use u) seen (v ∷ []) ∙ ap (λ t. list_any (same_use u) seen || t) (or_nothing (same_use u v))

-- a use that was seen before
known-again : (seen : List ListUse) (o v : Option ListUse) → is_known seen v ≡ true → is_known seen o ≡ (is_known seen o || is_same o v)
known-again seen None v e = refl
known-again seen (Some u) None e = cc
known-again seen (Some u) (Some v) e = by (same_use u v) refl
  where
    by : (is : Bool) → same_use u v ≡ is → list_any (same_use u) seen ≡ (list_any (same_use u) seen || is)
    by true same = or_true (list_any (same_use u) seen) (subst (λ (k : ListUse). list_any (same_use k) seen ≡ true) (sym (same_use-tells u v same)) e)
    by false other = sym (or_nothing (list_any (same_use u) seen))

one-more : (earlier : List Route) (r : Route) (o : Option ListUse) → list_any (λ s. is_same o (use_of s)) (earlier ++ r ∷ []) ≡ (list_any (λ s. is_same o (use_of s)) earlier || is_same o (use_of r))
one-more earlier r o = list_any-append (λ (s : Route). is_same o (use_of s)) earlier (r ∷ []) ∙ ap (λ t. list_any (λ (s : Route). is_same o (use_of s)) earlier || t) (or_nothing (is_same o (use_of r)))

pub seen-new : (seen : List ListUse) (earlier : List Route) (r : Route) → HasSeen seen earlier → HasSeen (with_use seen (use_of r)) (earlier ++ r ∷ [])
seen-new seen earlier r has = record { known = λ o. known-with seen o (use_of r) ∙ (ap (λ t. t || is_same o (use_of r)) (has.known o) ∙ sym (one-more earlier r o)) }

pub seen-again : (seen : List ListUse) (earlier : List Route) (r : Route) → HasSeen seen earlier → is_known seen (use_of r) ≡ true → HasSeen seen (earlier ++ r ∷ [])
seen-again seen earlier r has known = record { known = λ o. known-again seen o (use_of r) known ∙ (ap (λ t. t || is_same o (use_of r)) (has.known o) ∙ sym (one-more earlier r o)) }

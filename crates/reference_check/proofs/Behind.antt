-- What stands behind firewall endpoints, by the ids of appliances, which differ.
use Rattle.std.proofs.Common.{◌&&◌, ◌+◌, ◌≡◌, ◌∙◌, ◌∷◌, ◌||◌, [], Bool, List, None, Some, ap, arith, bytes_eq, cond, false, find, get_or, is_some, map, position, refl, subst, suc, sym, true, ℕ}
use Rattle.std.specs.List.{list_any, position_or_len}
use Rattle.std.proofs.lemmas.Slice.Eq.{bytes_eq-Decides}
use Rattle.vpc_base.proofs.Members.{find_none, list_any-fails}
use Rattle.vpc_base.proofs.Tests.{list_any_map}
use Rattle.vpc_model.specs.Accepted.{duplicate_ids, duplicates_in, ids_by_list}
use Rattle.vpc_model.specs.Firewalls.{appliance_behind, is_behind_endpoint}
use Rattle.vpc_model.specs.declared.rows.Appliance.{Appliance}
use Rattle.vpc_model.specs.declared.rows.Description.{Description}
use Rattle.reference_check.proofs.Described.{each-nil}
use Rattle.reference_check.proofs.Distinct.{AreDistinct, distinct}
use Rattle.reference_check.proofs.Maps.{found_row, missing_row}

and-fails : (a b : Bool) → b ≡ false → (a && b) ≡ false
and-fails true b e = e
and-fails false b e = refl

-- no row passes a test of which one part fails
both-none : {X : Type 0} (p q : X → Bool) (xs : List X) → list_any q xs ≡ false → find (λ x. p x && q x) xs ≡ None
both-none p q xs none = find_none (λ x. p x && q x) xs (λ x has. and-fails (p x) (q x) (list_any-fails q xs x none has))

-- the row with an id, where ids differ, is the only one that may pass
one-with_id : {X : Type 0} (p : X → Bool) (id_of : X → List ℕ) (id : List ℕ) (xs : List X) (d : X) → AreDistinct (map id_of xs) → list_any (λ x. bytes_eq (id_of x) id) xs ≡ true
    → is_some (find (λ x. p x && bytes_eq (id_of x) id) xs) ≡ p (get_or xs (position_or_len (λ x. bytes_eq (id_of x) id) xs) d)
one-with_id p id_of id [] d differ there = absurd cc
one-with_id {X = X} p id_of id (x ∷ xs) d differ there = by (bytes_eq (id_of x) id) refl there (one-with_id p id_of id xs d differ.1)
  where
    own : X → Bool
    own y = bytes_eq (id_of y) id

    alone : own x ≡ true → list_any own xs ≡ false
    alone is =
        let same : id_of x ≡ id = (bytes_eq-Decides (id_of x) id).0 is in
        sym (list_any_map id_of (λ u. bytes_eq u id) own (λ y. refl) xs) ∙ subst (λ i. list_any (λ u. bytes_eq u i) (map id_of xs) ≡ false) same differ.0

    here : (b : Bool) → own x ≡ true → is_some (cond (b && true) (Some x) (find (λ y. p y && own y) xs)) ≡ b
    here true is = refl
    here false is = ap is_some (both-none p own xs (alone is))

    by : (b : Bool) → own x ≡ b → (b || list_any own xs) ≡ true → (list_any own xs ≡ true → is_some (find (λ y. p y && own y) xs) ≡ p (get_or xs (position_or_len own xs) d))
        → is_some (find (λ y. p y && own y) (x ∷ xs)) ≡ p (get_or (x ∷ xs) (position_or_len own (x ∷ xs)) d)
    by true is some next = rw is (here (p x) is)
    by false is some next =
        let one : 1 + position_or_len own xs ≡ suc (position_or_len own xs) = omega arith in
        rw (and-fails (p x) (own x) is, is, one) (next some)

appliances-differ : (d : Description) → duplicate_ids d ≡ [] → AreDistinct (map (λ a. a.id) d.appliances)
appliances-differ d none = distinct (map (λ a. a.id) d.appliances) (each-nil duplicates_in (ids_by_list d) 13 [] none (omega arith))

-- by the number of the appliance with the endpoint's id
pub followed-is : (d : Description) (ids : List (List ℕ)) (id : List ℕ) (k : ℕ) (a : Appliance) → duplicate_ids d ≡ [] → ids ≡ map (λ x. x.id) d.appliances → position (λ i. bytes_eq i id) ids ≡ Some k
    → is_behind_endpoint (get_or d.appliances k a).at ≡ is_some (appliance_behind d id)
followed-is d ids id k a none same at =
    let found = found_row (λ (x : Appliance). x.id) id ids d.appliances k same at in
    ap (λ (n : ℕ). is_behind_endpoint (get_or d.appliances n a).at) (sym found.number)
    ∙ sym (one-with_id (λ (x : Appliance). is_behind_endpoint x.at) (λ (x : Appliance). x.id) id d.appliances a (appliances-differ d none) found.there)

-- where no appliance has it
pub followed-none : (d : Description) (ids : List (List ℕ)) (id : List ℕ) → ids ≡ map (λ x. x.id) d.appliances → position (λ i. bytes_eq i id) ids ≡ None → false ≡ is_some (appliance_behind d id)
followed-none d ids id same at =
    sym (ap is_some (both-none (λ (x : Appliance). is_behind_endpoint x.at) (λ (x : Appliance). bytes_eq x.id id) d.appliances (missing_row (λ (x : Appliance). x.id) id ids d.appliances same at)))

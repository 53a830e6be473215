-- Which groups count, and rows whose ids differ.
use Rattle.std.proofs.Common.{◌≡◌, ◌∙◌, ◌&&◌, ◌++◌, ◌+◌, ◌<◌, ◌∷◌, [], ℕ, Bool, List, None, Option, Some, ap, arith, bytes_eq, cond, false, get_or, inl, inr, length, map, option_and_then, option_map, position, refl, subst, suc, sym, take, zero}
use Rattle.std.specs.List.{AllByRecursion, IsDistinct, list_any}
use Rattle.vpc_base.proofs.Lemmas.{AllByRecursion-at, Contains-get_or, IsDistinct-head, IsDistinct-tail, bytes_eq-comm, cases_Bool, get_or-map, ltb-true, or-false, or_from, position-at, same_bytes, take-map}
use Rattle.vpc_laws.specs.Types.{Description, Dir, Group, GroupNo, PrefixList}
use Rattle.vpc_model.specs.Terms.{IsAccepted, group_at, group_of_id, may_name, no_group, reference_counts, vpcs_of_group}
use Rattle.vpc_laws.proofs.Lemmas.{accepted_has_nothing_twice}
use Rattle.security_groups.specs.Terms.{counted}
use Rattle.security_groups.proofs.Numbered.{position-cons}
use Rattle.security_groups.proofs.Steps.{map-next}

-- ---- ids that differ

-- an id of some that differ isn't among the earlier ones
is_new : (xs : List (List ℕ)) (i : ℕ) (d : List ℕ) → IsDistinct bytes_eq xs → i < length xs → list_any (bytes_eq (get_or xs i d)) (take i xs) ≡ false
is_new [] i d differ within = absurd (omega arith)
is_new (x ∷ xs) zero d differ within = refl
is_new (x ∷ xs) (suc i) d differ within =
    let apart = AllByRecursion-at (λ y. bytes_eq x y ≡ false) xs (get_or xs i d) (IsDistinct-head bytes_eq x xs differ) (Contains-get_or xs i d (omega arith)) in
    or_from (bytes_eq (get_or xs i d) x) (list_any (bytes_eq (get_or xs i d)) (take i xs)) (bytes_eq-comm (get_or xs i d) x ∙ apart) (is_new xs i d (IsDistinct-tail bytes_eq x xs differ) (omega arith))

-- the id of a prefix list isn't among the earlier ones
pub list-is_new : (d : Description) (i : ℕ) (l : PrefixList) → IsAccepted d → i < length d.lists → l ≡ get_or d.lists i l → list_any (bytes_eq l.id) (map (λ (x : PrefixList). x.id) (take i d.lists)) ≡ false
list-is_new d i l accepted within is =
    let ids = (accepted_has_nothing_twice d accepted).ids in
    let id_of : (PrefixList → List ℕ) = λ x. x.id in
    let at : get_or (map id_of d.lists) i l.id ≡ l.id = get_or-map id_of d.lists i l l.id within ∙ ap id_of (sym is) in
    ap (λ (y : List ℕ). list_any (bytes_eq y) (map id_of (take i d.lists))) (sym at)
    ∙ ap (list_any (bytes_eq (get_or (map id_of d.lists) i l.id))) (sym (take-map id_of i d.lists))
    ∙ is_new (map id_of d.lists) i l.id (((((ids.1).1).1).1).0) (subst (λ n. i < n) (sym (mapped id_of d.lists)) within)
  where
    mapped : (f : PrefixList → List ℕ) (xs : List PrefixList) → length (map f xs) ≡ length xs
    mapped f [] = refl
    mapped f (x ∷ xs) = ap (λ n. suc n) (mapped f xs)

-- so it is added at the end
pub lists-next : (d : Description) (i : ℕ) (l : PrefixList) (now next : List (List ℕ)) → IsAccepted d → i < length d.lists → l ≡ get_or d.lists i l
    → now ≡ map (λ (x : PrefixList). x.id) (take i d.lists)
    → next ≡ cond (list_any (bytes_eq l.id) now) now (now ++ l.id ∷ [])
    → next ≡ map (λ (x : PrefixList). x.id) (take (i + 1) d.lists)
lists-next d i l now next accepted within is so_far added =
    let id_of : (PrefixList → List ℕ) = λ x. x.id in
    let new : list_any (bytes_eq l.id) now ≡ false = ap (list_any (bytes_eq l.id)) so_far ∙ list-is_new d i l accepted within is in
    map-next id_of d.lists i l now next within is so_far (added ∙ ap (λ (b : Bool). cond b now (now ++ l.id ∷ [])) new)

-- ---- the group that is named

-- none after it has its id
no-other : (p : Group → Bool) (id : List ℕ) (gs : List Group) → AllByRecursion (λ (y : List ℕ). bytes_eq id y ≡ false) (map (λ (g : Group). g.id) gs) → list_any (λ (g : Group). bytes_eq g.id id && p g) gs ≡ false
no-other p id [] differ = refl
no-other p id (g ∷ gs) differ = rw (bytes_eq-comm g.id id, differ.0) (no-other p id gs differ.1)

-- so a test of those with an id is the test of the one that is found
only-found : (p : Group → Bool) (id : List ℕ) (gs : List Group) (k : ℕ) → IsDistinct bytes_eq (map (λ (g : Group). g.id) gs) → position (λ (g : Group). bytes_eq g.id id) gs ≡ Some k
    → list_any (λ (g : Group). bytes_eq g.id id && p g) gs ≡ p (get_or gs k no_group)
only-found p id [] k differ found = absurd cc
only-found p id (g ∷ gs) k differ found =
    elim (cases_Bool (bytes_eq g.id id)) [
      | inl here ↦
          let at : Some 0 ≡ Some k = subst (λ (b : Bool). cond b (Some 0) (option_map (λ j. suc j) (position (λ (x : Group). bytes_eq x.id id) gs)) ≡ Some k) here (sym (position-cons (λ (x : Group). bytes_eq x.id id) g gs) ∙ found) in
          let first : 0 ≡ k = cc in
          let same : g.id ≡ id = same_bytes g.id id here in
          let apart = IsDistinct-head bytes_eq g.id (map (λ (x : Group). x.id) gs) differ in
          let rest = no-other p id gs (subst (λ (i : List ℕ). AllByRecursion (λ (y : List ℕ). bytes_eq i y ≡ false) (map (λ (x : Group). x.id) gs)) same apart) in
          rw (here, rest, ← first) (or-false (p g))
      | inr other ↦
          let at : option_map (λ j. suc j) (position (λ (x : Group). bytes_eq x.id id) gs) ≡ Some k =
          subst (λ (b : Bool). cond b (Some 0) (option_map (λ j. suc j) (position (λ (x : Group). bytes_eq x.id id) gs)) ≡ Some k) other (sym (position-cons (λ (x : Group). bytes_eq x.id id) g gs) ∙ found) in
          rw other (later (λ j. only-found p id gs j (IsDistinct-tail bytes_eq g.id (map (λ (x : Group). x.id) gs) differ)) (position (λ (x : Group). bytes_eq x.id id) gs) refl at)
    ]
  where
    later : ((j : ℕ) → position (λ (x : Group). bytes_eq x.id id) gs ≡ Some j → list_any (λ (x : Group). bytes_eq x.id id && p x) gs ≡ p (get_or gs j no_group)) → (o : Option ℕ) → position (λ (x : Group). bytes_eq x.id id) gs ≡ o
        → option_map (λ j. suc j) o ≡ Some k
        → list_any (λ (x : Group). bytes_eq x.id id && p x) gs ≡ p (get_or (g ∷ gs) k no_group)
    later rest None none at = absurd cc
    later rest (Some j) some at =
        let next : suc j ≡ k = cc in
        rw (← next) (rest j some)

-- the number that a row's number holds
numbered : (o : Option ℕ) (g : GroupNo) → option_map (λ k. record { 0 = k }) o ≡ Some g → o ≡ Some g.0
numbered None g e = absurd cc
numbered (Some k) g e = ap (option_map (λ (x : GroupNo). x.0)) e

-- the group that a rule names counts where the rule may name it
counted-found : (d : Description) (dir : Dir) (v id : List ℕ) (g : GroupNo) → IsAccepted d → group_of_id d id ≡ Some g
    → counted d dir v id ≡ cond (list_any (may_name d dir v) (vpcs_of_group d (group_at d g))) (Some g.0) None
counted-found d dir v id g accepted found =
    let place = numbered (position (λ (x : Group). bytes_eq x.id id) d.groups) g found in
    let ids = (accepted_has_nothing_twice d accepted).ids in
    let counts : reference_counts d dir v id ≡ list_any (may_name d dir v) (vpcs_of_group d (group_at d g)) =
    only-found (λ (x : Group). list_any (may_name d dir v) (vpcs_of_group d x)) id d.groups g.0 (((((((ids.1).1).1).1).1).1).0) place in
    ap (option_and_then (λ (x : GroupNo). cond (reference_counts d dir v id) (Some x.0) None)) found ∙ ap (λ (b : Bool). cond b (Some g.0) None) counts

-- a group that is found is described
pub found-within : (d : Description) (id : List ℕ) (g : GroupNo) → group_of_id d id ≡ Some g → g.0 < length d.groups
found-within d id g found =
    let place = numbered (position (λ (x : Group). bytes_eq x.id id) d.groups) g found in
    ltb-true g.0 (length d.groups) (position-at (λ (x : Group). bytes_eq x.id id) d.groups g.0 no_group place).0

-- a group that isn't described doesn't count
pub counted-missing : (d : Description) (dir : Dir) (vpc id : List ℕ) → group_of_id d id ≡ None → counted d dir vpc id ≡ None
counted-missing d dir vpc id missing = ap (option_and_then (λ (x : GroupNo). cond (reference_counts d dir vpc id) (Some x.0) None)) missing

-- told by what was found on the way
pub counted-by : (d : Description) (dir : Dir) (v id bytes : List ℕ) (g : GroupNo) (asked told : Bool) → IsAccepted d → bytes ≡ id → Some g ≡ group_of_id d bytes
    → asked ≡ list_any (may_name d dir v) (vpcs_of_group d (group_at d g)) → asked ≡ told
    → cond told (Some g.0) None ≡ counted d dir v id
counted-by d dir v id bytes g asked told accepted same found tells is =
    sym (counted-found d dir v id g accepted (ap (group_of_id d) (sym same) ∙ sym found) ∙ ap (λ (b : Bool). cond b (Some g.0) None) (sym tells ∙ is))

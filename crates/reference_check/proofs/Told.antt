-- What is told of causes one after another.
use Rattle.std.proofs.Common.{◌+◌, ◌++◌, ◌<◌, ◌≡◌, ◌∙◌, ◌∷◌, [], List, None, Option, Result, drop, get_or, length, refl, subst, sym, ℕ}
use Rattle.std.specs.List.{flat_map}
use Rattle.std.proofs.lemmas.Grind.{flat_map-append}
use Rattle.std.proofs.lemmas.List.{drop_more}
use Rattle.vpc_model.specs.declared.refusals.Refusal.{Refusal}
use Rattle.vpc_model.specs.Accepted.{first_cause, is_subnet_of, missing_of_group, missing_of_route, missing_of_table, wanted}
use Rattle.vpc_model.specs.Lookup.{has_vpc}
use Rattle.vpc_model.specs.declared.rows.Description.{Description}
use Rattle.vpc_model.specs.declared.rows.Group.{Group}
use Rattle.vpc_model.specs.declared.rows.RouteTable.{RouteTable}
use Rattle.reference_check.specs.Missing.{missing_of_rule}
use Rattle.vpc_model.specs.declared.refusals.Refusal.TheVariants as refusals
use Rattle.reference_check.specs.Told.{IsTold, Tells}

-- where there is no cause, memory was refused
pub told_none : (first : Option Refusal) (cause : Refusal) → IsTold None cause → IsTold first cause
told_none first refusals.Memory h = tt
told_none first cause h = absurd (cc)

-- the first cause of the first causes is the first of all
pub told_first : (xs ys : List Refusal) (cause : Refusal) → IsTold (first_cause xs) cause → IsTold (first_cause (xs ++ ys)) cause
told_first [] ys cause h = told_none (first_cause ys) cause h
told_first (x ∷ xs) ys cause h = h

-- the first cause of a row is the first of all, where the rows before it have none
pub told_row : {X : Type 0} (f : X → List Refusal) (xs : List X) (k : ℕ) (x : X) (all : List Refusal) (cause : Refusal) → k < length xs → x ≡ get_or xs k x → flat_map f (drop k xs) ≡ all → IsTold (first_cause (f x)) cause → IsTold (first_cause all) cause
told_row f xs k x all cause within item rest h =
    let here : flat_map f (drop k xs) ≡ f x ++ flat_map f (drop (k + 1) xs) = rw (drop_more xs k x within, ← item) refl in
    rw (← rest, here) (told_first (f x) (flat_map f (drop (k + 1) xs)) cause h)

-- the first cause of the second causes, where there are none before them
pub told_second : (xs ys : List Refusal) (cause : Refusal) → xs ≡ [] → IsTold (first_cause ys) cause → IsTold (first_cause (xs ++ ys)) cause
told_second xs ys cause none h = rw none h

-- the first cause among the inward rules of a group whose VPC is there
pub told_inward : (d : Description) (g : Group) (cause : Refusal) → wanted (has_vpc d g.vpc) g.id g.vpc ≡ [] → IsTold (first_cause (flat_map (missing_of_rule d g.id) g.inward)) cause → IsTold (first_cause (missing_of_group d g)) cause
told_inward d g cause none h =
    let rule = missing_of_rule d g.id in
    told_second (wanted (has_vpc d g.vpc) g.id g.vpc) (flat_map rule (g.inward ++ g.outward)) cause none
    (subst (λ causes. IsTold (first_cause causes) cause) (sym (flat_map-append rule g.inward g.outward)) (told_first (flat_map rule g.inward) (flat_map rule g.outward) cause h))

-- the first cause among the subnets of a table whose VPC is there
pub told_subnets : (d : Description) (t : RouteTable) (cause : Refusal) → wanted (has_vpc d t.vpc) t.id t.vpc ≡ [] → IsTold (first_cause (flat_map (λ x. wanted (is_subnet_of d t.vpc x) t.id x) t.subnets)) cause → IsTold (first_cause (missing_of_table d t)) cause
told_subnets d t cause none h =
    let subnets = flat_map (λ (x : List ℕ). wanted (is_subnet_of d t.vpc x) t.id x) t.subnets in
    told_first (wanted (has_vpc d t.vpc) t.id t.vpc ++ subnets) (flat_map (missing_of_route d t) t.routes) cause
    (told_second (wanted (has_vpc d t.vpc) t.id t.vpc) subnets cause none h)

-- where there is no cause of either kind
pub tells_none : {A : Type 0} (xs ys : List Refusal) (r : Result A Refusal) → xs ≡ [] → ys ≡ [] → Tells ys r → Tells xs r
tells_none {A} xs ys r none nor told =
    let P : List Refusal → Type 0 = λ causes. Tells {A = A} causes r in
    subst P (nor ∙ sym none) told

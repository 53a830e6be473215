-- What follows where nothing stands twice and nothing is missing.
use Rattle.std.proofs.Common.{◌++◌, ◌<◌, ◌≡◌, ◌∙◌, ◌∷◌, [], List, arith, bytes_eq, get_or, length, map, refl, suc, sym, true, zero, ℕ}
use Rattle.std.specs.List.{flat_map, position_or_len}
use Rattle.std.proofs.lemmas.Bool.Decides.{nat_tests}
use Rattle.vpc_base.proofs.Positions.{list_any-position}
use Rattle.vpc_model.specs.Accepted.{duplicate_ids, duplicates_in, missing_of_interface, missing_of_subnet, missing_references, wanted}
use Rattle.vpc_model.specs.Lookup.{has_group, has_subnet, has_vpc}
use Rattle.vpc_model.specs.declared.rows.Description.{Description}
use Rattle.vpc_model.specs.declared.rows.Interface.{Interface}
use Rattle.vpc_model.specs.declared.rows.Subnet.{Subnet}
use Rattle.vpc_laws.proofs.Accepting.{wanted-there}

pub left-nil : {X : Type 0} (xs ys : List X) → xs ++ ys ≡ [] → xs ≡ []
left-nil [] ys e = refl
left-nil (x ∷ xs) ys e = absurd (cc)

pub right-nil : {X : Type 0} (xs ys : List X) → xs ++ ys ≡ [] → ys ≡ []
right-nil [] ys e = e
right-nil (x ∷ xs) ys e = absurd (cc)

-- the ids of VPCs differ
pub vpcs-differ : (d : Description) → duplicate_ids d ≡ [] → duplicates_in (map (λ v. v.id) d.vpcs) ≡ []
vpcs-differ d e = left-nil _ _ e

-- the ids of subnets differ
pub subnets-differ : (d : Description) → duplicate_ids d ≡ [] → duplicates_in (map (λ s. s.id) d.subnets) ≡ []
subnets-differ d e = left-nil _ _ (right-nil (duplicates_in (map (λ v. v.id) d.vpcs)) _ e)

pub each-nil : {X Y : Type 0} (f : X → List Y) (xs : List X) (k : ℕ) (d : X) → flat_map f xs ≡ [] → k < length xs → f (get_or xs k d) ≡ []
each-nil f [] k d e h = absurd (omega arith)
each-nil f (x ∷ xs) zero d e h = left-nil (f x) (flat_map f xs) e
each-nil f (x ∷ xs) (suc k) d e h = each-nil f xs k d (right-nil (f x) (flat_map f xs) e) (omega arith)

pub subnets_of-nil : (d : Description) → missing_references d ≡ [] → flat_map (missing_of_subnet d) d.subnets ≡ []
subnets_of-nil d e = left-nil _ _ (left-nil _ _ (left-nil _ _ (left-nil _ _ (left-nil _ _ (left-nil _ _ (left-nil _ _ (left-nil _ _ (left-nil _ _ e))))))))

-- each subnet's VPC is described
pub subnet-described : (d : Description) (k : ℕ) (s : Subnet) → missing_references d ≡ [] → k < length d.subnets → has_vpc d (get_or d.subnets k s).vpc ≡ true
subnet-described d k s e h =
    let row = get_or d.subnets k s in
    wanted-there (has_vpc d row.vpc) row.id row.vpc (each-nil (missing_of_subnet d) d.subnets k s (subnets_of-nil d e) h)

pub interfaces_of-nil : (d : Description) → missing_references d ≡ [] → flat_map (missing_of_interface d) d.interfaces ≡ []
interfaces_of-nil d e =
    right-nil (flat_map (missing_of_subnet d) d.subnets) _ (left-nil _ _ (left-nil _ _ (left-nil _ _ (left-nil _ _ (left-nil _ _ (left-nil _ _ (left-nil _ _ (left-nil _ _ e))))))))

-- each interface's subnet is described
pub interface-described : (d : Description) (k : ℕ) (x : Interface) → missing_references d ≡ [] → k < length d.interfaces → has_subnet d (get_or d.interfaces k x).subnet ≡ true
interface-described d k x e h =
    let row = get_or d.interfaces k x in
    wanted-there (has_subnet d row.subnet) row.id row.subnet (left-nil _ (flat_map (λ g. wanted (has_group d g) row.id g) row.groups) (each-nil (missing_of_interface d) d.interfaces k x (interfaces_of-nil d e) h))

-- the VPC of a described subnet is described
pub vpc-described : (d : Description) (id : List ℕ) (s : Subnet) → missing_references d ≡ [] → has_subnet d id ≡ true → has_vpc d (get_or d.subnets (position_or_len (λ s. bytes_eq s.id id) d.subnets) s).vpc ≡ true
vpc-described d id s e h =
    let found = sym (list_any-position (λ s. bytes_eq s.id id) d.subnets) ∙ h in
    subnet-described d (position_or_len (λ s. bytes_eq s.id id) d.subnets) s e (grind (arith, nat_tests))

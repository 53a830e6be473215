-- Sets of rules: those of a group, as they count in one VPC.
use Rattle.std.specs.List.{All, AllZip}
use Rattle.std.specs.Prelude.{◌++◌, ◌+◌, ◌<◌, ◌≡◌, ◌⊎◌, ◌∷◌, [], List, None, Option, Some, length, slice_get, ℕ}
use Rattle.vpc_model.specs.declared.rows.Description.{Description}
use Rattle.vpc_model.specs.declared.rows.Group.{Group}
use Rattle.vpc_model.specs.declared.rows.Interface.{Interface}
use Rattle.vpc_model.specs.Groups.{vpc_of_rules}
use Rattle.vpc_model.specs.Lookup.{group_at}
use Rattle.security_groups.specs.Ids.{place_of}
use Rattle.security_groups.specs.Members.{groups_with}
use Rattle.security_groups.specs.Naming.{IsVpcNumber}

-- a set beside those of the groups in their own VPCs
pub record IsFurther (ids : List (List ℕ)) (further : List (ℕ × ℕ)) (place g : ℕ) (vpc : List ℕ) : Type 0 where
  pub number : ℕ
  pub is : slice_get further place ≡ Some (g, number)
  pub of : place_of ids vpc ≡ Some number

-- the set with the number is that of the group in the VPC: the groups' sets in their own VPCs come first, then the further ones
pub record IsSetNumber (d : Description) (ids : List (List ℕ)) (further : List (ℕ × ℕ)) (s g : ℕ) (vpc : List ℕ) : Type 0 where
  pub described : g < length d.groups
  pub is : ((s ≡ g) × ((group_at d (record { 0 = g })).vpc ≡ vpc)) ⊎ ((k : ℕ) × (s ≡ length d.groups + k) × IsFurther ids further k g vpc)

-- the further VPC of a group in which its rules count for the interface, by its number; none for its own
abbrev pub CountsIn : Description → List (List ℕ) → Interface → Group → Option ℕ → Type 0
CountsIn d ids e g None = g.vpc ≡ vpc_of_rules d e g
CountsIn d ids e g (Some v) = place_of ids (vpc_of_rules d e g) ≡ Some v

-- that of the group with a number
abbrev pub CountsAt : Description → List (List ℕ) → Interface → ℕ → Option ℕ → Type 0
CountsAt d ids e g vpc = CountsIn d ids e (group_at d (record { 0 = g })) vpc

-- the set of a group by which its rules count for an interface
abbrev pub IsSetFor : Description → List (List ℕ) → List (ℕ × ℕ) → Interface → ℕ → ℕ → Type 0
IsSetFor d ids further e g s = IsSetNumber d ids further s g (vpc_of_rules d e (group_at d (record { 0 = g })))

-- those of some groups, in their order
abbrev pub AreSetsOf : Description → List (List ℕ) → List (ℕ × ℕ) → Interface → List ℕ → List ℕ → Type 0
AreSetsOf d ids further e groups sets = AllZip (IsSetFor d ids further e) groups sets

-- the sets for all interfaces, in the order of each one's groups
abbrev pub AreSetsFor : Description → List (List ℕ) → List (ℕ × ℕ) → List (List ℕ) → Type 0
AreSetsFor d ids further interfaces = AllZip (λ e sets. AreSetsOf d ids further e (groups_with d e) sets) d.interfaces interfaces

-- a described group, in a VPC that has a number
abbrev pub IsSetKey : Description → List (List ℕ) → ℕ × ℕ → Type 0
IsSetKey d ids key = (key.0 < length d.groups) × IsVpcNumber ids key.1

abbrev pub AreSetKeys : Description → List (List ℕ) → List (ℕ × ℕ) → Type 0
AreSetKeys d ids further = All (IsSetKey d ids) further

-- a set stands among those from before, or at the end where it is new
abbrev pub IsSetAdded : List (ℕ × ℕ) → ℕ × ℕ → List (ℕ × ℕ) → Type 0
IsSetAdded before key after = (after ≡ before) ⊎ (after ≡ before ++ key ∷ [])

-- sets keep their numbers
abbrev pub KeepsSets : List (ℕ × ℕ) → List (ℕ × ℕ) → Type 0
KeepsSets before after = (k : ℕ) (key : ℕ × ℕ) → slice_get before k ≡ Some key → slice_get after k ≡ Some key

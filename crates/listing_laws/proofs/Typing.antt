-- Ids are words, also those of interfaces and networks that have no row.
use Rattle.std.proofs.Common.{◌≡◌, ◌<◌, ◌^◌, ◌∷◌, [], All, IfSome, List, Some, codes, refl, subst, suc, true, zero, ℕ}
use Rattle.std.specs.List.{flat_map, slice_index_or}
use Rattle.std.proofs.lemmas.List.Elements.{All-head, All-nil, All-tail}
use Rattle.prefix_text.specs.Block.{last_of}
use Rattle.report_reader.proofs.FarEnds.{found_far}
use Rattle.vpc_laws.proofs.Numbering.{ids_are_found}
use Rattle.vpc_laws.specs.Types.{Description, End, EniNo, Far, FarNo, Interface}
use Rattle.vpc_model.specs.Far.{far_of_id}
use Rattle.vpc_model.specs.Lookup.{both_addresses, eni_no, far_at, has_interface, interface_at, no_far, no_interface}
use Rattle.vpc_model.specs.Id.{is_id}
use Rattle.vpc_model.specs.Told.{end_id}
use Rattle.vpc_model.specs.declared.places.End.TheVariants as ends
use Rattle.listing_laws.proofs.ShortWords.{IsShortWord, IsShortWord-id, IsShortWord-nil}
use Rattle.listing_laws.specs.Typed.{HasTypedFars, HasTypedInterfaces, IsTyped}

-- what is known of an interface with a number, described or not
pub record HasKnown (e : Interface) : Type 0 where
  pub id : IsShortWord e.id
  pub primary : IfSome e.primary (λ a. a < 2 ^ 32)
  pub addresses : All (λ a. a < 2 ^ 32) (flat_map both_addresses e.addresses)
  pub prefixes : All (λ b. last_of b < 2 ^ 32) e.prefixes

none_known : HasKnown no_interface
none_known = record {
  id = IsShortWord-nil;
  primary = tt;
  addresses = All-nil _;
  prefixes = All-nil _;
}

known_at : (rows : List Interface) (k : ℕ) → All IsTyped rows → HasKnown (slice_index_or rows k no_interface)
known_at [] k typed = none_known
known_at (e ∷ rows) zero typed =
    let first = All-head IsTyped e rows typed in
    record { id = IsShortWord-id e.id first.id; primary = first.primary; addresses = first.addresses; prefixes = first.prefixes }
known_at (e ∷ rows) (suc k) typed = known_at rows k (All-tail IsTyped e rows typed)

pub known : (d : Description) (i : EniNo) → HasTypedInterfaces d → HasKnown (interface_at d i)
known d i typed = known_at d.interfaces i.0 typed

-- the id of what leads to a network that isn't described
far_word : (rows : List Far) (k : ℕ) → All (λ f. is_id f.id ≡ true) rows
    → (let f = slice_index_or rows k no_far in IsShortWord f.id)
far_word [] k typed = IsShortWord-nil
far_word (f ∷ rows) zero typed = IsShortWord-id f.id (All-head (λ x. is_id x.id ≡ true) f rows typed)
far_word (f ∷ rows) (suc k) typed = far_word rows k (All-tail (λ x. is_id x.id ≡ true) f rows typed)

pub IsShortWord-far : (d : Description) (k : FarNo) → HasTypedFars d → (let f = far_at d k in IsShortWord f.id)
IsShortWord-far d k typed = far_word d.fars k.0 typed

-- an id that finds it
pub IsShortWord-found : (d : Description) (id : List ℕ) (k : FarNo) → HasTypedFars d → far_of_id d id ≡ Some k → IsShortWord id
IsShortWord-found d id k typed found = let far = found_far d id k found in subst IsShortWord far.1 (IsShortWord-far d k typed)

-- the id of an end
pub IsShortWord-end_id : (d : Description) (e : End) → HasTypedInterfaces d → HasTypedFars d → IsShortWord (end_id d e)
IsShortWord-end_id d ends.Internet typed fars = IsShortWord-id (codes "internet") refl
IsShortWord-end_id d (ends.Interface i) typed fars = let k = known d i typed in k.id
IsShortWord-end_id d (ends.Far k) typed fars = IsShortWord-far d k fars

-- an id that is described
pub IsShortWord-described : (d : Description) (id : List ℕ) → HasTypedInterfaces d → has_interface d id ≡ true → IsShortWord id
IsShortWord-described d id typed there =
    let found = (ids_are_found d).interface id there in
    let k = known d (eni_no d id) typed in
    subst IsShortWord found.1 k.id

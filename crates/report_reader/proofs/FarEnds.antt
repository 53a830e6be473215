-- Networks that aren't described, by the ids of what leads there.
use Rattle.std.proofs.Common.{◌≡◌, ◌∙◌, Bool, List, None, Option, Some, ap, false, if◌then◌else◌, option_and_then, option_map, position, refl, subst, true, ℕ}
use Rattle.std.specs.Str.{bytes_eq}
use Rattle.std.proofs.lemmas.Bool.{cond-true}
use Rattle.vpc_base.proofs.Bytes.{same_bytes}
use Rattle.vpc_base.proofs.Positions.{position-at}
use Rattle.vpc_laws.specs.Types.{Description, Far, FarNo}
use Rattle.vpc_model.specs.Far.{far_end_of_id, far_of_id, is_far_end}
use Rattle.vpc_model.specs.Lookup.{far_at, no_far}
use Rattle.vpc_model.specs.Sound.{is_far}

some_is : {A : Type 0} (a b : A) → Some a ≡ Some b → a ≡ b
some_is a b is = cc

-- ---- rows

abbrev far_no : ℕ → FarNo
far_no j = record { 0 = j }

-- a row that has an id
abbrev HasId : Description → List ℕ → FarNo → Type 0
HasId d id k = let far = far_at d k in (is_far d k ≡ true) × (far.id ≡ id)

found_by : (d : Description) (id : List ℕ) (at : Option ℕ) (k : FarNo) → position (λ (f : Far). bytes_eq f.id id) d.fars ≡ at → option_map far_no at ≡ Some k → HasId d id k
found_by d id None k found is = absurd (cc)
found_by d id (Some j) k found is =
    let at = position-at (λ (f : Far). bytes_eq f.id id) d.fars j no_far found in
    let far = far_at d (far_no j) in
    subst (HasId d id) (some_is (far_no j) k is) (at.0, same_bytes far.id id at.1)

-- the row that an id finds is there and has it
pub found_far : (d : Description) (id : List ℕ) (k : FarNo) → far_of_id d id ≡ Some k → (is_far d k ≡ true) × (let far = far_at d k in far.id ≡ id)
found_far d id k found = found_by d id (position (λ (f : Far). bytes_eq f.id id) d.fars) k refl found

-- ---- ends

abbrev if_end : Description → FarNo → Option FarNo
if_end d k = if is_far_end d (far_at d k) then Some k else None

end_if : (j k : FarNo) (b : Bool) → (if b then Some j else None) ≡ Some k → (j ≡ k) × (b ≡ true)
end_if j k true is = (some_is j k is, refl)
end_if j k false is = absurd (cc)

end_by : (d : Description) (found : Option FarNo) (k : FarNo) → option_and_then (if_end d) found ≡ Some k → (found ≡ Some k) × (is_far_end d (far_at d k) ≡ true)
end_by d None k is = absurd (cc)
end_by d (Some j) k is =
    let parts = end_if j k (is_far_end d (far_at d j)) is in
    (ap (λ (x : FarNo). Some x) parts.0, subst (λ (x : FarNo). is_far_end d (far_at d x) ≡ true) parts.0 parts.1)

-- the network that an id finds among the ends is the one that it finds, and an end
pub found_far_end : (d : Description) (id : List ℕ) (k : FarNo) → far_end_of_id d id ≡ Some k → (far_of_id d id ≡ Some k) × (is_far_end d (far_at d k) ≡ true)
found_far_end d id k is = end_by d (far_of_id d id) k is

-- an id that finds an end finds it among the ends
pub far_end_there : (d : Description) (id : List ℕ) (k : FarNo) → far_of_id d id ≡ Some k → is_far_end d (far_at d k) ≡ true → far_end_of_id d id ≡ Some k
far_end_there d id k found ends = ap (option_and_then (if_end d)) found ∙ cond-true _ _ _ ends

-- Sets of rules by their numbers.
use Rattle.std.proofs.Common.{◌≡◌, ◌∙◌, ◌++◌, ◌+◌, ◌<◌, ◌≤◌, ◌⊎◌, ◌||◌, ◌∷◌, [], ℕ, Bool, Contains, List, None, Option, Some, ap, arith, bytes_eq, cond, false, filter, filter_map, get_or, inl, inr, length, map, option_map, position, refl, slice_get, slice_index_or, subst, sym, true}
use Rattle.std.specs.List.{AllZip}
use Rattle.vpc_base.proofs.Lemmas.{All-push, Contains-here, Contains-later, cases_Bool, cases_lt, filter_map-member, get_or-append-add, get_or_append_left, get_or_from_slice_get, length-append, list_any-member, ltb-true, or_cases, position-at, same_bytes, slice_get-get_or, slice_get_within, zip_at}
use Rattle.vpc_base.proofs.Zips.{length-zip}
use Rattle.vpc_laws.specs.Types.{Description, Group, GroupNo, Interface}
use Rattle.vpc_model.specs.declared.rows.GroupVpc.{GroupVpc}
use Rattle.vpc_model.specs.Terms.{group_at, is_listed, no_group, vpc_of_interface, vpc_of_rules, vpcs_of_group}
use Rattle.security_groups.specs.declared.groups.GroupRules.{GroupRules}
use Rattle.security_groups.specs.declared.vpcs.GroupVpcs.{GroupVpcs}
use Rattle.security_groups.specs.Sets.{CountsIn}
use Rattle.security_groups.specs.Terms.{AreAsked, AreSetKeys, AreSetsFor, HasGroupsOf, HasOwn, HasRulesFor, HasVpcsOf, IsFurther, IsSetFor, IsSetKey, IsSetNumber, IsSetOf, KeepsSets, further_of, groups_with, has_pair, no_rules, number_of, place_of}
use Rattle.security_groups.specs.Resolved.{AreOwnSets, AreSets}
use Rattle.security_groups.proofs.IdPlaces.{id-at, own-place, same-id, zip-weaker}
use Rattle.security_groups.proofs.NamingLemmas.{further-place, further-same, own-at}
use Rattle.security_groups.proofs.RuleCuts.{once-member}

-- ---- the VPC in which a group's rules count

-- its own, where it isn't listed
not-listed : (d : Description) (e : Interface) (g : Group) → is_listed (vpc_of_interface d e) (vpcs_of_group d g) ≡ false → g.vpc ≡ vpc_of_rules d e g
not-listed d e g is = ap (λ (b : Bool). cond b (vpc_of_interface d e) g.vpc) (sym is)

-- that of the interface, where it is listed
is-listed : (d : Description) (e : Interface) (g : Group) → is_listed (vpc_of_interface d e) (vpcs_of_group d g) ≡ true → vpc_of_rules d e g ≡ vpc_of_interface d e
is-listed d e g is = ap (λ (b : Bool). cond b (vpc_of_interface d e) g.vpc) is

-- its own, where that is the interface's
own-listed : (d : Description) (e : Interface) (g : Group) → g.vpc ≡ vpc_of_interface d e → g.vpc ≡ vpc_of_rules d e g
own-listed d e g same =
    elim (cases_Bool (is_listed (vpc_of_interface d e) (vpcs_of_group d g))) [
      | inl listed ↦ same ∙ sym (is-listed d e g listed)
      | inr not_there ↦ not-listed d e g not_there
    ]

-- its own, where it has no other
pub alone : (d : Description) (e : Interface) (g : Group) → d.scope.vpcs ≡ [] → g.vpc ≡ vpc_of_rules d e g
alone d e g none =
    let v = vpc_of_interface d e in
    let further : further_of d g ≡ [] = ap (λ (xs : List GroupVpc). map (λ (x : GroupVpc). x.vpc) (filter (λ (x : GroupVpc). bytes_eq x.group g.id) xs)) none in
    elim (cases_Bool (is_listed v (vpcs_of_group d g))) [
      | inr not_there ↦ not-listed d e g not_there
      | inl listed ↦
          elim (or_cases (bytes_eq g.vpc v) (is_listed v (further_of d g)) listed) [
            | inl own ↦ own-listed d e g (same_bytes g.vpc v own)
            | inr other ↦ let wrong : false ≡ true = sym (ap (is_listed v) further) ∙ other in absurd cc
          ]
    ]

-- the interface's VPC has no number
pub counts-nowhere : (d : Description) (vpcs : GroupVpcs) (e : Interface) (g : ℕ) (o : Option ℕ) → HasVpcsOf d vpcs → g < length d.groups → o ≡ place_of vpcs.ids (vpc_of_interface d e) → ((n : ℕ) → o ≡ Some n → ⊥)
    → CountsIn d vpcs.ids e (group_at d (record { 0 = g })) None
counts-nowhere d vpcs e g o has within is none =
    let v = vpc_of_interface d e in
    let row = group_at d (record { 0 = g }) in
    elim (cases_Bool (is_listed v (vpcs_of_group d row))) [
      | inr not_there ↦ not-listed d e row not_there
      | inl listed ↦
          elim (or_cases (bytes_eq row.vpc v) (is_listed v (further_of d row)) listed) [
            | inl own ↦ own-listed d e row (same_bytes row.vpc v own)
            | inr other ↦
                let found = list_any-member (λ i. bytes_eq i v) (further_of d row) other in
                let place = further-place d vpcs g found.0 has within found.1 in
                absurd (none place.number (is ∙ ap (place_of vpcs.ids) (sym (same_bytes found.0 v found.2)) ∙ place.at))
          ]
    ]

-- it is the group's own
pub counts-at-home : (d : Description) (vpcs : GroupVpcs) (e : Interface) (g own vpc : ℕ) (o : Option ℕ) → HasVpcsOf d vpcs → g < length d.groups → o ≡ place_of vpcs.ids (vpc_of_interface d e) → o ≡ Some vpc → own ≡ get_or vpcs.own.items g own → vpc ≡ own
    → CountsIn d vpcs.ids e (group_at d (record { 0 = g })) None
counts-at-home d vpcs e g own vpc o has within is found own_is same =
    let row = group_at d (record { 0 = g }) in
    own-listed d e row (same-id vpcs.ids row.vpc (vpc_of_interface d e) own (own-at d vpcs g own has within own_is) (sym is ∙ found ∙ ap Some same))

-- it is no VPC of the group
pub counts-elsewhere : (d : Description) (vpcs : GroupVpcs) (e : Interface) (g own vpc : ℕ) (o : Option ℕ) (told : Bool) → HasVpcsOf d vpcs → g < length d.groups → o ≡ place_of vpcs.ids (vpc_of_interface d e) → o ≡ Some vpc → told ≡ has_pair vpcs.pairs g vpc
    → told ≡ false
    → CountsIn d vpcs.ids e (group_at d (record { 0 = g })) None
counts-elsewhere d vpcs e g own vpc o told has within is found tells fails =
    let v = vpc_of_interface d e in
    let row = group_at d (record { 0 = g }) in
    elim (cases_Bool (is_listed v (vpcs_of_group d row))) [
      | inr not_there ↦ not-listed d e row not_there
      | inl listed ↦
          elim (or_cases (bytes_eq row.vpc v) (is_listed v (further_of d row)) listed) [
            | inl own_one ↦ own-listed d e row (same_bytes row.vpc v own_one)
            | inr other ↦ let wrong : false ≡ true = sym fails ∙ tells ∙ further-same d vpcs g vpc v has (sym is ∙ found) within ∙ other in absurd cc
          ]
    ]

-- it is a further one
pub counts-further : (d : Description) (vpcs : GroupVpcs) (e : Interface) (g vpc : ℕ) (o : Option ℕ) (told : Bool) → HasVpcsOf d vpcs → g < length d.groups → o ≡ place_of vpcs.ids (vpc_of_interface d e) → o ≡ Some vpc → told ≡ has_pair vpcs.pairs g vpc → told ≡ true
    → CountsIn d vpcs.ids e (group_at d (record { 0 = g })) (Some vpc)
counts-further d vpcs e g vpc o told has within is found tells passes =
    let v = vpc_of_interface d e in
    let row = group_at d (record { 0 = g }) in
    let at : place_of vpcs.ids v ≡ Some vpc = sym is ∙ found in
    let further : is_listed v (further_of d row) ≡ true = sym (further-same d vpcs g vpc v has at within) ∙ sym tells ∙ passes in
    ap (place_of vpcs.ids) (is-listed d e row (or-second (bytes_eq row.vpc v) (is_listed v (further_of d row)) further)) ∙ at
  where
    or-second : (a b : Bool) → b ≡ true → (a || b) ≡ true
    or-second true b is_true = refl
    or-second false b is_true = is_true

-- ---- further sets

-- sets that keep their numbers are still those of their groups
pub set-kept : (d : Description) (ids : List (List ℕ)) (old new : List (ℕ × ℕ)) (s g : ℕ) (vpc : List ℕ) → KeepsSets old new → IsSetNumber d ids old s g vpc → IsSetNumber d ids new s g vpc
set-kept d ids old new s g vpc kept set = record { described = set.described; is = by set.is }
  where
    by : ((s ≡ g) × ((group_at d (record { 0 = g })).vpc ≡ vpc)) ⊎ ((k : ℕ) × (s ≡ length d.groups + k) × IsFurther ids old k g vpc)
        → ((s ≡ g) × ((group_at d (record { 0 = g })).vpc ≡ vpc)) ⊎ ((k : ℕ) × (s ≡ length d.groups + k) × IsFurther ids new k g vpc)
    by (inl own) = inl own
    by (inr (k, at, one)) = inr (k, at, record { number = one.number; is = kept k (g, one.number) one.is; of = one.of })

-- one more at the end, or none
pub sets-kept : (old new : List (ℕ × ℕ)) (key : ℕ × ℕ) → (new ≡ old) ⊎ (new ≡ old ++ key ∷ []) → KeepsSets old new
sets-kept old new key (inl same) k x at = ap (λ (xs : List (ℕ × ℕ)). slice_get xs k) same ∙ at
sets-kept old new key (inr more) k x at =
    let within = slice_get_within old k x at in
    let long = length-append old (key ∷ []) in
    ap (λ (xs : List (ℕ × ℕ)). slice_get xs k) more
    ∙ slice_get-get_or (old ++ key ∷ []) k x (omega arith)
    ∙ ap Some (get_or_append_left old (key ∷ []) x k within ∙ get_or_from_slice_get old k x x at)

pub keys-next : (d : Description) (ids : List (List ℕ)) (old new : List (ℕ × ℕ)) (g vpc : ℕ) → (new ≡ old) ⊎ (new ≡ old ++ (g, vpc) ∷ []) → AreSetKeys d ids old → IsSetKey d ids (g, vpc) → AreSetKeys d ids new
keys-next d ids old new g vpc (inl same) all one = subst (AreSetKeys d ids) (sym same) all
keys-next d ids old new g vpc (inr more) all one = subst (AreSetKeys d ids) (sym more) (All-push (IsSetKey d ids) old (g, vpc) all one)

-- the set of a group for an interface
pub set-at-home : (d : Description) (ids : List (List ℕ)) (further : List (ℕ × ℕ)) (e : Interface) (g : ℕ) (o : Option ℕ) → g < length d.groups → o ≡ None → CountsIn d ids e (group_at d (record { 0 = g })) o → IsSetFor d ids further e g g
set-at-home d ids further e g None within is counts = record { described = within; is = inl (refl, counts) }
set-at-home d ids further e g (Some v) within is counts = absurd cc

pub set-further : (d : Description) (ids : List (List ℕ)) (further : List (ℕ × ℕ)) (e : Interface) (g s k vpc : ℕ) (o : Option ℕ) → g < length d.groups → o ≡ Some vpc → CountsIn d ids e (group_at d (record { 0 = g })) o → slice_get further k ≡ Some (g, vpc)
    → s ≡ length d.groups + k
    → IsSetFor d ids further e g s
set-further d ids further e g s k vpc o within is counts at number =
    let of = subst (CountsIn d ids e (group_at d (record { 0 = g }))) is counts in
    record { described = within; is = inr (k, number, record { number = vpc; is = at; of = of }) }

pub key-further : (d : Description) (ids : List (List ℕ)) (e : Interface) (g vpc : ℕ) (o : Option ℕ) → g < length d.groups → o ≡ Some vpc → CountsIn d ids e (group_at d (record { 0 = g })) o → IsSetKey d ids (g, vpc)
key-further d ids e g vpc o within is counts =
    let of = subst (CountsIn d ids e (group_at d (record { 0 = g }))) is counts in
    (within, own-place ids (vpc_of_rules d e (group_at d (record { 0 = g }))) vpc of)

-- ---- interfaces

-- the groups of an interface are described
pub group-within : (d : Description) (e : Interface) (g : ℕ) → Contains (groups_with d e) g → g < length d.groups
group-within d e g has =
    let named = filter_map-member (number_of d) e.groups g (once-member (filter_map (number_of d) e.groups) g has) in
    by named.0 (position (λ (x : Group). bytes_eq x.id named.0) d.groups) refl named.2
  where
    numbered : Option ℕ → Option ℕ
    numbered o = option_map (λ (x : GroupNo). x.0) (option_map (λ n. record { 0 = n }) o)

    by : (id : List ℕ) (o : Option ℕ) → position (λ (x : Group). bytes_eq x.id id) d.groups ≡ o → number_of d id ≡ Some g → g < length d.groups
    by id None none is =
        let wrong : None ≡ Some g = sym (ap numbered none) ∙ is in
        absurd cc
    by id (Some k) some is =
        let same : Some k ≡ Some g = sym (ap numbered some) ∙ is in
        let at : k ≡ g = cc in
        subst (λ n. n < length d.groups) at (ltb-true k (length d.groups) (position-at (λ (x : Group). bytes_eq x.id id) d.groups k no_group some).0)

-- each has itself
zip-same : {A : Type 0} (R : A → A → Type 0) (xs : List A) → ((x : A) → Contains xs x → R x x) → AllZip R xs xs
zip-same R [] each = tt
zip-same R (x ∷ xs) each = (each x (Contains-here x xs), zip-same R xs (λ y has. each y (Contains-later x xs y has)))

zip-mapped : {A B : Type 0} (R : A → B → Type 0) (f : A → B) (xs : List A) → ((x : A) → R x (f x)) → AllZip R xs (map f xs)
zip-mapped R f [] each = tt
zip-mapped R f (x ∷ xs) each = (each x, zip-mapped R f xs each)

-- where no group has a further VPC, the groups' numbers are those of their sets
pub all-at-home : (d : Description) (ids : List (List ℕ)) (further : List (ℕ × ℕ)) (interfaces : List (List ℕ)) → d.scope.vpcs ≡ [] → HasGroupsOf d interfaces → AreSetsFor d ids further interfaces
all-at-home d ids further interfaces none named =
    subst (AreSetsFor d ids further) (sym named)
    (zip-mapped (λ e sets. AllZip (IsSetFor d ids further e) (groups_with d e) sets) (groups_with d) d.interfaces (λ e.
    zip-same (IsSetFor d ids further e) (groups_with d e) (λ g has.
    record { described = group-within d e g has; is = inl (refl, alone d e (group_at d (record { 0 = g })) none) })))

-- one more interface: the sets of those before it are kept
pub sets-before : (d : Description) (ids : List (List ℕ)) (old new : List (ℕ × ℕ)) (es : List Interface) (all : List (List ℕ)) → KeepsSets old new → AllZip (λ e sets. AllZip (IsSetFor d ids old e) (groups_with d e) sets) es all
    → AllZip (λ e sets. AllZip (IsSetFor d ids new e) (groups_with d e) sets) es all
sets-before d ids old new es all kept zip =
    zip-weaker (λ (e : Interface) (sets : List ℕ). AllZip (IsSetFor d ids old e) (groups_with d e) sets) (λ (e : Interface) (sets : List ℕ). AllZip (IsSetFor d ids new e) (groups_with d e) sets)
    (λ e sets some. zip-weaker (IsSetFor d ids old e) (IsSetFor d ids new e) (λ g s. set-kept d ids old new s g (vpc_of_rules d e (group_at d (record { 0 = g }))) kept) (groups_with d e) sets some) es all zip

-- ---- the rules of all sets

-- the number of a group's own VPC
pub own-vpc : (d : Description) (vpcs : GroupVpcs) (g : ℕ) (seen : List ℕ) → HasVpcsOf d vpcs → g < length d.groups → seen ≡ vpcs.own.items → place_of vpcs.ids (group_at d (record { 0 = g })).vpc ≡ Some (get_or seen g 0)
own-vpc d vpcs g seen has within same = zip_at (HasOwn vpcs.ids) d.groups vpcs.own.items g no_group 0 has.own within ∙ ap (λ (l : List ℕ). Some (get_or l g 0)) (sym same)

pub own-many : (d : Description) (vpcs : GroupVpcs) → HasVpcsOf d vpcs → length d.groups ≡ length vpcs.own.items
own-many d vpcs has = length-zip (HasOwn vpcs.ids) d.groups vpcs.own.items has.own

-- the sets so far
pub record AreSetsUntil (d : Description) (sets : List GroupRules) (k : ℕ) : Type 0 where
  pub all : length sets ≡ k
  pub each : (g : ℕ) → g < k → let row = group_at d (record { 0 = g }) in IsSetOf d g row.vpc (slice_index_or sets g no_rules)

pub until-next : (d : Description) (sets next : List GroupRules) (k : ℕ) (r : GroupRules) → AreSetsUntil d sets k → (let row = group_at d (record { 0 = k }) in IsSetOf d k row.vpc r) → next ≡ sets ++ r ∷ [] → AreSetsUntil d next (k + 1)
until-next d sets next k r so_far one added = record {
  all = ap length added ∙ length-append sets (r ∷ []) ∙ ap (λ n. n + 1) so_far.all;
  each = λ g below. by g below (cases_lt g k);
}
  where
    by : (g : ℕ) → g < k + 1 → (g < k) ⊎ (k ≤ g) → let row = group_at d (record { 0 = g }) in IsSetOf d g row.vpc (slice_index_or next g no_rules)
    by g below (inl before) =
        let long = so_far.all in
        let at : slice_index_or next g no_rules ≡ slice_index_or sets g no_rules = ap (λ (xs : List GroupRules). get_or xs g no_rules) added ∙ get_or_append_left sets (r ∷ []) no_rules g (omega arith) in
        let row = group_at d (record { 0 = g }) in
        subst (IsSetOf d g row.vpc) (sym at) (so_far.each g before)
    by g below (inr after) =
        let long = so_far.all in
        let same : k ≡ g = omega arith in
        let place : g ≡ length sets + 0 = omega arith in
        let at : slice_index_or next g no_rules ≡ r = ap (λ (xs : List GroupRules). get_or xs g no_rules) added ∙ ap (λ n. get_or (sets ++ r ∷ []) n no_rules) place ∙ get_or-append-add sets (r ∷ []) 0 no_rules in
        let here : (n : ℕ) → k ≡ n → let row = group_at d (record { 0 = n }) in IsSetOf d n row.vpc r = λ n is. subst (λ (m : ℕ). let row = group_at d (record { 0 = m }) in IsSetOf d m row.vpc r) is one in
        let row = group_at d (record { 0 = g }) in
        subst (IsSetOf d g row.vpc) (sym at) (here g same)

pub until-all : (d : Description) (sets : List GroupRules) (k : ℕ) → AreSetsUntil d sets k → k ≡ length d.groups → AreOwnSets d sets
until-all d sets k so_far all = let done = subst (AreSetsUntil d sets) all so_far in record { all = done.all; each = done.each }

-- and those of further VPCs so far
pub record AreSetsTo (d : Description) (ids : List (List ℕ)) (further : List (ℕ × ℕ)) (sets : List GroupRules) (k : ℕ) : Type 0 where
  pub all : length sets ≡ length d.groups + k
  pub each : (s g : ℕ) (vpc : List ℕ) → IsSetNumber d ids further s g vpc → s < length d.groups + k → IsSetOf d g vpc (slice_index_or sets s no_rules)

pub further-first : (d : Description) (ids : List (List ℕ)) (further : List (ℕ × ℕ)) (sets : List GroupRules) → AreOwnSets d sets → AreSetsTo d ids further sets 0
further-first d ids further sets own = record {
  all = own.all ∙ omega arith;
  each = λ s g vpc set below. by s g vpc set.described set.is below;
}
  where
    by : (s g : ℕ) (vpc : List ℕ) → g < length d.groups → ((s ≡ g) × ((group_at d (record { 0 = g })).vpc ≡ vpc)) ⊎ ((k : ℕ) × (s ≡ length d.groups + k) × IsFurther ids further k g vpc) → s < length d.groups + 0
        → IsSetOf d g vpc (slice_index_or sets s no_rules)
    by s g vpc described (inl (at, vpc_is)) below =
        subst (λ (n : ℕ). IsSetOf d g vpc (slice_index_or sets n no_rules)) (sym at) (subst (λ (v : List ℕ). IsSetOf d g v (slice_index_or sets g no_rules)) vpc_is (own.each g described))
    by s g vpc described (inr (k, at, one)) below = absurd (omega arith)

pub further-next : (d : Description) (ids : List (List ℕ)) (further : List (ℕ × ℕ)) (sets next : List GroupRules) (k : ℕ) (key : ℕ × ℕ) (r : GroupRules) → k < length further → key ≡ slice_index_or further k (0, 0) → AreSetsTo d ids further sets k
    → IsSetOf d key.0 (slice_index_or ids key.1 []) r → next ≡ sets ++ r ∷ []
    → AreSetsTo d ids further next (k + 1)
further-next d ids further sets next k key r within key_is so_far one added = record {
  all = ap length added ∙ length-append sets (r ∷ []) ∙ ap (λ n. n + 1) so_far.all ∙ omega arith;
  each = λ s g vpc set below. by s g vpc set below (cases_lt s (length d.groups + k));
}
  where
    last : (s : ℕ) → s ≡ length d.groups + k → slice_index_or next s no_rules ≡ r
    last s at =
        let long = so_far.all in
        let place : s ≡ length sets + 0 = omega arith in
        ap (λ (xs : List GroupRules). get_or xs s no_rules) added ∙ ap (λ n. get_or (sets ++ r ∷ []) n no_rules) place ∙ get_or-append-add sets (r ∷ []) 0 no_rules

    new : (s g : ℕ) (vpc : List ℕ) → g < length d.groups → ((s ≡ g) × ((group_at d (record { 0 = g })).vpc ≡ vpc)) ⊎ ((j : ℕ) × (s ≡ length d.groups + j) × IsFurther ids further j g vpc) → s ≡ length d.groups + k
        → IsSetOf d g vpc (slice_index_or next s no_rules)
    new s g vpc described (inl (at, vpc_is)) is = absurd (omega arith)
    new s g vpc described (inr (j, at, further_one)) is =
        let same : j ≡ k = omega arith in
        let found : slice_get further k ≡ Some (g, further_one.number) = subst (λ (n : ℕ). slice_get further n ≡ Some (g, further_one.number)) same further_one.is in
        let key_at : key ≡ (g, further_one.number) = key_is ∙ get_or_from_slice_get further k (g, further_one.number) (0, 0) found in
        let set = subst (λ (x : ℕ × ℕ). IsSetOf d x.0 (slice_index_or ids x.1 []) r) key_at one in
        subst (IsSetOf d g vpc) (sym (last s is)) (subst (λ (v : List ℕ). IsSetOf d g v r) (id-at ids vpc [] further_one.number further_one.of) set)

    by : (s g : ℕ) (vpc : List ℕ) → IsSetNumber d ids further s g vpc → s < length d.groups + (k + 1) → (s < length d.groups + k) ⊎ (length d.groups + k ≤ s) → IsSetOf d g vpc (slice_index_or next s no_rules)
    by s g vpc set below (inl before) =
        let long = so_far.all in
        let at : slice_index_or next s no_rules ≡ slice_index_or sets s no_rules = ap (λ (xs : List GroupRules). get_or xs s no_rules) added ∙ get_or_append_left sets (r ∷ []) no_rules s (omega arith) in
        subst (IsSetOf d g vpc) (sym at) (so_far.each s g vpc set before)
    by s g vpc set below (inr after) = new s g vpc set.described set.is (omega arith)

-- the number of a set is one of those that there are
set-within : (d : Description) (ids : List (List ℕ)) (further : List (ℕ × ℕ)) (s g : ℕ) (vpc : List ℕ) → IsSetNumber d ids further s g vpc → s < length d.groups + length further
set-within d ids further s g vpc set = by set.described set.is
  where
    by : g < length d.groups → ((s ≡ g) × ((group_at d (record { 0 = g })).vpc ≡ vpc)) ⊎ ((k : ℕ) × (s ≡ length d.groups + k) × IsFurther ids further k g vpc) → s < length d.groups + length further
    by described (inl (at, vpc_is)) = omega arith
    by described (inr (k, at, one)) = let within = slice_get_within further k (g, one.number) one.is in omega arith

pub further-all : (d : Description) (ids : List (List ℕ)) (further : List (ℕ × ℕ)) (sets : List GroupRules) (k : ℕ) → AreSetsTo d ids further sets k → k ≡ length further → AreSets d ids further sets
further-all d ids further sets k so_far all =
    let done = subst (AreSetsTo d ids further sets) all so_far in
    record { all = done.all; each = λ s g vpc set. done.each s g vpc set (set-within d ids further s g vpc set) }

-- so interfaces have the rules of their groups
pub sets-asked : (d : Description) (ids : List (List ℕ)) (further : List (ℕ × ℕ)) (interfaces : List (List ℕ)) (sets : List GroupRules) → AreSetsFor d ids further interfaces → AreSets d ids further sets → AreAsked d interfaces sets
sets-asked d ids further interfaces sets are all =
    zip-weaker (λ (e : Interface) (ns : List ℕ). AllZip (IsSetFor d ids further e) (groups_with d e) ns) (λ (e : Interface) (ns : List ℕ). AllZip (HasRulesFor d sets e) (groups_with d e) ns)
    (λ e ns some.
    zip-weaker (IsSetFor d ids further e) (HasRulesFor d sets e) (λ g s set.
    let vpc = vpc_of_rules d e (group_at d (record { 0 = g })) in
    let below = set-within d ids further s g vpc set in
    let long = all.all in
    record { within = omega arith; described = set.described; is = all.each s g vpc set }) (groups_with d e) ns some) d.interfaces interfaces are

-- Ids and their numbers.
use Rattle.std.proofs.Common.{◌≡◌, ◌∙◌, ◌++◌, ◌+◌, ◌<◌, ◌==◌, ◌||◌, ◌∷◌, [], ℕ, Bool, List, None, Option, Some, ap, bytes_eq, cond, false, get_or, inl, inr, is_some, length, option_map, refl, subst, suc, sym, take, true}
use Rattle.std.specs.List.{All, AllZip, list_any}
use Rattle.std.proofs.lemmas.List.Folds.{list_any-append}
use Rattle.vpc_base.proofs.Lemmas.{All-more, both_ways, bytes_eq-comm, bytes_self, cases_Bool, eq-eqb, eqb-true, false_from_ne_true, list_any-agree, ltb-true, missing_number, ne_eqb, or-false, position-at, position-nowhere, position-there, same_bytes}
use Rattle.vpc_model.specs.declared.rows.GroupVpc.{GroupVpc}
use Rattle.vpc_model.specs.Lookup.{is_listed}
use Rattle.security_groups.specs.Ids.{HasIds, KeepsNumbers, is_number, place_of}
use Rattle.security_groups.specs.Naming.{HasPlace}
use Rattle.security_groups.proofs.Numbered.{any_if, position-cons}
use Rattle.security_groups.proofs.Steps.{take_next}

-- ---- the number of an id

-- the id with a number
pub id-at : (ids : List (List ℕ)) (v d : List ℕ) (m : ℕ) → place_of ids v ≡ Some m → get_or ids m d ≡ v
id-at ids v d m found = same_bytes (get_or ids m d) v (position-at (λ i. bytes_eq i v) ids m d found).1

pub place-within : (ids : List (List ℕ)) (v : List ℕ) (m : ℕ) → place_of ids v ≡ Some m → m < length ids
place-within ids v m found = ltb-true m (length ids) (position-at (λ i. bytes_eq i v) ids m [] found).0

-- the id of a number has that number
pub own-place : (ids : List (List ℕ)) (v : List ℕ) (m : ℕ) → place_of ids v ≡ Some m → place_of ids (get_or ids m []) ≡ Some m
own-place ids v m found = ap (place_of ids) (id-at ids v [] m found) ∙ found

-- ids with one number are the same
pub same-id : (ids : List (List ℕ)) (v w : List ℕ) (m : ℕ) → place_of ids v ≡ Some m → place_of ids w ≡ Some m → v ≡ w
same-id ids v w m found also = sym (id-at ids v [] m found) ∙ id-at ids w [] m also

-- an id has another's number where it is that
pub same-number : (ids : List (List ℕ)) (v : List ℕ) (m : ℕ) → place_of ids v ≡ Some m → (x : List ℕ) → is_number (place_of ids x) m ≡ bytes_eq x v
same-number ids v m found x = by (place_of ids x) refl
  where
    by : (o : Option ℕ) → place_of ids x ≡ o → is_number o m ≡ bytes_eq x v
    by None none =
        sym (false_from_ne_true (bytes_eq x v) (λ same.
        let also : place_of ids x ≡ Some m = ap (place_of ids) (same_bytes x v same) ∙ found in
        let wrong : None ≡ Some m = sym none ∙ also in
        cc))
    by (Some j) some =
        elim (cases_Bool (bytes_eq x v)) [
          | inl same ↦
              let also : Some j ≡ Some m = sym some ∙ ap (place_of ids) (same_bytes x v same) ∙ found in
              let numbers : j ≡ m = cc in
              eq-eqb j m numbers ∙ sym same
          | inr other ↦
              ne_eqb j m (λ numbers.
              let is : x ≡ v = same-id ids x v m (subst (λ k. place_of ids x ≡ Some k) numbers some) found in
              both_ways (bytes_eq x v) other (sym (ap (bytes_eq x) is) ∙ bytes_self x))
              ∙ sym other
        ]

pub number-found : (o : Option ℕ) (m : ℕ) → is_number o m ≡ true → o ≡ Some m
number-found None m is = absurd cc
number-found (Some k) m is = ap Some (eqb-true k m is)

pub found-number : (o : Option ℕ) (m : ℕ) → o ≡ Some m → is_number o m ≡ true
found-number o m found = ap (λ (x : Option ℕ). is_number x m) found ∙ eq-eqb m m refl

-- two words for one test
pub number-any : (o : Option ℕ) (m : ℕ) → is_number o m ≡ any_if (λ n. n == m) o
number-any None m = refl
number-any (Some k) m = refl

-- an id that is listed has a number
pub listed-place : (ids : List (List ℕ)) (v : List ℕ) → is_listed v ids ≡ true → (k : ℕ) × (place_of ids v ≡ Some k)
listed-place ids v there = (_, position-there (λ i. bytes_eq i v) ids there)

pub place-listed : (ids : List (List ℕ)) (v : List ℕ) (k : ℕ) → place_of ids v ≡ Some k → is_listed v ids ≡ true
place-listed ids v k found =
    elim (cases_Bool (is_listed v ids)) [
      | inl there ↦ there
      | inr nowhere ↦ let wrong : None ≡ Some k = sym (position-nowhere (λ i. bytes_eq i v) ids nowhere) ∙ found in absurd cc
    ]

pub is_some-listed : (ids : List (List ℕ)) (v : List ℕ) → is_some (place_of ids v) ≡ is_listed v ids
is_some-listed ids v = by (place_of ids v) refl
  where
    by : (o : Option ℕ) → place_of ids v ≡ o → is_some o ≡ is_listed v ids
    by None none = sym (missing_number (λ i. bytes_eq i v) ids none)
    by (Some k) some = sym (place-listed ids v k some)

-- ---- one more id

pub place-append : (ids more : List (List ℕ)) (v : List ℕ) (k : ℕ) → place_of ids v ≡ Some k → place_of (ids ++ more) v ≡ Some k
place-append [] more v k found = absurd cc
place-append (x ∷ xs) more v k found =
    elim (cases_Bool (bytes_eq x v)) [
      | inl here ↦
          let at : Some 0 ≡ Some k = ap (λ (b : Bool). cond b (Some 0) (option_map (λ j. suc j) (place_of xs v))) (sym here) ∙ sym (position-cons (λ i. bytes_eq i v) x xs) ∙ found in
          position-cons (λ i. bytes_eq i v) x (xs ++ more) ∙ ap (λ (b : Bool). cond b (Some 0) (option_map (λ j. suc j) (place_of (xs ++ more) v))) here ∙ at
      | inr other ↦
          let at : option_map (λ j. suc j) (place_of xs v) ≡ Some k = ap (λ (b : Bool). cond b (Some 0) (option_map (λ j. suc j) (place_of xs v))) (sym other) ∙ sym (position-cons (λ i. bytes_eq i v) x xs) ∙ found in
          position-cons (λ i. bytes_eq i v) x (xs ++ more)
          ∙ ap (λ (b : Bool). cond b (Some 0) (option_map (λ j. suc j) (place_of (xs ++ more) v))) other
          ∙ later (λ j. place-append xs more v j) (place_of xs v) refl at
    ]
  where
    later : ((j : ℕ) → place_of xs v ≡ Some j → place_of (xs ++ more) v ≡ Some j) → (o : Option ℕ) → place_of xs v ≡ o → option_map (λ j. suc j) o ≡ Some k → option_map (λ j. suc j) (place_of (xs ++ more) v) ≡ Some k
    later rest None none at = absurd cc
    later rest (Some j) some at = ap (option_map (λ n. suc n)) (rest j some) ∙ at

pub place-end : (ids : List (List ℕ)) (v : List ℕ) → is_listed v ids ≡ false → place_of (ids ++ v ∷ []) v ≡ Some (length ids)
place-end [] v new = position-cons (λ i. bytes_eq i v) v [] ∙ ap (λ (b : Bool). cond b (Some 0) (option_map (λ j. suc j) (place_of [] v))) (bytes_self v)
place-end (x ∷ xs) v new =
    elim (cases_Bool (bytes_eq x v)) [
      | inl here ↦ let wrong : true ≡ false = ap (λ (b : Bool). b || is_listed v xs) (sym here) ∙ new in absurd cc
      | inr other ↦
          let rest : is_listed v xs ≡ false = ap (λ (b : Bool). b || is_listed v xs) (sym other) ∙ new in
          position-cons (λ i. bytes_eq i v) x (xs ++ v ∷ [])
          ∙ ap (λ (b : Bool). cond b (Some 0) (option_map (λ j. suc j) (place_of (xs ++ v ∷ []) v))) other
          ∙ ap (option_map (λ j. suc j)) (place-end xs v rest)
    ]

-- the ids that equal one, asked either way round
either-way : (v : List ℕ) (ids : List (List ℕ)) → list_any (bytes_eq v) ids ≡ is_listed v ids
either-way v ids = list_any-agree (bytes_eq v) (λ i. bytes_eq i v) (λ i. bytes_eq-comm v i) ids

-- what was added, or was there before
abbrev pub IsWith : List (List ℕ) → List ℕ → List (List ℕ) → Type 0
IsWith old v new = new ≡ cond (list_any (bytes_eq v) old) old (old ++ v ∷ [])

pub with-keeps : (old new : List (List ℕ)) (v : List ℕ) → IsWith old v new → KeepsNumbers old new
with-keeps old new v added id k found =
    elim (cases_Bool (list_any (bytes_eq v) old)) [
      | inl there ↦ ap (λ (ids : List (List ℕ)). place_of ids id) (added ∙ ap (λ (b : Bool). cond b old (old ++ v ∷ [])) there) ∙ found
      | inr new_one ↦ ap (λ (ids : List (List ℕ)). place_of ids id) (added ∙ ap (λ (b : Bool). cond b old (old ++ v ∷ [])) new_one) ∙ place-append old (v ∷ []) id k found
    ]

pub with-number : (old new : List (List ℕ)) (v : List ℕ) (o : Option ℕ) (k : ℕ) → ((n : ℕ) → o ≡ Some n → ⊥) → o ≡ place_of old v → IsWith old v new → k ≡ length old → place_of new v ≡ Some k
with-number old new v (Some n) k none asked added is = absurd (none n refl)
with-number old new v None k none asked added is =
    let nowhere : is_listed v old ≡ false = missing_number (λ i. bytes_eq i v) old (sym asked) in
    ap (λ (ids : List (List ℕ)). place_of ids v) (added ∙ ap (λ (b : Bool). cond b old (old ++ v ∷ [])) (either-way v old ∙ nowhere)) ∙ place-end old v nowhere ∙ ap Some (sym is)

-- the ids that are listed then
with-listed : (old new : List (List ℕ)) (v : List ℕ) → IsWith old v new → (id : List ℕ) → is_listed id new ≡ (is_listed id old || bytes_eq v id)
with-listed old new v added id =
    elim (cases_Bool (list_any (bytes_eq v) old)) [
      | inl there ↦ ap (is_listed id) (added ∙ ap (λ (b : Bool). cond b old (old ++ v ∷ [])) there) ∙ by (bytes_eq v id) refl (sym (either-way v old) ∙ there)
      | inr fresh ↦
          ap (is_listed id) (added ∙ ap (λ (b : Bool). cond b old (old ++ v ∷ [])) fresh)
          ∙ list_any-append (λ i. bytes_eq i id) old (v ∷ [])
          ∙ ap (λ (b : Bool). is_listed id old || b) (or-false (bytes_eq v id))
    ]
  where
    by : (b : Bool) → bytes_eq v id ≡ b → is_listed v old ≡ true → is_listed id old ≡ (is_listed id old || bytes_eq v id)
    by true same has =
        let also : is_listed id old ≡ true = ap (λ (i : List ℕ). is_listed i old) (sym (same_bytes v id same)) ∙ has in
        rw also refl
    by false other has = rw other (sym (or-false (is_listed id old)))

pub ids-next : (ids : List (List ℕ)) (i : ℕ) (v : List ℕ) (old new : List (List ℕ)) → i < length ids → v ≡ get_or ids i v → HasIds (take i ids) old → IsWith old v new → HasIds (take (i + 1) ids) new
ids-next ids i v old new within is so_far added id =
    with-listed old new v added id
    ∙ ap (λ (b : Bool). b || bytes_eq v id) (so_far id)
    ∙ ap (λ (b : Bool). is_listed id (take i ids) || b) (sym (or-false (bytes_eq v id)))
    ∙ sym (list_any-append (λ i. bytes_eq i id) (take i ids) (v ∷ []))
    ∙ ap (is_listed id) (sym (take_next ids i v within is))

-- ---- what each row of a list has

pub zip-weaker : {A B : Type 0} (R S : A → B → Type 0) → ((a : A) (b : B) → R a b → S a b) → (xs : List A) (ys : List B) → AllZip R xs ys → AllZip S xs ys
zip-weaker R S weaker [] [] zip = tt
zip-weaker R S weaker [] (y ∷ ys) zip = absurd zip
zip-weaker R S weaker (x ∷ xs) [] zip = absurd zip
zip-weaker R S weaker (x ∷ xs) (y ∷ ys) zip = (weaker x y zip.0, zip-weaker R S weaker xs ys zip.1)

pub all-weaker : {A : Type 0} (P Q : A → Type 0) → ((a : A) → P a → Q a) → (xs : List A) → All P xs → All Q xs
all-weaker P Q weaker xs all k d within = weaker (get_or xs k d) (all k d within)

-- one more row's VPC has a number
pub place-next : (xs : List GroupVpc) (i : ℕ) (x : GroupVpc) (before old new : List (List ℕ)) (k : ℕ) → i < length xs → x ≡ get_or xs i x → KeepsNumbers before old → All (HasPlace old) (take i xs) → KeepsNumbers old new
    → place_of new x.vpc ≡ Some k
    → KeepsNumbers before new × All (HasPlace new) (take (i + 1) xs)
place-next xs i x before old new k within is so_far have kept number = (
  λ id n found. kept id n (so_far id n found),
  All-more (HasPlace new) xs i x within (all-weaker (HasPlace old) (HasPlace new) (λ y has. (has.0, kept y.vpc has.0 has.1)) (take i xs) have) (subst (HasPlace new) is (k, number)),
)

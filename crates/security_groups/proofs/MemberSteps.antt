-- One more address, more blocks of a group, and one more interface.
use Rattle.std.proofs.Common.{◌≡◌, ◌∙◌, ◌&&◌, ◌++◌, ◌+◌, ◌<◌, ◌==◌, ◌≤◌, ◌∷◌, ◌^◌, ◌||◌, [], ℕ, Bool, List, Option, ap, arith, false, get_or, inl, inr, length, map, refl, set, subst, suc, sym, take, true, zero}
use Rattle.std.specs.List.{All, AllZip, flat_map, list_any}
use Rattle.std.proofs.lemmas.List.{get_or-map, get_or-set_other, length-map, length-set}
use Rattle.std.proofs.lemmas.Grind.{get_or-set_at}
use Rattle.address_sets.specs.Runs.{is_in}
use Rattle.address_sets.specs.declared.sets.Run.{Run}
use Rattle.prefix_text.specs.Block.{Block, holds}
use Rattle.vpc_base.proofs.Lemmas.{cases_Bool, eq-eqb, eqb-true, list_any-append, ne_eqb, or-false, take_more}
use Rattle.vpc_base.proofs.Zips.{length-zip}
use Rattle.vpc_model.specs.declared.rows.Group.{Group}
use Rattle.std.proofs.lemmas.List.{get_or_default}
use Rattle.std.proofs.lemmas.List.Elements.{All-more, All-nil}
use Rattle.vpc_model.specs.declared.rows.Description.{Description}
use Rattle.vpc_model.specs.declared.rows.Interface.{Interface}
use Rattle.security_groups.specs.Members.{AreDelegated, AreFit, AreMore, HasBlocksOf, HasMembersOf, groups_with, holds_for, key_with, keys_with}
use Rattle.security_groups.proofs.Steps.{flat_map-next, map-next, take_next}

-- an address that is added to those before it
pub members-next : (groups : List ℕ) (before : List ℕ) (xs : List (ℕ × Option ℕ)) (i : ℕ) (d : ℕ × Option ℕ) (now next : List ℕ) → i < length xs → now ≡ before ++ keys_with groups (take i xs) → AreFit (take i xs)
    → next ≡ now ++ map (key_with (get_or xs i d).0) groups → (get_or xs i d).0 < 2 ^ 32
    → (next ≡ before ++ keys_with groups (take (i + 1) xs)) × AreFit (take (i + 1) xs)
members-next groups before xs i d now next within so_far fit added fits = (
  flat_map-next (λ (x : ℕ × Option ℕ). map (key_with x.0) groups) before xs i (get_or xs i d) now next within (get_or_default xs i d (get_or xs i d) within) so_far added,
  All-more (λ (x : ℕ × Option ℕ). x.0 < 2 ^ 32) xs i d within fit fits,
)

-- ---- blocks

-- no interface has any yet
pub none-delegated : (d : Description) (blocks : List (List Block)) → blocks ≡ map (λ g. []) d.groups → AreDelegated d [] blocks
none-delegated d blocks is = record {
  described = ap length is ∙ length-map d.groups (λ (g : Group). none);
  each = λ g a within. ap (λ (bs : List (List Block)). list_any (holds a) (get_or bs g [])) is ∙ ap (list_any (holds a)) (empty d.groups g);
}
  where
    none : List Block
    none = []

    empty : (gs : List Group) (g : ℕ) → get_or (map (λ (x : Group). none) gs) g none ≡ none
    empty [] g = refl
    empty (x ∷ gs) zero = refl
    empty (x ∷ gs) (suc g) = empty gs g

-- nothing more
pub none-more : (blocks : List (List Block)) (groups : List ℕ) (more : List Block) → groups ≡ [] → AreMore blocks blocks groups more
none-more blocks groups more none = record {
  long = refl;
  each = λ g a within. sym (or-false (list_any (holds a) (get_or blocks g []))) ∙ ap (λ (gs : List ℕ). list_any (holds a) (get_or blocks g []) || (list_any (λ n. n == g) gs && list_any (holds a) more)) (sym none);
}

-- one more group of those that get them
pub more-next : (before now next : List (List Block)) (groups : List ℕ) (k : ℕ) (more : List Block) → k < length groups → AreMore before now (take k groups) more → AreMore now next (get_or groups k 0 ∷ []) more
    → AreMore before next (take (k + 1) groups) more
more-next before now next groups k more below so_far one = record {
  long = one.long ∙ so_far.long;
  each = λ g a within.
      one.each g a (subst (λ n. g < n) (sym so_far.long) within)
      ∙ ap (λ b. b || (((get_or groups k 0 == g) || false) && list_any (holds a) more)) (so_far.each g a within)
      ∙ joined (list_any (holds a) (get_or before g [])) (list_any (λ n. n == g) (take k groups)) (get_or groups k 0 == g) (list_any (holds a) more)
      ∙ ap (λ b. list_any (holds a) (get_or before g []) || (b && list_any (holds a) more)) (sym (all g));
}
  where
    joined : (p t s h : Bool) → ((p || (t && h)) || ((s || false) && h)) ≡ (p || ((t || s) && h))
    joined true t s h = refl
    joined false true s true = refl
    joined false true true false = refl
    joined false true false false = refl
    joined false false true h = refl
    joined false false false h = refl

    all : (g : ℕ) → list_any (λ n. n == g) (take (k + 1) groups) ≡ (list_any (λ n. n == g) (take k groups) || (get_or groups k 0 == g))
    all g =
        ap (list_any (λ n. n == g)) (take_more groups k 0 below)
        ∙ list_any-append (λ n. n == g) (take k groups) (get_or groups k 0 ∷ [])
        ∙ ap (λ c. list_any (λ n. n == g) (take k groups) || c) (or-false (get_or groups k 0 == g))

-- the blocks of one group are more
pub more-at : {V : Type 0} (items : V → List Block) (vs : List V) (k : ℕ) (old put : V) (more : List Block) → k < length vs → old ≡ get_or vs k old → items put ≡ items old ++ more
    → AreMore (map items vs) (map items (set vs k put)) (k ∷ []) more
more-at {V} items vs k old put more below is added = record {
  long = length-map (set vs k put) items ∙ length-set vs k put ∙ sym (length-map vs items);
  each = λ g a within. by g a (subst (λ n. g < n) (length-map vs items) within);
}
  where
    -- a test of the blocks of a group
    any-after : (g a : ℕ) → g < length vs → list_any (holds a) (get_or (map items (set vs k put)) g []) ≡ list_any (holds a) (items (get_or (set vs k put) g old))
    any-after g a within = ap (list_any (holds a)) (get_or-map items (set vs k put) g old [] (subst (λ n. g < n) (sym (length-set vs k put)) within))

    any-before : (g a : ℕ) → g < length vs → list_any (holds a) (items (get_or vs g old)) ≡ list_any (holds a) (get_or (map items vs) g [])
    any-before g a within = ap (list_any (holds a)) (sym (get_or-map items vs g old [] within))

    with-more : (p t h : Bool) → t ≡ true → (p || h) ≡ (p || ((t || false) && h))
    with-more p true h e = refl
    with-more p false h e = absurd cc

    without : (p t h : Bool) → t ≡ false → p ≡ (p || ((t || false) && h))
    without p true h e = absurd cc
    without p false h e = sym (or-false p)

    by : (g a : ℕ) → g < length vs → list_any (holds a) (get_or (map items (set vs k put)) g []) ≡ (list_any (holds a) (get_or (map items vs) g []) || (((k == g) || false) && list_any (holds a) more))
    by g a within =
        elim (cases_Bool (k == g)) [
          | inl same ↦
              let here : k ≡ g = eqb-true k g same in
              any-after g a within
              ∙ ap (λ v. list_any (holds a) (items v)) (get_or-set_at vs k g put old (sym here) below)
              ∙ ap (list_any (holds a)) added
              ∙ list_any-append (holds a) (items old) more
              ∙ ap (λ v. list_any (holds a) (items v) || list_any (holds a) more) (is ∙ ap (λ n. get_or vs n old) here)
              ∙ ap (λ b. b || list_any (holds a) more) (any-before g a within)
              ∙ with-more (list_any (holds a) (get_or (map items vs) g [])) (k == g) (list_any (holds a) more) same
          | inr other ↦
              let apart : k ≡ g → ⊥ = λ e. let same : (k == g) ≡ true = eq-eqb k g e in absurd (let both : true ≡ false = sym same ∙ other in cc) in
              any-after g a within
              ∙ ap (λ v. list_any (holds a) (items v)) (get_or-set_other vs k g put old (λ e. apart (sym e)))
              ∙ any-before g a within
              ∙ without (list_any (holds a) (get_or (map items vs) g [])) (k == g) (list_any (holds a) more) other
        ]

-- no described group gets them
pub more-past : (blocks : List (List Block)) (k : ℕ) (more : List Block) → length blocks ≤ k → AreMore blocks blocks (k ∷ []) more
more-past blocks k more past = record {
  long = refl;
  each = λ g a within.
      let other : (k == g) ≡ false = ne_eqb k g (λ e. absurd (omega arith)) in
      sym (ap (λ b. list_any (holds a) (get_or blocks g []) || ((b || false) && list_any (holds a) more)) other ∙ or-false (list_any (holds a) (get_or blocks g [])));
}

-- one more interface's blocks
delegated-next : (d : Description) (all : List Interface) (i : ℕ) (e : Interface) (before after : List (List Block)) → i < length all → e ≡ get_or all i e → AreDelegated d (take i all) before
    → AreMore before after (groups_with d e) e.prefixes → AreDelegated d (take (i + 1) all) after
delegated-next d all i e before after within is are more = record {
  described = more.long ∙ are.described;
  each = λ g a below.
      more.each g a (subst (λ n. g < n) (sym are.described) below)
      ∙ ap (λ b. b || holds_for d g a e) (are.each g a below)
      ∙ ap (λ b. list_any (holds_for d g a) (take i all) || b) (sym (or-false (holds_for d g a e)))
      ∙ sym (list_any-append (holds_for d g a) (take i all) (e ∷ []))
      ∙ ap (list_any (holds_for d g a)) (sym (take_next all i e within is));
}

-- the sets of all groups' blocks
pub all-delegated : {V : Type 0} (items : V → List Block) (d : Description) (vs : List V) (sets : List (List Run)) → AllZip (λ v s. HasBlocksOf (items v) s) vs sets → AreDelegated d d.interfaces (map items vs)
    → (length sets ≡ length d.groups) × ((g a : ℕ) → g < length d.groups → is_in a (get_or sets g []) ≡ list_any (holds_for d g a) d.interfaces)
all-delegated {V} items d vs sets zip are = (
  sym (length-zip (λ v s. HasBlocksOf (items v) s) vs sets zip) ∙ sym (length-map vs items) ∙ are.described,
  λ g a below. at vs sets g a zip (subst (λ n. g < n) (sym are.described ∙ length-map vs items) below) ∙ are.each g a below,
)
  where
    at : (us : List V) (ss : List (List Run)) (g a : ℕ) → AllZip (λ v s. HasBlocksOf (items v) s) us ss → g < length us → is_in a (get_or ss g []) ≡ list_any (holds a) (get_or (map items us) g [])
    at [] ss g a each below = absurd (omega arith)
    at (u ∷ us) [] g a each below = absurd each
    at (u ∷ us) (s ∷ ss) zero a each below = each.0 a
    at (u ∷ us) (s ∷ ss) (suc g) a each below = at us ss g a each.1 (omega arith)

-- ---- interfaces

-- what is known after some interfaces
pub record AreAdded (d : Description) (rows : List Interface) (interfaces : List (List ℕ)) (numbers : List ℕ) (blocks : List (List Block)) : Type 0 where
  pub named : interfaces ≡ map (groups_with d) rows
  pub keys : numbers ≡ flat_map (λ e. keys_with (groups_with d e) e.addresses) rows
  pub fit : All (λ e. AreFit e.addresses) rows
  pub delegated : AreDelegated d rows blocks

-- none yet
pub added-first : (d : Description) (groups : List Group) (interfaces : List (List ℕ)) (numbers : List ℕ) (blocks : List (List Block)) → interfaces ≡ [] → numbers ≡ [] → groups ≡ d.groups → blocks ≡ map (λ g. []) groups
    → AreAdded d [] interfaces numbers blocks
added-first d groups interfaces numbers blocks no_interfaces no_numbers is none = record {
  named = no_interfaces;
  keys = no_numbers;
  fit = All-nil (λ (e : Interface). AreFit e.addresses);
  delegated = none-delegated d blocks (none ∙ ap (map (λ (g : Group). [])) is);
}

-- all of them
pub added-all : {V : Type 0} (items : V → List Block) (d : Description) (interfaces : List (List ℕ)) (before keys : List ℕ) (vs seen : List V) (sets : List (List Run)) → AreAdded d d.interfaces interfaces before (map items vs)
    → ((k : ℕ) → list_any (λ n. n == k) keys ≡ list_any (λ n. n == k) before) → seen ≡ vs → AllZip (λ v s. HasBlocksOf (items v) s) seen sets
    → HasMembersOf d (record { keys = keys; blocks = sets })
added-all {V} items d interfaces before keys vs seen sets are same is zip =
    let blocks = all-delegated items d vs sets (subst (λ (us : List V). AllZip (λ v s. HasBlocksOf (items v) s) us sets) is zip) are.delegated in
    record { keys = λ k. same k ∙ ap (list_any (λ n. n == k)) are.keys; fit = are.fit; described = blocks.0; delegated = blocks.1 }

-- one more interface
pub added-next : (d : Description) (all : List Interface) (i : ℕ) (e : Interface) (now next : List (List ℕ)) (keys more : List ℕ) (before after : List (List Block)) → i < length all → e ≡ get_or all i e → AreAdded d (take i all) now keys before
    → next ≡ now ++ groups_with d e ∷ [] → more ≡ keys ++ keys_with (groups_with d e) e.addresses → AreFit e.addresses → AreMore before after (groups_with d e) e.prefixes
    → AreAdded d (take (i + 1) all) next more after
added-next d all i e now next keys more before after within is are named added fits blocks = record {
  named = map-next (groups_with d) all i e now next within is are.named named;
  keys = flat_map-next (λ (x : Interface). keys_with (groups_with d x) x.addresses) [] all i e keys more within is are.keys added;
  fit = All-more (λ (x : Interface). AreFit x.addresses) all i e within are.fit (subst (λ (x : Interface). AreFit x.addresses) is fits);
  delegated = delegated-next d all i e before after within is are.delegated blocks;
}

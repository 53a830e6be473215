-- Groups whose rules match the same let in the same.
use Rattle.std.proofs.Common.{◌&&◌, ◌+◌, ◌++◌, ◌||◌, ◌==◌, ◌≡◌, ◌∙◌, ◌∷◌, ◌<◌, ◌^◌, [], IfSome, List, None, Option, Some, ap, arith, length, slice_index_or, subst, suc, sym, zero, ℕ}
use Rattle.std.specs.List.{AllZip, list_any}
use Rattle.address_sets.specs.Runs.{is_in}
use Rattle.address_sets.specs.declared.sets.Run.{Run}
use Rattle.number_tables.proofs.Pairs.{any-pairs}
use Rattle.number_tables.specs.Keys.{key_of}
use Rattle.vpc_base.specs.declared.headers.Dir.TheVariants as dirs
use Rattle.vpc_base.specs.declared.headers.Header.{Header}
use Rattle.vpc_model.specs.Filter.{far_address, is_between, matches_proto}
use Rattle.vpc_model.specs.declared.numbers.EniNo.{EniNo}
use Rattle.security_groups.proofs.GroupsOn.{is_some-first_of}
use Rattle.security_groups.specs.Alike.{AreTwins, BothGroups, GroupsLetInSame, HasSameBlocks, HasSameKeys, HasSameMembers, IsSameList, IsTwin, LetsInSame, MatchesSame}
use Rattle.security_groups.specs.Dividing.{rules_in}
use Rattle.security_groups.specs.Index.{GroupLists}
use Rattle.security_groups.specs.Joined.{AreAlike}
use Rattle.security_groups.specs.Rules.{allows, any_allows, has_block, has_entry, has_key, has_member, names}
use Rattle.security_groups.specs.declared.rules.Rule.{Rule}

-- ---- twins

-- one number more
pub twins_push : (alike : ℕ → ℕ → Type 0) (twins : List (Option ℕ)) (t : Option ℕ) → AreTwins alike twins → IfSome t (alike (length twins)) → AreTwins alike (twins ++ t ∷ [])
twins_push alike [] None are here zero k is = absurd cc
twins_push alike [] (Some x) are here zero k is = let same : x ≡ k = cc in subst (alike 0) same here
twins_push alike [] t are here (suc n) k is = absurd cc
twins_push alike (x ∷ xs) t are here zero k is = are zero k is
twins_push alike (x ∷ xs) t are here (suc n) k is = twins_push (λ m j. alike (suc m) j) xs t (λ m j twin. are (suc m) j twin) here n k is

pub twins_next : (alike : ℕ → ℕ → Type 0) (twins next : List (Option ℕ)) (n : ℕ) (t : Option ℕ) → AreTwins alike twins → n ≡ length twins → IfSome t (alike n) → next ≡ twins ++ t ∷ [] → AreTwins alike next
twins_next alike twins next n t are is here added =
    subst (AreTwins alike) (sym added) (twins_push alike twins t are (subst (λ m. IfSome t (alike m)) is here))

zip-alike : (alike : ℕ → ℕ → Type 0) (twins : List (Option ℕ)) → AreTwins alike twins → (ns ks : List ℕ) → AllZip (IsTwin twins) ns ks → AllZip alike ns ks
zip-alike alike twins are [] [] zip = tt
zip-alike alike twins are [] (k ∷ ks) zip = absurd zip
zip-alike alike twins are (n ∷ ns) [] zip = absurd zip
zip-alike alike twins are (n ∷ ns) (k ∷ ks) zip = (are n k zip.0, zip-alike alike twins are ns ks zip.1)

-- numbers and their twins are alike, place by place
pub twins_are_alike : (alike : ℕ → ℕ → Type 0) (twins seen : List (Option ℕ)) (ns ks ms js : List ℕ) → AreTwins alike twins → seen ≡ twins → ns ≡ ms → ks ≡ js → AllZip (IsTwin seen) ns ks
    → AllZip alike ms js
twins_are_alike alike twins seen ns ks ms js are is one other zip =
    subst (λ (xs : List ℕ). AllZip alike xs js) one
    (subst (AllZip alike ns) other (zip-alike alike twins are ns ks (subst (λ (ts : List (Option ℕ)). AllZip (IsTwin ts) ns ks) is zip)))

-- ---- what a rule names

pub same_keys : (one other : GroupLists) (g k : ℕ) (members others : List ℕ) (first twin a : ℕ) → members ≡ one.members.keys → others ≡ other.members.keys → first ≡ key_of g 0 → twin ≡ key_of k 0
    → list_any (λ n. n == first + a) members ≡ list_any (λ n. n == twin + a) others → has_key one.members a g ≡ has_key other.members a k
same_keys one other g k members others first twin a is also first_is twin_is same =
    let here : first + a ≡ key_of g a = omega arith in
    let there : twin + a ≡ key_of k a = omega arith in
    ap (λ m. list_any (λ n. n == m) one.members.keys) (sym here)
    ∙ ap (list_any (λ n. n == first + a)) (sym is)
    ∙ same
    ∙ ap (list_any (λ n. n == twin + a)) also
    ∙ ap (λ m. list_any (λ n. n == m) other.members.keys) there

pub same_members : (one other : GroupLists) (g k : ℕ) → HasSameKeys one other g k → HasSameBlocks one other g k → HasSameMembers one other g k
same_members one other g k keys blocks a fits =
    ap (λ b. b || has_block one.members a g) (keys a fits) ∙ ap (λ b. has_key other.members a k || b) (blocks a)

pub same_sets : (one other lists others : List (List Run)) (g k : ℕ) → lists ≡ one → others ≡ other → ((a : ℕ) → has_entry lists a g ≡ has_entry others a k)
    → (a : ℕ) → has_entry one a g ≡ has_entry other a k
same_sets one other lists others g k is also same a =
    ap (λ (xs : List (List Run)). has_entry xs a g) (sym is) ∙ same a ∙ ap (λ (xs : List (List Run)). has_entry xs a k) also

pub matches_same : (one other : GroupLists) (r s : Rule) → AreAlike r s → r.blocks ≡ s.blocks → AllZip (IsSameList one other) r.lists s.lists → AllZip (HasSameMembers one other) r.groups s.groups
    → MatchesSame one other r s
matches_same one other r s ports blocks entries groups = record {
  ports = ports;
  named = λ a fits.
      ap (λ (b : List Run). is_in a b || (list_any (has_entry one.lists a) r.lists || list_any (has_member one.members a) r.groups)) blocks
      ∙ ap (λ b. is_in a s.blocks || (b || list_any (has_member one.members a) r.groups))
      (any-pairs (IsSameList one other) (has_entry one.lists a) (has_entry other.lists a) (λ l k same. same a) r.lists s.lists entries)
      ∙ ap (λ b. is_in a s.blocks || (list_any (has_entry other.lists a) s.lists || b))
      (any-pairs (HasSameMembers one other) (has_member one.members a) (has_member other.members a) (λ g k same. same a fits) r.groups s.groups groups);
}

-- ---- what rules let in

rule-lets-in-same : (one other : GroupLists) (h : Header) → far_address dirs.Inward h < 2 ^ 32 → (r s : Rule) → MatchesSame one other r s
    → allows one.lists one.members dirs.Inward h r ≡ allows other.lists other.members dirs.Inward h s
rule-lets-in-same one other h fits r s same =
    let a = far_address dirs.Inward h in
    ap (λ (x : Option ℕ). matches_proto x h.proto && (is_between r.q_from r.q_to h.q && names one.lists one.members a r)) same.ports.proto
    ∙ ap (λ x. matches_proto s.proto h.proto && (is_between x r.q_to h.q && names one.lists one.members a r)) same.ports.from
    ∙ ap (λ x. matches_proto s.proto h.proto && (is_between s.q_from x h.q && names one.lists one.members a r)) same.ports.to
    ∙ ap (λ b. matches_proto s.proto h.proto && (is_between s.q_from s.q_to h.q && b)) (same.named a fits)

pub group_lets_in_same : (one other : GroupLists) (g k : ℕ) (rules others : List Rule) → rules ≡ rules_in one.groups dirs.Inward g → others ≡ rules_in other.groups dirs.Inward k
    → AllZip (MatchesSame one other) rules others → LetsInSame one other g k
group_lets_in_same one other g k rules others is also all h fits =
    ap (λ (rs : List Rule). any_allows one.lists one.members dirs.Inward rs h) (sym is)
    ∙ any-pairs (MatchesSame one other) (allows one.lists one.members dirs.Inward h) (allows other.lists other.members dirs.Inward h) (rule-lets-in-same one other h fits) rules others all
    ∙ ap (λ (rs : List Rule). any_allows other.lists other.members dirs.Inward rs h) also

pub groups_let_in_same : (both : BothGroups) (e i : EniNo) → AllZip (LetsInSame both.one both.other) (slice_index_or both.one.interfaces e.0 []) (slice_index_or both.other.interfaces i.0 [])
    → GroupsLetInSame both e i
groups_let_in_same both e i all h fits =
    let a = both.one in
    let b = both.other in
    let named = slice_index_or a.interfaces e.0 [] in
    let others = slice_index_or b.interfaces i.0 [] in
    is_some-first_of a.lists a.members a.groups dirs.Inward h named
    ∙ any-pairs (LetsInSame a b) (λ n. any_allows a.lists a.members dirs.Inward (rules_in a.groups dirs.Inward n) h) (λ n. any_allows b.lists b.members dirs.Inward (rules_in b.groups dirs.Inward n) h)
    (λ n k same. same h fits) named others all
    ∙ sym (is_some-first_of b.lists b.members b.groups dirs.Inward h others)

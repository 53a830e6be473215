-- The rows of one direction, told apart from those of the other.
use Rattle.std.proofs.Common.{◌≡◌, ◌&&◌, ◌||◌, ◌∙◌, All, Bool, List, [], ◌∷◌, ap, false, inl, inr, nat_lt, not, refl, sym, true, ℕ}
use Rattle.std.proofs.Math.Path.{fun_ext}
use Rattle.std.specs.List.{filter, find, list_any}
use Rattle.std.specs.List.Sorted.{IsPermutation, IsSortedByKey, IsStableByKey}
use Rattle.std.specs.Ordering.{nat_cmp}
use Rattle.std.proofs.lemmas.Bool.{and_parts, both_ways, cases_Bool, false_from_ne_true}
use Rattle.std.proofs.lemmas.List.Elements.{All-head, All-tail, filter_passes}
use Rattle.std.proofs.lemmas.List.Sorted.{All-permutation, IsPermutation-refl}
use Rattle.vpc_base.specs.declared.headers.Dir.{Dir}
use Rattle.vpc_base.specs.declared.headers.Header.{Header}
use Rattle.vpc_base.proofs.Tests.{find-kept}
use Rattle.vpc_model.specs.declared.rows.AclRow.{AclRow}
use Rattle.vpc_model.specs.Acls.{acl_matches, acl_verdict, is_of_dir, verdict_of_row}
use Rattle.vpc_model.specs.Choice.{chosen, is_unbeaten}
use Rattle.vpc_laws.proofs.Sorting.{acl_rows_may_be_sorted}
use Rattle.network_acls.specs.Tried.{AreTried, TriedRows, row_matches, rows_tried}

-- what passes a test that only kept rows pass, passes it among the kept rows
list_any-kept : {X : Type 0} (p d : X → Bool) → ((x : X) → p x ≡ true → d x ≡ true) → (xs : List X) → list_any p (filter d xs) ≡ list_any p xs
list_any-kept p d implies [] = refl
list_any-kept p d implies (x ∷ xs) =
    elim (cases_Bool (d x)) [
      | inl kept ↦ rw kept (ap (λ b. p x || b) (list_any-kept p d implies xs))
      | inr dropped ↦
          let fails : p x ≡ false = false_from_ne_true (p x) (λ passes. both_ways (d x) dropped (implies x passes)) in
          rw (dropped, fails) (list_any-kept p d implies xs)
    ]

-- so does what is chosen
chosen-kept : {X : Type 0} (p d : X → Bool) (beats : X → X → Bool) → ((x : X) → p x ≡ true → d x ≡ true) → (xs : List X) → chosen p beats (filter d xs) ≡ chosen p beats xs
chosen-kept p d beats implies xs =
    let same : is_unbeaten p beats (filter d xs) ≡ is_unbeaten p beats xs =
    fun_ext (λ x. ap (λ b. p x && not b) (list_any-kept (λ y. p y && beats y x) d (λ y both. implies y (and_parts (p y) (beats y x) both).0) xs)) in
    ap (λ test. find test (filter d xs)) same
    ∙ find-kept (is_unbeaten p beats xs) d (λ x unbeaten. implies x (and_parts (p x) (not (list_any (λ y. p y && beats y x) xs)) unbeaten).0) xs

-- an ACL asks the rows of the direction alone
pub acl_verdict-filter : (rows : List AclRow) (dir : Dir) (h : Header) → acl_verdict (filter (is_of_dir dir) rows) dir h ≡ acl_verdict rows dir h
acl_verdict-filter rows dir h =
    ap verdict_of_row (chosen-kept (acl_matches dir h) (is_of_dir dir) (λ r s. nat_lt r.number s.number) (λ r matches. (and_parts (is_of_dir dir r) (row_matches dir h r) matches).0) rows)

-- the verdict of sorted rows is that of their first match
pub acl_verdict-sorted : (rows : List AclRow) (dir : Dir) (h : Header) → IsSortedByKey (λ r. r.number) nat_cmp rows → acl_verdict rows dir h ≡ verdict_of_row (find (acl_matches dir h) rows)
acl_verdict-sorted rows dir h sorted = acl_rows_may_be_sorted rows rows dir h (IsPermutation-refl rows) sorted (λ r. refl)

-- sorting the rows of a direction leaves its verdicts
pub acl_verdict-tried : (rows kept tried : List AclRow) (dir : Dir) (h : Header) → kept ≡ filter (is_of_dir dir) rows
    → IsPermutation kept tried → IsSortedByKey (λ r. r.number) nat_cmp tried → IsStableByKey (λ r. r.number) nat_cmp kept tried
    → acl_verdict tried dir h ≡ acl_verdict rows dir h
acl_verdict-tried rows kept tried dir h is same sorted stable =
    acl_verdict-sorted tried dir h sorted
    ∙ sym (acl_rows_may_be_sorted kept tried dir h same sorted stable)
    ∙ ap (λ xs. acl_verdict xs dir h) is
    ∙ acl_verdict-filter rows dir h

-- where all rows are of the direction, it need not be asked
find-of_dir : (dir : Dir) (h : Header) (rows : List AclRow) → All (λ r. is_of_dir dir r ≡ true) rows → find (row_matches dir h) rows ≡ find (acl_matches dir h) rows
find-of_dir dir h [] all = refl
find-of_dir dir h (r ∷ rows) all =
    let here : is_of_dir dir r ≡ true = All-head (λ x. is_of_dir dir x ≡ true) r rows all in
    let rest = find-of_dir dir h rows (All-tail (λ x. is_of_dir dir x ≡ true) r rows all) in
    rw (here, rest) refl

pub first_verdict-tried : (dir : Dir) (h : Header) (rows : List AclRow) → AreTried dir rows → verdict_of_row (find (row_matches dir h) rows) ≡ acl_verdict rows dir h
first_verdict-tried dir h rows tried = ap verdict_of_row (find-of_dir dir h rows tried.of_dir) ∙ sym (acl_verdict-sorted rows dir h tried.ordered)

-- rows of a direction that are sorted
pub are_tried : (dir : Dir) (rows kept tried : List AclRow) → kept ≡ filter (is_of_dir dir) rows → IsPermutation kept tried → IsSortedByKey (λ r. r.number) nat_cmp tried → AreTried dir tried
are_tried dir rows kept tried is same sorted =
    record {
      of_dir = All-permutation (λ r. is_of_dir dir r ≡ true) kept tried same (rw is (filter_passes (is_of_dir dir) rows));
      ordered = sorted;
    }

-- the verdict of the rows of one direction, of an index that is asked for that direction
pub decided : (dir asked : Dir) (h : Header) (rows seen : List AclRow) (i : TriedRows) (answer : Bool × ℕ) → dir ≡ asked → AreTried asked rows → seen ≡ rows → rows ≡ rows_tried asked i
    → answer ≡ verdict_of_row (find (row_matches asked h) seen)
    → answer ≡ acl_verdict (rows_tried dir i) dir h
decided dir asked h rows seen i answer same tried is in_index given =
    given
    ∙ ap (λ xs. verdict_of_row (find (row_matches asked h) xs)) is
    ∙ first_verdict-tried asked h rows tried
    ∙ ap (λ xs. acl_verdict xs asked h) in_index
    ∙ ap (λ x. acl_verdict (rows_tried x i) x h) (sym same)

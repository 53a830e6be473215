-- What is told of an address.
use Rattle.std.proofs.Common.{◌≡◌, ℕ, ◌≤◌, ◌<◌, ◌==◌, ◌&&◌, ◌||◌, ◌⊎◌, List, None, Option, Some, ap, arith, false, inl, inr, nat_lt, not, refl, rules, sym, true, ◌∙◌}
use Rattle.std.specs.Prelude.{option_map}
use Rattle.std.specs.List.{Contains, find, list_any}
use Rattle.std.proofs.lemmas.Bool.{and_from, and_left, and_parts, and_right, both_ways, cases_Bool, not-true, not_from_false}
use Rattle.std.proofs.lemmas.Bool.Decides.{nat_tests}
use Rattle.vpc_base.proofs.Members.{find-None, find-member, find_none, list_any-fails, list_any-none}
use Rattle.prefix_text.specs.Block.{holds}
use Rattle.vpc_model.specs.Choice.{is_unbeaten}
use Rattle.block_pieces.specs.declared.rows.BlockRow.{BlockRow}
use Rattle.block_pieces.specs.Laws.{IsAsGood}
use Rattle.block_pieces.specs.Told.{is_better, told_by}

-- ---- ranks and numbers, where the first of two is a and x, and the second b and y

no_better : (a b x y : ℕ) → (a < b) ⊎ ((a ≡ b) × (x ≤ y)) → (nat_lt b a || ((b == a) && nat_lt y x)) ≡ false
no_better a b x y (inl less) = grind (arith, nat_tests)
no_better a b x y (inr tied) = grind (arith, nat_tests)

same_number : (a b x y : ℕ) → (a < b) ⊎ ((a ≡ b) × (x ≤ y)) → (nat_lt a b || ((a == b) && nat_lt x y)) ≡ false → x ≡ y
same_number a b x y (inl less) worse = grind (arith, nat_tests)
same_number a b x y (inr tied) worse = grind (arith, nat_tests)

-- ---- what is told

pub none_is_told : (rows : List BlockRow) (a : ℕ) → ((r : BlockRow) → Contains rows r → holds a r.block ≡ false) → told_by rows a ≡ None
none_is_told rows a none =
    let candidate = λ (r : BlockRow). holds a r.block in
    ap (λ o. option_map (λ r. r.row) o)
    (find_none (is_unbeaten candidate is_better rows) rows (λ r listed. and_left (candidate r) (not (list_any (λ y. candidate y && is_better y r) rows)) (none r listed)))

-- the best is unbeaten
unbeaten : (rows : List BlockRow) (a : ℕ) (best : BlockRow) → holds a best.block ≡ true → ((r : BlockRow) → Contains rows r → holds a r.block ≡ true → IsAsGood best r)
    → is_unbeaten (λ r. holds a r.block) is_better rows best ≡ true
unbeaten rows a best here good =
    and_from (holds a best.block) (not (list_any (λ y. holds a y.block && is_better y best) rows)) here
    (not_from_false (list_any (λ y. holds a y.block && is_better y best) rows)
    (list_any-none (λ y. holds a y.block && is_better y best) rows
    (λ y listed. elim (cases_Bool (holds a y.block)) [
      | inl too ↦ and_right (holds a y.block) (is_better y best) (no_better best.rank y.rank best.row y.row (good y listed too))
      | inr not_so ↦ and_left (holds a y.block) (is_better y best) not_so
    ])))

-- what else is unbeaten has its number
found : (rows : List BlockRow) (a : ℕ) (best : BlockRow) → Contains rows best → holds a best.block ≡ true → ((r : BlockRow) → Contains rows r → holds a r.block ≡ true → IsAsGood best r)
    → (o : Option BlockRow) → find (is_unbeaten (λ r. holds a r.block) is_better rows) rows ≡ o → option_map (λ r. r.row) o ≡ Some best.row
found rows a best listed here good None none =
    absurd (both_ways _ (find-None (is_unbeaten (λ r. holds a r.block) is_better rows) rows best none listed) (unbeaten rows a best here good))
found rows a best listed here good (Some x) some =
    let is = find-member (is_unbeaten (λ r. holds a r.block) is_better rows) rows x some in
    let parts = and_parts (holds a x.block) (not (list_any (λ y. holds a y.block && is_better y x) rows)) is.0 in
    let free = not-true (list_any (λ y. holds a y.block && is_better y x) rows) parts.1 in
    let under : (holds a best.block && is_better best x) ≡ false = list_any-fails (λ y. holds a y.block && is_better y x) rows best free listed in
    let worse : is_better best x ≡ false = elim (cases_Bool (is_better best x)) [ inl so ↦ absurd (both_ways _ under (and_from (holds a best.block) (is_better best x) here so)) | inr not_so ↦ not_so ] in
    ap Some (sym (same_number best.rank x.rank best.row x.row (good x is.1 parts.0) worse))

pub best_is_told : (rows : List BlockRow) (a : ℕ) (best : BlockRow) → Contains rows best → holds a best.block ≡ true → ((r : BlockRow) → Contains rows r → holds a r.block ≡ true → IsAsGood best r) → told_by rows a ≡ Some best.row
best_is_told rows a best listed here good = found rows a best listed here good (find (is_unbeaten (λ r. holds a r.block) is_better rows) rows) refl

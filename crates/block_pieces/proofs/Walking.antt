-- A walk over the addresses, and what the blocks around one tell.
use Rattle.std.proofs.Common.{◌≡◌, ℕ, ◌≤◌, ◌<◌, ◌+◌, ◌-◌, ◌*◌, ◌==◌, ◌&&◌, ◌||◌, ◌⊎◌, Bool, List, None, Option, Some, [], ◌∷◌, ◌++◌, ap, arith, cond, false, get_or, if◌then◌else◌, inl, inr, length, nat_le, nat_lt, refl, subst, sym, take, true, ◌∙◌}
use Rattle.std.specs.Prelude.{option_map, unwrap_or}
use Rattle.std.specs.List.{All, Contains, fold, slice_get}
use Rattle.std.proofs.lemmas.Bool.{and_cases, and_from, and_parts, and_right, both_ways, cases_Bool, cases_lt, eqb-false, eqb-true, le-leb, leb-false, leb-true, lt-leb, ltb-false, ltb-true, or_cases, or_parts}
use Rattle.std.proofs.lemmas.List.{get_or-take, get_or_default, get_or_push, length_push, length-take, take-take, take_all, take_more}
use Rattle.std.proofs.lemmas.List.Elements.{All-get_or, All-push, All-take, All-weaker, Contains-append_left, Contains-get_or, Contains-push, Contains-push_cases}
use Rattle.std.proofs.lemmas.List.Sums.{fold_push}
use Rattle.std.proofs.lemmas.Option.{slice_get-get_or}
use Rattle.vpc_base.proofs.Members.{Contains-none, Contains-take}
use Rattle.prefix_text.specs.Block.{Block, IsBlock, holds, last_of}
use Rattle.block_pieces.specs.declared.rows.BlockRow.{BlockRow}
use Rattle.block_pieces.specs.declared.sweep.Open.{Open}
use Rattle.block_pieces.specs.declared.sweep.Sweep.{Sweep}
use Rattle.block_pieces.specs.declared.sweep.Tells.{Tells}
use Rattle.block_pieces.specs.Laws.{IsAsGood}
use Rattle.block_pieces.specs.Told.{told_by}
use Rattle.block_pieces.specs.Sweep.{AreInOrder, ComesBefore, HasOpened, IsBest, IsSwept, IsTold, Reaches, StartsAfter, better_of, ends_before, open_best, order_of, tells, top_best}
use Rattle.block_pieces.proofs.Nested.{last_of-after}
use Rattle.block_pieces.proofs.ToldLemmas.{best_is_told, none_is_told}

-- ---- which of two is better

wins : (a b x y : ℕ) → (nat_lt a b || ((a == b) && nat_lt x y)) ≡ true → (a < b) ⊎ ((a ≡ b) × (x ≤ y))
wins a b x y e =
    elim (or_cases (nat_lt a b) ((a == b) && nat_lt x y) e) [
      | inl less ↦ inl (ltb-true a b less)
      | inr tied ↦ let parts = and_parts (a == b) (nat_lt x y) tied in let less = ltb-true x y parts.1 in inr (eqb-true a b parts.0, omega arith)
    ]

loses : (a b x y : ℕ) → (nat_lt a b || ((a == b) && nat_lt x y)) ≡ false → (b < a) ⊎ ((b ≡ a) × (y ≤ x))
loses a b x y e =
    let parts = or_parts (nat_lt a b) ((a == b) && nat_lt x y) e in
    let le = ltb-false a b parts.0 in
    elim (and_cases (a == b) (nat_lt x y) parts.1) [
      | inl other ↦ let ne = eqb-false a b other in inl (omega arith)
      | inr not_less ↦ let up = ltb-false x y not_less in elim (cases_lt b a) [ inl less ↦ inl less | inr ge ↦ inr (omega arith, omega arith) ]
    ]

good_through : (a b c x y z : ℕ) → (a < b) ⊎ ((a ≡ b) × (x ≤ y)) → (b < c) ⊎ ((b ≡ c) × (y ≤ z)) → (a < c) ⊎ ((a ≡ c) × (x ≤ z))
good_through a b c x y z (inl p) (inl q) = inl (omega arith)
good_through a b c x y z (inl p) (inr q) = inl (omega arith)
good_through a b c x y z (inr p) (inl q) = inl (omega arith)
good_through a b c x y z (inr p) (inr q) = inr (omega arith, omega arith)

-- ---- one more row

-- a row that doesn't hold the address changes nothing
pub best-skip : (xs : List BlockRow) (r : BlockRow) (a : ℕ) (o : Option Tells) → holds a r.block ≡ false → IsBest xs a o → IsBest (xs ++ r ∷ []) a o
best-skip xs r a None out none = λ y listed. elim (Contains-push_cases xs r y listed) [ inl before ↦ none y before | inr itself ↦ subst (λ z. holds a z.block ≡ false) itself out ]
best-skip xs r a (Some t) out is =
    record {
      row = is.row;
      listed = Contains-append_left xs (r ∷ []) is.row is.listed;
      here = is.here;
      told = is.told;
      best = λ y listed here. elim (Contains-push_cases xs r y listed) [ inl before ↦ is.best y before here | inr itself ↦ absurd (both_ways _ out (subst (λ z. holds a z.block ≡ true) (sym itself) here)) ];
    }

-- one that does is the best where it is better
best-new : (xs : List BlockRow) (r : BlockRow) (a : ℕ) → holds a r.block ≡ true → ((y : BlockRow) → Contains xs y → holds a y.block ≡ true → IsAsGood r y) → IsTold (xs ++ r ∷ []) a (tells r)
best-new xs r a here over =
    record {
      row = r;
      listed = Contains-push xs r;
      here = here;
      told = refl;
      best = λ y listed in_y. elim (Contains-push_cases xs r y listed) [ inl before ↦ over y before in_y | inr itself ↦ subst (λ z. IsAsGood r z) itself (inr (refl, omega arith)) ];
    }

best-over : (xs : List BlockRow) (r : BlockRow) (a : ℕ) (t : Tells) → holds a r.block ≡ true → IsTold xs a t → IsTold (xs ++ r ∷ []) a (better_of (Some t) (tells r))
best-over xs r a t here is = subst (λ z. IsTold (xs ++ r ∷ []) a (better_of (Some z) (tells r))) is.told (by_test (cases_Bool (nat_lt r.rank is.row.rank || ((r.rank == is.row.rank) && nat_lt r.row is.row.row))))
  where
    by_test : (nat_lt r.rank is.row.rank || ((r.rank == is.row.rank) && nat_lt r.row is.row.row) ≡ true) ⊎ (nat_lt r.rank is.row.rank || ((r.rank == is.row.rank) && nat_lt r.row is.row.row) ≡ false) → IsTold (xs ++ r ∷ []) a (better_of (Some (tells is.row)) (tells r))
    by_test (inl better) =
        rw better
        (best-new xs r a here
        (λ y before in_y. good_through r.rank is.row.rank y.rank r.row is.row.row y.row (wins r.rank is.row.rank r.row is.row.row better) (is.best y before in_y)))
    by_test (inr worse) =
        rw worse
        (record {
          row = is.row;
          listed = Contains-append_left xs (r ∷ []) is.row is.listed;
          here = is.here;
          told = refl;
          best = λ y listed in_y. elim (Contains-push_cases xs r y listed) [ inl before ↦ is.best y before in_y | inr itself ↦ subst (λ z. IsAsGood is.row z) itself (loses r.rank is.row.rank r.row is.row.row worse) ];
        })

pub best-take : (xs : List BlockRow) (r : BlockRow) (a : ℕ) (o : Option Tells) → holds a r.block ≡ true → IsBest xs a o → IsBest (xs ++ r ∷ []) a (Some (better_of o (tells r)))
best-take xs r a None here none = best-new xs r a here (λ y before in_y. absurd (both_ways _ (none y before) in_y))
best-take xs r a (Some t) here is = best-over xs r a t here is

-- rows that begin after the address change nothing
best-rest : (rows : List BlockRow) (n a : ℕ) (o : Option Tells) → StartsAfter rows n a → IsBest (take n rows) a o → IsBest rows a o
best-rest rows n a o after is = by o is
  where
    member : (r : BlockRow) → Contains rows r → holds a r.block ≡ true → Contains (take n rows) r
    member r listed here =
        elim (cases_lt listed.0 n) [
          | inl before ↦ (listed.0, omega (arith, listed.1, length-take {A = BlockRow}), get_or-take n rows listed.0 r before ∙ listed.2)
          | inr later ↦ absurd (let from = after listed.0 r later listed.1 in let parts = and_parts (nat_le r.block.first a) (nat_le a (last_of r.block)) here in let le = leb-true r.block.first a parts.0 in omega (arith, subst (λ (z : BlockRow). a < z.block.first) listed.2 from))
        ]

    by : (o : Option Tells) → IsBest (take n rows) a o → IsBest rows a o
    by None none = λ r listed. elim (cases_Bool (holds a r.block)) [ inl here ↦ absurd (both_ways _ (none r (member r listed here)) here) | inr out ↦ out ]
    by (Some t) is =
        record {
          row = is.row;
          listed = Contains-take n rows is.row is.listed;
          here = is.here;
          told = is.told;
          best = λ r listed here. is.best r (member r listed here) here;
        }

-- the best is told
pub told_by-best : (rows : List BlockRow) (a : ℕ) (o : Option Tells) → IsBest rows a o → told_by rows a ≡ option_map (λ t. t.row) o
told_by-best rows a None none = none_is_told rows a none
told_by-best rows a (Some t) is = best_is_told rows a is.row is.listed is.here is.best ∙ ap (λ (z : Tells). Some z.row) is.told

-- ---- the blocks around

pub open_best-push : (around : List Open) (o : Open) (a : ℕ) → open_best (around ++ o ∷ []) a ≡ (if nat_le a o.last then Some o.best else open_best around a)
open_best-push around o a = fold_push (λ (told : Option Tells) (o : Open). if nat_le a o.last then Some o.best else told) None around o

top_best-push : (around : List Open) (o : Open) → top_best (around ++ o ∷ []) ≡ Some o.best
top_best-push around o =
    let n = length_push around o in
    let k : length (around ++ o ∷ []) - 1 ≡ length around = omega arith in
    ap (λ i. option_map (λ (o : Open). o.best) (slice_get (around ++ o ∷ []) i)) k
    ∙ ap (option_map (λ (o : Open). o.best)) (slice_get-get_or (around ++ o ∷ []) (length around) o (omega arith) ∙ ap Some (get_or_push around o o (length around) refl))

-- the last of them tells of every address that it reaches
pub open_best-top : (around : List Open) (a : ℕ) → Reaches a around → open_best around a ≡ top_best around
open_best-top [] a reach = refl
open_best-top (x ∷ xs) a reach =
    let around : List Open = x ∷ xs in
    let n : ℕ = length around - 1 in
    let o : Open = get_or around n x in
    let split : around ≡ take n around ++ o ∷ [] = sym (take_all (n + 1) around (omega arith)) ∙ take_more around n x (omega arith) in
    let upto : nat_le a o.last ≡ true = le-leb a o.last (reach x (omega arith)) in
    let all : open_best (take n around ++ o ∷ []) a ≡ Some o.best = open_best-push (take n around) o a ∙ ap (λ b. if b then Some o.best else open_best (take n around) a) upto in
    ap (λ (l : List Open). open_best l a) split ∙ (all ∙ (sym (top_best-push (take n around) o) ∙ sym (ap top_best split)))

-- blocks that end before an address tell nothing of it
pub open_best-drop : (around : List Open) (n a : ℕ) (d : Open) → n + 1 ≡ length around → (get_or around n d).last < a → open_best (take n around) a ≡ open_best around a
open_best-drop around n a d is past =
    let o : Open = get_or around n d in
    let split : around ≡ take n around ++ o ∷ [] = sym (take_all (n + 1) around (omega arith)) ∙ take_more around n d (omega arith) in
    sym (ap (λ (l : List Open). open_best l a) split ∙ (open_best-push (take n around) o a ∙ ap (λ b. if b then Some o.best else open_best (take n around) a) (lt-leb a o.last past)))

-- ---- leaving blocks

pub ends_before-is : (around : List Open) (a : ℕ) (d : Open) → ends_before around a ≡ true → (0 < length around) × ((get_or around (length around - 1) d).last < a)
ends_before-is [] a d e = cc
ends_before-is (x ∷ xs) a d e =
    let around : List Open = x ∷ xs in
    let at = slice_get-get_or around (length around - 1) d (omega arith) in
    (omega arith, ltb-true _ a (sym (ap (λ o. unwrap_or (option_map (λ (o : Open). nat_lt o.last a) o) false) at) ∙ e))

pub reaches-from : (around : List Open) (a : ℕ) → ends_before around a ≡ false → Reaches a around
reaches-from around a e d some =
    let at = slice_get-get_or around (length around - 1) d (omega arith) in
    ltb-false _ a (sym (ap (λ o. unwrap_or (option_map (λ (o : Open). nat_lt o.last a) o) false) at) ∙ e)

-- what is told from an address on, of the first of some blocks
pub record HasLeft (all around : List Open) (at : ℕ) : Type 0 where
  pub told : (a : ℕ) → at ≤ a → open_best around a ≡ open_best all a
  pub part : (n : ℕ) × (around ≡ take n all)

pub HasLeft-none : (all : List Open) (at : ℕ) → HasLeft all all at
HasLeft-none all at = record { told = λ a from. refl; part = (length all, sym (take_all (length all) all (omega arith))) }

pub HasLeft-more : (all around less : List Open) (at : ℕ) → HasLeft all around at → ends_before around at ≡ true → less ≡ take (length around - 1) around → HasLeft all less at
HasLeft-more all around less at h ends is =
    record {
      told = λ a from. ap (λ l. open_best l a) is ∙ (dropped a from around ends ∙ h.told a from);
      part =
          let n = h.part.0 in
          let short : length (take n all) ≤ n = omega (arith, length-take {A = Open}) in
          let le : length around - 1 ≤ n = omega (arith, short, ap length h.part.1) in
          (length around - 1, is ∙ (ap (take (length around - 1)) h.part.1 ∙ take-take (length around - 1) n all le));
    }
  where
    dropped : (a : ℕ) → at ≤ a → (around : List Open) → ends_before around at ≡ true → open_best (take (length around - 1) around) a ≡ open_best around a
    dropped a from [] ends = cc
    dropped a from (x ∷ xs) ends = let last = ends_before-is (x ∷ xs) at x ends in open_best-drop (x ∷ xs) (length (x ∷ xs) - 1) a x (omega arith) (omega (arith, last.1))

-- ---- entering blocks

-- the rows in order begin no earlier than those before them
pub first-order : (rows : List BlockRow) (i k : ℕ) (d : BlockRow) → AreInOrder rows → i ≤ k → k < length rows → (get_or rows i d).block.first ≤ (get_or rows k d).block.first
first-order rows i k d ordered le within =
    let up = ordered.order i k d le within in
    let is = ordered.blocks k d within in
    omega (arith, is.short)

before-later : (rows : List BlockRow) (n : ℕ) (o : Open) → ComesBefore rows n o → ComesBefore rows (n + 1) o
before-later rows n o h = record { block = h.block; is = h.is; last = h.last; before = λ k d le within. h.before k d (omega arith) within }

-- the block of the next row lies in the last of those around that reach its first address
inside-top : (rows : List BlockRow) (around : List Open) (n : ℕ) (d : BlockRow) (e : Open) → AreInOrder rows → n < length rows → All (ComesBefore rows n) around → Reaches (get_or rows n d).block.first around → 0 < length around
    → last_of (get_or rows n d).block ≤ (get_or around (length around - 1) e).last
inside-top rows around n d e ordered within own reach some =
    let top = own (length around - 1) e (omega arith) in
    let row : BlockRow = get_or rows n d in
    let le = last_of-after top.block row.block top.is (ordered.blocks n d within) (top.before n d (omega arith) within) (omega (arith, reach e some, top.last)) in
    omega (arith, le, top.last)

-- what is told of the addresses of the next row's block, and of those behind it
entered-told : (rows : List BlockRow) (around : List Open) (n a : ℕ) (row : BlockRow) (o : Open) → last_of row.block ≡ o.last → better_of (top_best around) (tells row) ≡ o.best → row.block.first ≤ a
    → ((e : Open) → 0 < length around → last_of row.block ≤ (get_or around (length around - 1) e).last) → IsBest (take n rows) a (open_best around a)
    → IsBest (take n rows ++ row ∷ []) a (open_best (around ++ o ∷ []) a)
entered-told rows around n a row o last best from inside is =
    subst (IsBest (take n rows ++ row ∷ []) a) (sym (open_best-push around o a)) (by_test (cases_Bool (nat_le a o.last)))
  where
    by_test : (nat_le a o.last ≡ true) ⊎ (nat_le a o.last ≡ false) → IsBest (take n rows ++ row ∷ []) a (if nat_le a o.last then Some o.best else open_best around a)
    by_test (inl upto) =
        let le = leb-true a o.last upto in
        let here : holds a row.block ≡ true = and_from (nat_le row.block.first a) (nat_le a (last_of row.block)) (le-leb row.block.first a from) (le-leb a (last_of row.block) (omega arith)) in
        let top : open_best around a ≡ top_best around = open_best-top around a (λ e some. let i = inside e some in omega arith) in
        let told = best-take (take n rows) row a (open_best around a) here is in
        let same : better_of (open_best around a) (tells row) ≡ o.best = ap (λ t. better_of t (tells row)) top ∙ best in
        rw upto (subst (IsTold (take n rows ++ row ∷ []) a) same told)
    by_test (inr past) =
        let gt = leb-false a o.last past in
        let out : holds a row.block ≡ false = and_right (nat_le row.block.first a) (nat_le a (last_of row.block)) (lt-leb a (last_of row.block) (omega arith)) in
        rw past (best-skip (take n rows) row a (open_best around a) out is)

-- a row more is walked
pub has_opened : (rows : List BlockRow) (old new : Sweep) (around : List Open) (row : BlockRow) (o : Open) → AreInOrder rows → IsSwept rows old → old.next < length rows → row ≡ get_or rows old.next row
    → HasLeft old.around.items around row.block.first → Reaches row.block.first around
    → new.around.items ≡ around ++ o ∷ [] → o.last ≡ last_of row.block → o.best ≡ better_of (top_best around) (tells row) → new.at ≡ row.block.first → new.next ≡ old.next + 1
    → HasOpened rows old new
has_opened rows old new around row o ordered swept within is left reach pushed last best at next =
    let n : ℕ = old.next in
    let own : All (ComesBefore rows n) around = subst (All (ComesBefore rows n)) (sym left.part.1) (All-take (ComesBefore rows n) left.part.0 old.around.items swept.own) in
    let inside = λ (e : Open) (some : 0 < length around). subst (λ (r : BlockRow). last_of r.block ≤ (get_or around (length around - 1) e).last) (sym is) (inside-top rows around n row e ordered within own (subst (λ (r : BlockRow). Reaches r.block.first around) is reach) some) in
    let start : old.at ≤ row.block.first = subst (λ (r : BlockRow). old.at ≤ r.block.first) (sym is) (swept.later n row (omega arith) within) in
    let more : take new.next rows ≡ take n rows ++ row ∷ [] = ap (λ k. take k rows) next ∙ (take_more rows n row within ∙ ap (λ r. take n rows ++ r ∷ []) (sym is)) in
    record {
      swept = record {
        within = omega arith;
        told = λ a from.
            let old_told : IsBest (take n rows) a (open_best around a) = subst (IsBest (take n rows) a) (sym (left.told a (omega arith))) (swept.told a (omega arith)) in
            subst (λ l. IsBest l a (open_best new.around.items a)) (sym more)
            (subst (λ l. IsBest (take n rows ++ row ∷ []) a (open_best l a)) (sym pushed)
            (entered-told rows around n a row o (sym last) (sym best) (omega arith) inside old_told));
        own =
            subst (All (ComesBefore rows new.next)) (sym pushed)
            (subst (λ k. All (ComesBefore rows k) (around ++ o ∷ [])) (sym next)
            (All-push (ComesBefore rows (n + 1)) around o (All-weaker (ComesBefore rows n) (ComesBefore rows (n + 1)) (before-later rows n) around own)
            (record {
              block = row.block;
              is = subst (λ (r : BlockRow). IsBlock r.block) (sym is) (ordered.blocks n row within);
              last = last;
              before = λ k d le k_within. subst (λ (r : BlockRow). order_of r.block ≤ order_of (get_or rows k d).block) (get_or_default rows n d row within ∙ sym is) (ordered.order n k d (omega arith) k_within);
            })));
        later = λ k d le k_within.
            let up = first-order rows n k d ordered (omega arith) k_within in
            let same : get_or rows n d ≡ row = get_or_default rows n d row within ∙ sym is in
            let up' = subst (λ (r : BlockRow). r.block.first ≤ (get_or rows k d).block.first) same up in
            omega arith;
      };
      next = next;
      at = λ d. at ∙ ap (λ (r : BlockRow). r.block.first) (is ∙ get_or_default rows n row d within);
    }

-- where the next row begins after an address, so do those behind it
pub starts-after : (rows : List BlockRow) (n a : ℕ) (e : BlockRow) → AreInOrder rows → a < (get_or rows n e).block.first → StartsAfter rows n a
starts-after rows n a e ordered past k d le within =
    let up = first-order rows n k d ordered le within in
    let same : get_or rows n d ≡ get_or rows n e = get_or_default rows n d e (omega arith) in
    let past' = subst (λ (r : BlockRow). a < r.block.first) (sym same) past in
    omega arith

-- ---- what is told where the walk came to

pub swept-none : (rows : List BlockRow) (s : Sweep) → s.at ≡ 0 → s.next ≡ 0 → s.around.items ≡ [] → IsSwept rows s
swept-none rows s at next none =
    record {
      within = omega arith;
      told = λ a from. subst (λ k. IsBest (take k rows) a (open_best s.around.items a)) (sym next) (subst (λ l. IsBest [] a (open_best l a)) (sym none) (λ r listed. absurd (Contains-none r listed)));
      own = subst (All (ComesBefore rows s.next)) (sym none) (λ k d within. absurd (omega arith));
      later = λ k d le within. omega arith;
    }

pub swept-further : (rows : List BlockRow) (old new : Sweep) (at : ℕ) → IsSwept rows old → old.at ≤ at → StartsAfter rows old.next at → HasLeft old.around.items new.around.items at → new.at ≡ at → new.next ≡ old.next → IsSwept rows new
swept-further rows old new at swept from after left is next =
    record {
      within = omega (arith, swept.within);
      told = λ a le.
          subst (λ k. IsBest (take k rows) a (open_best new.around.items a)) (sym next)
          (subst (IsBest (take old.next rows) a) (sym (left.told a (omega arith))) (swept.told a (omega arith)));
      own =
          subst (λ k. All (ComesBefore rows k) new.around.items) (sym next)
          (subst (All (ComesBefore rows old.next)) (sym left.part.1) (All-take (ComesBefore rows old.next) left.part.0 old.around.items swept.own));
      later = λ k d le within. let p = after k d (omega arith) within in omega arith;
    }

pub told-there : (rows : List BlockRow) (old : Sweep) (around : List Open) (at : ℕ) → IsSwept rows old → old.at ≤ at → StartsAfter rows old.next at → HasLeft old.around.items around at → Reaches at around → option_map (λ t. t.row) (top_best around) ≡ told_by rows at
told-there rows old around at swept from after left reach =
    let told = best-rest rows old.next at (open_best old.around.items at) after (swept.told at from) in
    sym (told_by-best rows at (open_best old.around.items at) told ∙ ap (option_map (λ (t : Tells). t.row)) (sym (left.told at (omega arith)) ∙ open_best-top around at reach))

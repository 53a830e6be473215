-- Where blocks begin and have ended, and the pieces between.
use Rattle.std.proofs.Common.{All, Bool, Contains, IsPermutation, List, None, Option, Some, [], ap, arith, false, filter, flat_map, get_or, inl, inr, length, length-append, map, nat_le, nat_lt, option_map, refl, slice_index, subst, suc, sym, take, true, zero, ℕ, ◌&&◌, ◌*◌, ◌++◌, ◌+◌, ◌-◌, ◌<◌, ◌^◌, ◌∙◌, ◌∷◌, ◌≡◌, ◌≤◌, ◌⊎◌}
use Rattle.std.specs.List.Sorted.{IsStrictlyIncreasing}
use Rattle.vpc_base.proofs.Lemmas.{All-contains, All-more, Contains-cases, Contains-filter, Contains-flat_map, Contains-get_or, Contains-here, Contains-later, Contains-none, Contains-permutation, IsPermutation-sym, append-nil, cases_Bool, cases_lt, filter-member, filter_passes, flat_map-append, flat_map-member, get_or-map, get_or_default, le-leb, length-filter-le, length-map, lt-leb, lt-ltb, ltb-true, take_all, take_more}
use Rattle.prefix_text.specs.Block.{Block, IsBlock, holds, last_of}
use Rattle.vpc_model.specs.Cuts.{block_cuts}
use Rattle.piece_table.specs.Pieces.{ArePieces, LiesIn, PieceLists, first_at, first_of, number_at, told_at}
use Rattle.piece_table.proofs.Ascending.{from-le}
use Rattle.piece_table.proofs.PieceLemmas.{lies_in_its_piece}
use Rattle.block_pieces.specs.Terms.{BlockRow, IsBest, IsToldBest, better_of, borders_of, inner_borders, tells, told_by, within_line}
use Rattle.block_pieces.specs.declared.sweep.Tells.{Tells}
use Rattle.block_pieces.proofs.Walking.{best-skip, best-take, told_by-best}

-- ---- the borders

pub length-within_line : (rows : List BlockRow) → length (within_line rows) ≤ 2 * length rows
length-within_line [] = omega arith
length-within_line (r ∷ rows) =
    omega (arith, length-append (inner_borders r.block) (within_line rows), length-filter-le (λ c. nat_lt c (2 ^ 32)) (block_cuts r.block), length-within_line rows)

pub borders-within_line : (rows : List BlockRow) (c : ℕ) → Contains (within_line rows) c → Contains (borders_of rows) c
borders-within_line rows c h =
    let found = flat_map-member (λ (r : BlockRow). inner_borders r.block) rows c h in
    Contains-flat_map (λ (r : BlockRow). block_cuts r.block) rows found.0 c found.1 ((filter-member (λ c. nat_lt c (2 ^ 32)) (block_cuts found.0.block) c found.2).1)

pub within_line-border : (rows : List BlockRow) (r : BlockRow) (c : ℕ) → Contains rows r → Contains (block_cuts r.block) c → c < 2 ^ 32 → Contains (within_line rows) c
within_line-border rows r c listed cut fits =
    Contains-flat_map (λ (r : BlockRow). inner_borders r.block) rows r c listed (Contains-filter (λ c. nat_lt c (2 ^ 32)) (block_cuts r.block) c cut (lt-ltb c (2 ^ 32) fits))

pub within_line-push : (rows : List BlockRow) (i : ℕ) (d : BlockRow) → i < length rows → within_line (take (i + 1) rows) ≡ within_line (take i rows) ++ inner_borders (get_or rows i d).block
within_line-push rows i d within = ap within_line (take_more rows i d within) ∙ (flat_map-append (λ (r : BlockRow). inner_borders r.block) (take i rows) (get_or rows i d ∷ []) ∙ ap (λ l. within_line (take i rows) ++ l) (append-nil (inner_borders (get_or rows i d).block)))

-- ---- addresses between borders

-- a block with no border after x and up to a holds both or neither
holds-between : (b : Block) (x a : ℕ) → x ≤ a → (b.first ≤ x) ⊎ (a < b.first) → (last_of b + 1 ≤ x) ⊎ (a < last_of b + 1) → holds x b ≡ holds a b
holds-between b x a le first last = ap (λ t. t && nat_le x (last_of b)) (at_first first) ∙ ap (λ t. nat_le b.first a && t) (at_last last)
  where
    at_first : (b.first ≤ x) ⊎ (a < b.first) → nat_le b.first x ≡ nat_le b.first a
    at_first (inl before) = le-leb b.first x before ∙ sym (le-leb b.first a (omega arith))
    at_first (inr after) = lt-leb b.first x (omega arith) ∙ sym (lt-leb b.first a after)

    at_last : (last_of b + 1 ≤ x) ⊎ (a < last_of b + 1) → nat_le x (last_of b) ≡ nat_le a (last_of b)
    at_last (inl before) = lt-leb x (last_of b) (omega arith) ∙ sym (lt-leb a (last_of b) (omega arith))
    at_last (inr after) = le-leb x (last_of b) (omega arith) ∙ sym (le-leb a (last_of b) (omega arith))

-- no first lies after that of the piece that holds an address, and up to the address
first-between : (p : PieceLists) (a c : ℕ) → ArePieces p → a < 2 ^ 32 → Contains p.firsts c → (c ≤ first_at p a) ⊎ (a < c)
first-between p a c h fits listed =
    let k : ℕ = number_at p a in
    let lies = lies_in_its_piece p a h fits in
    let j : ℕ = listed.0 in
    let at_j : get_or p.firsts j 0 ≡ c = get_or_default p.firsts j 0 c listed.1 ∙ listed.2 in
    elim (cases_lt k j) [
      | inl after ↦
          let up = from-le p.firsts h.ascending (k + 1) j (omega arith) listed.1 in
          let next = get_or_default p.firsts (k + 1) (2 ^ 32) 0 (omega (arith, listed.1)) in
          let positive = h.ascending k (omega (arith, listed.1)) in
          inr (omega (arith, lies.upto))
      | inr before ↦ let up = from-le p.firsts h.ascending j k before lies.within in inl (omega arith)
    ]

-- ---- what is told

-- the best is known of every address
best_exists : (rows : List BlockRow) (a n : ℕ) → n ≤ length rows → (o : Option Tells) × IsBest (take n rows) a o
best_exists rows a zero le = (None, λ r listed. absurd (Contains-none r listed))
best_exists [] a (suc n) le = (None, λ r listed. absurd (Contains-none r listed))
best_exists (x ∷ xs) a (suc n) le =
    let rows : List BlockRow = x ∷ xs in
    let rest = best_exists rows a n (omega arith) in
    let r : BlockRow = get_or rows n x in
    let more : take (n + 1) rows ≡ take n rows ++ r ∷ [] = take_more rows n x (omega arith) in
    let back : take (suc n) rows ≡ take n rows ++ r ∷ [] = ap (λ k. take k rows) (let e : suc n ≡ n + 1 = omega arith in e) ∙ more in
    elim (cases_Bool (holds a r.block)) [
      | inl here ↦ (Some (better_of rest.0 (tells r)), subst (λ l. IsBest l a (Some (better_of rest.0 (tells r)))) (sym back) (best-take (take n rows) r a rest.0 here rest.1))
      | inr out ↦ (rest.0, subst (λ l. IsBest l a rest.0) (sym back) (best-skip (take n rows) r a rest.0 out rest.1))
    ]

-- what is told comes from a block that is as good as every other
pub told-best : (rows : List BlockRow) (a k : ℕ) → told_by rows a ≡ Some k → IsToldBest rows a k
told-best rows a k told =
    let found = best_exists rows a (length rows) (omega arith) in
    let is = subst (λ l. IsBest l a found.0) (take_all (length rows) rows (omega arith)) found.1 in
    by found.0 is (told_by-best rows a found.0 is)
  where
    by : (o : Option Tells) → IsBest rows a o → told_by rows a ≡ option_map (λ t. t.row) o → IsToldBest rows a k
    by None is e = cc
    by (Some t) is e =
        let same : t.row ≡ k = (let f = sym e ∙ told in cc) in
        record { row = is.row; listed = is.listed; here = is.here; number = ap (λ (t : Tells). t.row) is.told ∙ same; best = is.best }

-- and nothing is told only where none holds the address
pub told-nothing : (rows : List BlockRow) (a : ℕ) → told_by rows a ≡ None → (r : BlockRow) → Contains rows r → holds a r.block ≡ false
told-nothing rows a untold =
    let found = best_exists rows a (length rows) (omega arith) in
    let is = subst (λ l. IsBest l a found.0) (take_all (length rows) rows (omega arith)) found.1 in
    by found.0 is (told_by-best rows a found.0 is)
  where
    by : (o : Option Tells) → IsBest rows a o → told_by rows a ≡ option_map (λ t. t.row) o → (r : BlockRow) → Contains rows r → holds a r.block ≡ false
    by None is e = is
    by (Some t) is e = cc

-- the same rows in another order tell the same of an address that the same blocks hold
best-same : (rows others : List BlockRow) (a b : ℕ) (o : Option Tells) → ((r : BlockRow) → Contains rows r → Contains others r) → ((r : BlockRow) → Contains others r → Contains rows r)
    → ((r : BlockRow) → Contains rows r → holds a r.block ≡ holds b r.block) → IsBest rows a o → IsBest others b o
best-same rows others a b None down up same none = λ r listed. sym (same r (up r listed)) ∙ none r (up r listed)
best-same rows others a b (Some t) down up same is =
    record {
      row = is.row;
      listed = down is.row is.listed;
      here = sym (same is.row is.listed) ∙ is.here;
      told = is.told;
      best = λ r listed here. is.best r (up r listed) (same r (up r listed) ∙ here);
    }

told_by-same : (rows others : List BlockRow) (a b : ℕ) → ((r : BlockRow) → Contains rows r → Contains others r) → ((r : BlockRow) → Contains others r → Contains rows r)
    → ((r : BlockRow) → Contains rows r → holds a r.block ≡ holds b r.block) → told_by rows a ≡ told_by others b
told_by-same rows others a b down up same =
    let found = best_exists rows a (length rows) (omega arith) in
    let is = subst (λ l. IsBest l a found.0) (take_all (length rows) rows (omega arith)) found.1 in
    told_by-best rows a found.0 is ∙ sym (told_by-best others b found.0 (best-same rows others a b found.0 down up same is))

-- pieces that begin at the borders, and tell of their first addresses, tell of all
pub told_at-borders : (rows sorted : List BlockRow) (p : PieceLists) (a : ℕ) → ArePieces p → All (λ r. IsBlock r.block) rows → IsPermutation rows sorted → p.told ≡ map (told_by sorted) p.firsts
    → ((c : ℕ) → Contains (within_line rows) c → Contains p.firsts c) → a < 2 ^ 32 → told_at p a ≡ told_by rows a
told_at-borders rows sorted p a h blocks moved told firsts fits =
    let k : ℕ = number_at p a in
    let lies = lies_in_its_piece p a h fits in
    let at_first : told_at p a ≡ told_by sorted (first_at p a) = ap (λ l. get_or l k None) told ∙ get_or-map (told_by sorted) p.firsts k 0 None lies.within in
    let between = λ (r : BlockRow) (listed : Contains rows r).
    let is = All-contains (λ (r : BlockRow). IsBlock r.block) rows r blocks listed in
    let border = λ (c : ℕ) (cut : Contains (block_cuts r.block) c). elim (cases_lt c (2 ^ 32)) as (λ x. (c ≤ first_at p a) ⊎ (a < c)) [ inl small ↦ first-between p a c h fits (firsts c (within_line-border rows r c listed cut small)) | inr large ↦ inr (omega arith) ] in
    sym (holds-between r.block (first_at p a) a lies.from (border r.block.first (Contains-here r.block.first ((last_of r.block + 1) ∷ []))) (border (last_of r.block + 1) (Contains-later r.block.first ((last_of r.block + 1) ∷ []) (last_of r.block + 1) (Contains-here (last_of r.block + 1) [])))) in
    at_first ∙ sym (told_by-same rows sorted a (first_at p a) (λ r listed. Contains-permutation rows sorted r moved listed) (λ r listed. Contains-permutation sorted rows r (IsPermutation-sym rows sorted moved) listed) between)

-- ---- the lists of the pieces

within_line-fits : (rows : List BlockRow) (c : ℕ) → Contains (within_line rows) c → c < 2 ^ 32
within_line-fits rows c h =
    let found = flat_map-member (λ (r : BlockRow). inner_borders r.block) rows c h in
    ltb-true c (2 ^ 32) (All-contains (λ c. nat_lt c (2 ^ 32) ≡ true) (inner_borders found.0.block) c (filter_passes (λ c. nat_lt c (2 ^ 32)) (block_cuts found.0.block)) found.2)

-- numbers that rise and have 0 among them begin with it
pub first-zero : (xs : List ℕ) → IsStrictlyIncreasing xs → Contains xs 0 → (0 < length xs) × (slice_index xs 0 ≡ 0)
first-zero xs up listed =
    let le = from-le xs up 0 listed.0 (omega arith) listed.1 in
    let at = get_or_default xs listed.0 0 0 listed.1 in
    (omega (arith, listed.1), omega (arith, le, listed.2))

-- the borders, 0 and no others, in order, with what is told of each
pub record AreBorderPieces (rows sorted : List BlockRow) (firsts : List ℕ) (told : List (Option ℕ)) : Type 0 where
  pub order : IsStrictlyIncreasing firsts
  pub all : (c : ℕ) → Contains (0 ∷ within_line rows) c → Contains firsts c
  pub others : (c : ℕ) → Contains firsts c → Contains (0 ∷ within_line rows) c
  pub tell : told ≡ map (told_by sorted) firsts

pub border_pieces : (rows sorted : List BlockRow) (firsts : List ℕ) (told : List (Option ℕ)) → AreBorderPieces rows sorted firsts told → ArePieces (record { firsts = firsts; told = told })
border_pieces rows sorted firsts told h =
    let zero = first-zero firsts h.order (h.all 0 (Contains-here 0 (within_line rows))) in
    record {
      paired = ap length h.tell ∙ length-map firsts (told_by sorted);
      some = zero.0;
      zero = zero.1;
      ascending = h.order;
      fit = λ k d within. elim (Contains-cases 0 (get_or firsts k d) (within_line rows) (h.others (get_or firsts k d) (Contains-get_or firsts k d within))) [
        | inl is ↦ omega arith
        | inr later ↦ within_line-fits rows (get_or firsts k d) later
      ];
    }

pub told_at-border_pieces : (rows sorted : List BlockRow) (firsts : List ℕ) (told : List (Option ℕ)) (a : ℕ) → AreBorderPieces rows sorted firsts told → All (λ r. IsBlock r.block) rows → IsPermutation rows sorted → a < 2 ^ 32
    → told_at (record { firsts = firsts; told = told }) a ≡ told_by rows a
told_at-border_pieces rows sorted firsts told a h blocks moved fits =
    told_at-borders rows sorted (record { firsts = firsts; told = told }) a (border_pieces rows sorted firsts told h) blocks moved h.tell (λ c border. h.all c (Contains-later 0 (within_line rows) c border)) fits

pub first-border : (rows : List BlockRow) (firsts : List ℕ) (f : ℕ) → ((c : ℕ) → Contains firsts c → Contains (0 ∷ within_line rows) c) → Contains firsts f → (f ≡ 0) ⊎ Contains (borders_of rows) f
first-border rows firsts f others listed =
    elim (Contains-cases 0 f (within_line rows) (others f listed)) [ inl is ↦ inl (sym is) | inr later ↦ inr (borders-within_line rows f later) ]

-- ---- the borders, row by row

pub borders-step : (rows : List BlockRow) (i : ℕ) (row : BlockRow) (old new : List ℕ) → i < length rows → row ≡ get_or rows i row → old ≡ 0 ∷ within_line (take i rows) → new ≡ old ++ inner_borders row.block → new ≡ 0 ∷ within_line (take (i + 1) rows)
borders-step rows i row old new within is so_far added =
    added ∙ (ap (λ l. l ++ inner_borders row.block) so_far ∙ ap (λ l. 0 ∷ l) (ap (λ (r : BlockRow). within_line (take i rows) ++ inner_borders r.block) is ∙ sym (within_line-push rows i row within)))

pub blocks-step : (rows : List BlockRow) (i : ℕ) (row : BlockRow) → i < length rows → row ≡ get_or rows i row → All (λ r. IsBlock r.block) (take i rows) → IsBlock row.block → All (λ r. IsBlock r.block) (take (i + 1) rows)
blocks-step rows i row within is all one = All-more (λ (r : BlockRow). IsBlock r.block) rows i row within all (subst (λ (r : BlockRow). IsBlock r.block) is one)

pub blocks-all : (rows : List BlockRow) (i : ℕ) → length rows ≤ i → All (λ r. IsBlock r.block) (take i rows) → All (λ r. IsBlock r.block) rows
blocks-all rows i past all = subst (All (λ (r : BlockRow). IsBlock r.block)) (take_all i rows past) all

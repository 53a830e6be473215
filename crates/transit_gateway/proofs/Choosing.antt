-- The blocks of routes tell the route that the table chooses.
use Rattle.std.proofs.Common.{◌≡◌, ℕ, ◌≤◌, ◌<◌, ◌+◌, ◌-◌, ◌*◌, ◌⊎◌, Bool, List, None, Option, Some, [], ◌∷◌, ◌++◌, ap, arith, false, if◌then◌else◌, inl, inr, length, refl, subst, suc, sym, true, zero, ◌∙◌}
use Rattle.std.specs.List.{All, Contains, slice_get}
use Rattle.std.proofs.lemmas.Bool.{cond_both}
use Rattle.std.proofs.lemmas.List.Elements.{All-contains}
use Rattle.std.proofs.lemmas.Option.{get_or_from_slice_get, slice_get_within}
use Rattle.vpc_base.proofs.Members.{Contains-cases, Contains-here, Contains-later, Contains-none}
use Rattle.prefix_text.specs.Block.{IsBlock, holds}
use Rattle.vpc_laws.specs.Choice.{Chooses, TgwRouteYields}
use Rattle.vpc_laws.specs.Types.{TgwRoute}
use Rattle.vpc_laws.proofs.Rows.{tgw_routes_are_chosen}
use Rattle.vpc_model.specs.Cuts.{all_cuts, block_cuts, cuts_of_tgw_route}
use Rattle.vpc_model.specs.Transit.{chosen_tgw_route}
use Rattle.block_pieces.specs.declared.rows.BlockRow.{BlockRow}
use Rattle.block_pieces.specs.Laws.{IsAsGood}
use Rattle.block_pieces.specs.Told.{borders_of, told_by}
use Rattle.block_pieces.proofs.ToldLemmas.{best_is_told, none_is_told}
use Rattle.transit_gateway.specs.Rows.{row_of, rows_of}

-- ---- the rows of routes

pub length-rows_of : (number : ℕ) (routes : List TgwRoute) → length (rows_of number routes) ≡ length routes
length-rows_of number [] = refl
length-rows_of number (r ∷ rs) = let rest = length-rows_of (number + 1) rs in omega arith

rows_of-member : (number : ℕ) (routes : List TgwRoute) (y : BlockRow) → Contains (rows_of number routes) y → (j : ℕ) × (r : TgwRoute) × (slice_get routes j ≡ Some r) × (row_of (number + j) r ≡ y)
rows_of-member number [] y h = absurd (Contains-none y h)
rows_of-member number (r ∷ rs) y h =
    elim (Contains-cases (row_of number r) y (rows_of (number + 1) rs) h) [
      | inl here ↦ (0, r, refl, ap (λ n. row_of n r) (let e : number + 0 ≡ number = omega arith in e) ∙ here)
      | inr later ↦
          let rest = rows_of-member (number + 1) rs y later in
          (suc rest.0, rest.1, rest.2, ap (λ n. row_of n rest.1) (let e : number + suc rest.0 ≡ number + 1 + rest.0 = omega arith in e) ∙ rest.3)
    ]

rows_of-listed : (number : ℕ) (routes : List TgwRoute) (j : ℕ) (r : TgwRoute) → slice_get routes j ≡ Some r → Contains (rows_of number routes) (row_of (number + j) r)
rows_of-listed number [] j r at = cc
rows_of-listed number (x ∷ rs) zero r at =
    let same : x ≡ r = cc in
    let zero_more : number ≡ number + 0 = omega arith in
    subst (λ n. Contains (row_of number x ∷ rows_of (number + 1) rs) (row_of n r)) zero_more
    (subst (λ z. Contains (row_of number x ∷ rows_of (number + 1) rs) (row_of number z)) same (Contains-here (row_of number x) (rows_of (number + 1) rs)))
rows_of-listed number (x ∷ rs) (suc j) r at =
    let one_more : number + 1 + j ≡ number + suc j = omega arith in
    subst (λ n. Contains (row_of number x ∷ rows_of (number + 1) rs) (row_of n r)) one_more
    (Contains-later (row_of number x) (rows_of (number + 1) rs) (row_of (number + 1 + j) r) (rows_of-listed (number + 1) rs j r at))

-- they begin and have ended where the routes' blocks cut
pub borders-rows_of : (number : ℕ) (routes : List TgwRoute) → borders_of (rows_of number routes) ≡ (all_cuts cuts_of_tgw_route routes).addr
borders-rows_of number [] = refl
borders-rows_of number (r ∷ rs) = ap (λ l. block_cuts r.block ++ l) (borders-rows_of (number + 1) rs)

-- ---- the route that is chosen

few : (b : Bool) → (if b then 1 else 0) < 2
few b = cond_both b 1 0 (λ n. n < 2) (λ _. omega arith) (λ _. omega arith)

worse-rank : (m n p q : ℕ) → m ≤ 32 → p < 2 → n < m → (32 - m) * 2 + p < (32 - n) * 2 + q
worse-rank m n p q short few less = omega arith

-- a static route comes before a propagated one
static-first : (m n : ℕ) (p q : Bool) → n ≡ m → p ≡ false → q ≡ true → (32 - m) * 2 + (if p then 1 else 0) < (32 - n) * 2 + (if q then 1 else 0)
static-first m n true q same static propagated = absurd cc
static-first m n false true same static propagated = omega arith
static-first m n false false same static propagated = absurd cc

-- the block of the chosen route is as good as that of one that yields to it
good-row : (k j : ℕ) (x s : TgwRoute) → x.block.length ≤ 32 → ((j ≡ k) × (s ≡ x)) ⊎ TgwRouteYields j s k x → IsAsGood (row_of k x) (row_of j s)
good-row k j x s short (inl same) =
    inr (sym (ap (λ (r : TgwRoute). (32 - r.block.length) * 2 + (if r.propagated then 1 else 0)) same.1), omega (arith, same.0))
good-row k j x s short (inr (inl shorter)) = inl (worse-rank x.block.length s.block.length (if x.propagated then 1 else 0) (if s.propagated then 1 else 0) short (few x.propagated) shorter)
good-row k j x s short (inr (inr tied)) =
    elim tied.1 [
      | inl static ↦ inl (static-first x.block.length s.block.length x.propagated s.propagated tied.0 static.0 static.1)
      | inr later ↦
          inr
          (sym (ap (λ n. (32 - n) * 2 + (if s.propagated then 1 else 0)) tied.0 ∙ ap (λ b. (32 - x.block.length) * 2 + (if b then 1 else 0)) later.0), omega (arith, later.1))
    ]

member-at : (routes : List TgwRoute) (j : ℕ) (r : TgwRoute) → slice_get routes j ≡ Some r → Contains routes r
member-at routes j r at = (j, slice_get_within routes j r at, get_or_from_slice_get routes j r r at)

pub told_by-rows_of : (routes : List TgwRoute) (a : ℕ) → All (λ r. IsBlock r.block) routes → told_by (rows_of 0 routes) a ≡ chosen_tgw_route routes a
told_by-rows_of routes a blocks = by (chosen_tgw_route routes a) refl (tgw_routes_are_chosen routes a)
  where
    by : (o : Option ℕ) → chosen_tgw_route routes a ≡ o → Chooses (λ r. holds a r.block) TgwRouteYields routes o → told_by (rows_of 0 routes) a ≡ chosen_tgw_route routes a
    by None none chooses =
        none_is_told (rows_of 0 routes) a
        (λ y listed.
        let of = rows_of-member 0 routes y listed in
        subst (λ (z : BlockRow). holds a z.block ≡ false) of.3 (chooses of.0 of.1 of.2))
        ∙ sym none
    by (Some k) some chooses =
        let x : TgwRoute = chooses.0 in
        let zero : 0 + k ≡ k = omega arith in
        let is = All-contains (λ (r : TgwRoute). IsBlock r.block) routes x blocks (member-at routes k x chooses.1) in
        best_is_told (rows_of 0 routes) a (row_of k x) (subst (λ n. Contains (rows_of 0 routes) (row_of n x)) zero (rows_of-listed 0 routes k x chooses.1)) chooses.2
        (λ y listed here.
        let of = rows_of-member 0 routes y listed in
        let j : ℕ = of.0 in
        let s : TgwRoute = of.1 in
        let from : row_of j s ≡ y = ap (λ n. row_of n s) (let e : j ≡ 0 + j = omega arith in e) ∙ of.3 in
        let held : holds a s.block ≡ true = ap (λ (z : BlockRow). holds a z.block) from ∙ here in
        subst (IsAsGood (row_of k x)) from
        (good-row k j x s is.short
        (elim (chooses.3 j s of.2 held) [ inl same ↦ inl (same, (let e = sym of.2 ∙ (ap (slice_get routes) same ∙ chooses.1) in cc)) | inr yields ↦ inr yields ])))
        ∙ sym some

-- Where blocks turn, one of them begins or has ended.
use Rattle.std.proofs.Common.{◌≡◌, ◌∙◌, ◌&&◌, ◌+◌, ◌≤◌, ◌||◌, ◌∷◌, [], ℕ, Bool, Contains, List, ap, arith, false, inl, inr, not, refl, subst, sym, true}
use Rattle.std.specs.List.{flat_map, list_any}
use Rattle.std.specs.Prelude.{nat_le}
use Rattle.std.proofs.lemmas.Bool.{cases_Bool}
use Rattle.std.proofs.lemmas.Bool.Decides.{nat_tests}
use Rattle.std.proofs.lemmas.List.Elements.{Contains-append_left, Contains-append_right}
use Rattle.vpc_base.specs.Cuts.{CutLists}
use Rattle.vpc_base.proofs.Members.{Contains-filter}
use Rattle.prefix_text.specs.Block.{Block, holds, last_of}
use Rattle.vpc_model.specs.Cuts.{block_cuts}
use Rattle.cut_laws.specs.Dividing.{Divide, DivideTurns}

-- a range that has a + 1 and not a begins there
begin-here : (lo hi a : ℕ) → (nat_le lo (a + 1) && nat_le (a + 1) hi) ≡ true → (nat_le lo a && nat_le a hi) ≡ false → lo ≡ a + 1
begin-here lo hi a has lacks = grind (arith, nat_tests)

-- and one that has a and not a + 1 ends there
end-here : (lo hi a : ℕ) → (nat_le lo a && nat_le a hi) ≡ true → (nat_le lo (a + 1) && nat_le (a + 1) hi) ≡ false → hi + 1 ≡ a + 1
end-here lo hi a has lacks = grind (arith, nat_tests)

later : (b : Block) (bs : List Block) (c : ℕ) → Contains (flat_map block_cuts bs) c → Contains (flat_map block_cuts (b ∷ bs)) c
later b bs c has = Contains-append_right (block_cuts b) (flat_map block_cuts bs) c has

begins : (a : ℕ) (bs : List Block) → list_any (holds (a + 1)) bs ≡ true → list_any (holds a) bs ≡ false → Contains (flat_map block_cuts bs) (a + 1)
begins a [] has lacks = absurd (cc)
begins a (b ∷ bs) has lacks = by (holds (a + 1) b) (holds a b) refl refl (begins a bs)
  where
    by : (v w : Bool) → holds (a + 1) b ≡ v → holds a b ≡ w → (list_any (holds (a + 1)) bs ≡ true → list_any (holds a) bs ≡ false → Contains (flat_map block_cuts bs) (a + 1))
        → Contains (flat_map block_cuts (b ∷ bs)) (a + 1)
    by true true e f rest = absurd (let g : (holds a b || list_any (holds a) bs) ≡ true = ap (λ z. z || list_any (holds a) bs) f in let h : true ≡ false = sym g ∙ lacks in cc)
    by true false e f rest = Contains-append_left (block_cuts b) (flat_map block_cuts bs) (a + 1) (0, omega arith, begin-here b.first (last_of b) a e f)
    by false true e f rest = absurd (let g : (holds a b || list_any (holds a) bs) ≡ true = ap (λ z. z || list_any (holds a) bs) f in let h : true ≡ false = sym g ∙ lacks in cc)
    by false false e f rest =
        later b bs (a + 1) (rest (sym (ap (λ z. z || list_any (holds (a + 1)) bs) e) ∙ has) (sym (ap (λ z. z || list_any (holds a) bs) f) ∙ lacks))

ends : (a : ℕ) (bs : List Block) → list_any (holds a) bs ≡ true → list_any (holds (a + 1)) bs ≡ false → Contains (flat_map block_cuts bs) (a + 1)
ends a [] has lacks = absurd (cc)
ends a (b ∷ bs) has lacks = by (holds a b) (holds (a + 1) b) refl refl (ends a bs)
  where
    by : (v w : Bool) → holds a b ≡ v → holds (a + 1) b ≡ w → (list_any (holds a) bs ≡ true → list_any (holds (a + 1)) bs ≡ false → Contains (flat_map block_cuts bs) (a + 1))
        → Contains (flat_map block_cuts (b ∷ bs)) (a + 1)
    by true true e f rest = absurd (let g : (holds (a + 1) b || list_any (holds (a + 1)) bs) ≡ true = ap (λ z. z || list_any (holds (a + 1)) bs) f in let h : true ≡ false = sym g ∙ lacks in cc)
    by true false e f rest = Contains-append_left (block_cuts b) (flat_map block_cuts bs) (a + 1) (1, omega arith, end-here b.first (last_of b) a e f)
    by false true e f rest = absurd (let g : (holds (a + 1) b || list_any (holds (a + 1)) bs) ≡ true = ap (λ z. z || list_any (holds (a + 1)) bs) f in let h : true ≡ false = sym g ∙ lacks in cc)
    by false false e f rest =
        later b bs (a + 1) (rest (sym (ap (λ z. z || list_any (holds a) bs) e) ∙ has) (sym (ap (λ z. z || list_any (holds (a + 1)) bs) f) ∙ lacks))

pub block-turns : (blocks : List Block) (a : ℕ) → list_any (holds (a + 1)) blocks ≡ not (list_any (holds a) blocks) → Contains (flat_map block_cuts blocks) (a + 1)
block-turns blocks a turn = elim (cases_Bool (list_any (holds a) blocks)) [
  | inl has ↦ ends a blocks has (turn ∙ ap not has)
  | inr lacks ↦ begins a blocks (turn ∙ ap not lacks) lacks
]

-- cuts that have those of blocks divide where the blocks turn
pub blocks-divide : (blocks : List Block) (few cuts : CutLists) → few.addr ≡ flat_map block_cuts blocks → Divide few cuts → DivideTurns (λ a. list_any (holds a) blocks) cuts
blocks-divide blocks few cuts is divide a fits turn =
    divide.addr (a + 1)
    (Contains-filter (λ x. nat_le x 4294967295) few.addr (a + 1) (subst (λ cs. Contains cs (a + 1)) (sym is) (block-turns blocks a turn)) (within (a + 1) (omega arith)))
  where
    within : (x : ℕ) → x ≤ 4294967295 → nat_le x 4294967295 ≡ true
    within x le = grind (arith, nat_tests)

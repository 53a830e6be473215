-- Cuts that are added one after another.
use Rattle.std.proofs.Common.{◌≡◌, ◌+◌, ◌<◌, ◌≤◌, ℕ, List, [], ◌∷◌, ◌++◌, Option, Some, None, refl, ap, append_assoc, arith, length, drop, filter, map, Bool, get_or, sym, ◌∙◌, add-one, drop-cons}
use Rattle.std.specs.List.{flat_map}
use Rattle.std.proofs.lemmas.Grind.{flat_map-append}
use Rattle.std.proofs.lemmas.List.{append-nil, drop_all, map-append}
use Rattle.std.proofs.lemmas.List.Elements.{filter-append}
use Rattle.vpc_base.specs.Cuts.{CutLists, joined_cuts, no_cuts}
use Rattle.prefix_text.specs.Block.{Block}
use Rattle.vpc_model.specs.Cuts.{all_cuts, block_cuts, cuts_of_blocks, cuts_of_rule, edges, on_sides, pair_cuts, proto_cuts, shifted_edges}
use Rattle.cut_points.specs.Gathered.{cuts_of_block, cuts_of_pair, gathered_with}

-- what is added in two steps is added in one
pub gathered_with-more : (g a b : CutLists) → gathered_with (gathered_with g a) b ≡ gathered_with g (joined_cuts a b)
unfolding gathered_with
gathered_with-more g a b = simp (filter-append, append_assoc)

-- nothing is added
pub gathered_with-none : (g : CutLists) → gathered_with g no_cuts ≡ g
unfolding gathered_with
gathered_with-none g = simp append-nil

-- the cuts of blocks one by one
pub all_cuts-blocks : (bs : List Block) → all_cuts cuts_of_block bs ≡ cuts_of_blocks (flat_map block_cuts bs)
all_cuts-blocks [] = refl
all_cuts-blocks (b ∷ bs) = ap (joined_cuts (cuts_of_block b)) (all_cuts-blocks bs)

-- the addresses of an interface one by one
pub all_cuts-pairs : (xs : List (ℕ × Option ℕ)) → all_cuts cuts_of_pair xs ≡ cuts_of_blocks (flat_map pair_cuts xs)
all_cuts-pairs [] = refl
all_cuts-pairs (x ∷ xs) = ap (joined_cuts (cuts_of_pair x)) (all_cuts-pairs xs)

-- blocks and addresses that are added one by one
pub gathered_with-blocks : (g : CutLists) (bs : List Block) → gathered_with g (all_cuts cuts_of_block bs) ≡ gathered_with g (cuts_of_blocks (flat_map block_cuts bs))
gathered_with-blocks g bs = ap (gathered_with g) (all_cuts-blocks bs)

pub gathered_with-pairs : (g : CutLists) (xs : List (ℕ × Option ℕ)) → gathered_with g (all_cuts cuts_of_pair xs) ≡ gathered_with g (cuts_of_blocks (flat_map pair_cuts xs))
gathered_with-pairs g xs = ap (gathered_with g) (all_cuts-pairs xs)

-- the rows of two lists
all_cuts-append : {X : Type 0} (f : X → CutLists) (xs ys : List X) → all_cuts f (xs ++ ys) ≡ joined_cuts (all_cuts f xs) (all_cuts f ys)
all_cuts-append f [] ys = refl
all_cuts-append f (x ∷ xs) ys = rw (all_cuts-append f xs ys) (simp append_assoc)

pub gathered_with-append : {X : Type 0} (f : X → CutLists) (g : CutLists) (xs ys : List X) → gathered_with (gathered_with g (all_cuts f xs)) (all_cuts f ys) ≡ gathered_with g (all_cuts f (xs ++ ys))
gathered_with-append f g xs ys = gathered_with-more g (all_cuts f xs) (all_cuts f ys) ∙ ap (gathered_with g) (sym (all_cuts-append f xs ys))

-- the addresses of an interface, and then its blocks
pub gathered_with-interface : (g : CutLists) (own blocks : List ℕ) → gathered_with (gathered_with g (cuts_of_blocks own)) (cuts_of_blocks blocks) ≡ gathered_with g (cuts_of_blocks (own ++ blocks))
gathered_with-interface g own blocks = gathered_with-more g (cuts_of_blocks own) (cuts_of_blocks blocks)

-- the blocks of a peering's sides
pub gathered_with-sides : (g : CutLists) (one other : List Block)
    → gathered_with (gathered_with g (cuts_of_blocks (flat_map block_cuts one))) (cuts_of_blocks (flat_map block_cuts other)) ≡ gathered_with g (cuts_of_blocks (flat_map block_cuts (one ++ other)))
gathered_with-sides g one other =
    gathered_with-interface g (flat_map block_cuts one) (flat_map block_cuts other) ∙ ap (λ own. gathered_with g (cuts_of_blocks own)) (sym (flat_map-append block_cuts one other))

-- the blocks of a rule, and then its protocol and range
pub gathered_with-rule : (g : CutLists) (addr : List ℕ) (proto : Option ℕ) (from to : ℕ) → gathered_with (gathered_with g (cuts_of_blocks addr)) (cuts_of_rule proto from to []) ≡ gathered_with g (record { proto = proto_cuts proto; addr = addr; p = shifted_edges (edges from to); q = edges from to })
gathered_with-rule g addr proto from to = gathered_with-more g (cuts_of_blocks addr) (cuts_of_rule proto from to []) ∙ rw append-nil

-- the rows of a list one by one: the first, and then the others
pub gathered_with-row : {X : Type 0} (f : X → CutLists) (g : CutLists) (xs : List X) (i : ℕ) (d : X) → i < length xs → gathered_with (gathered_with g (f (get_or xs i d))) (all_cuts f (drop (i + 1) xs)) ≡ gathered_with g (all_cuts f (drop i xs))
gathered_with-row f g xs i d below =
    gathered_with-more g (f (get_or xs i d)) (all_cuts f (drop (i + 1) xs))
    ∙ rw (add-one, drop-cons xs i d) refl

pub gathered_with-step : {X : Type 0} (f : X → CutLists) (old new all : CutLists) (xs : List X) (i : ℕ) (x : X) → i < length xs → new ≡ gathered_with old (f x) → x ≡ get_or xs i x → gathered_with old (all_cuts f (drop i xs)) ≡ all → gathered_with new (all_cuts f (drop (i + 1) xs)) ≡ all
gathered_with-step f old new all xs i x below added is known =
    let rest : CutLists = all_cuts f (drop (i + 1) xs) in
    ap (λ (n : CutLists). gathered_with n rest) added
    ∙ ap (λ y. gathered_with (gathered_with old (f y)) rest) is
    ∙ gathered_with-row f old xs i x below
    ∙ known

pub gathered_with-last : {X : Type 0} (f : X → CutLists) (old all : CutLists) (xs : List X) (i : ℕ) → length xs ≤ i → gathered_with old (all_cuts f (drop i xs)) ≡ all → old ≡ all
gathered_with-last f old all xs i past known =
    sym (gathered_with-none old) ∙ ap (λ rest. gathered_with old (all_cuts f rest)) (sym (drop_all i xs past)) ∙ known

-- from nothing
pub gathered_with-first : (a b : CutLists) → gathered_with (gathered_with no_cuts a) b ≡ on_sides (joined_cuts a b)
unfolding gathered_with
gathered_with-first a b = simp filter-append

-- two ranges, and then their shifted edges
pub two_ranges : (p : ℕ → Bool) (f : ℕ → ℕ) (q : ℕ → Bool) (old a b : List ℕ) → old ++ filter p (a ++ b) ++ filter p (map f (filter q a)) ++ filter p (map f (filter q b)) ≡ old ++ filter p (a ++ b ++ map f (filter q (a ++ b)))
two_ranges p f q old a b = simp (filter-append, map-append, append_assoc)

pub ruleset untouched_sides = append-nil

pub ruleset sides = (gathered_with-sides, gathered_with-none)

pub ruleset additions = (gathered_with-more, gathered_with-none)

pub ruleset rows = (gathered_with-append, gathered_with-blocks, gathered_with-pairs, gathered_with-rule, gathered_with-interface, gathered_with-first)

-- Blocks, each once.
use Rattle.std.proofs.Common.{◌≡◌, ◌∙◌, ◌++◌, ◌∷◌, ◌&&◌, ◌==◌, ◌<◌, ◌+◌, ℕ, suc, not, refl, ap, get_or, drop, drop-cons, add-one, length, Bool, true, false, List, [], arith, map, sym}
use Rattle.std.specs.List.{list_any}
use Rattle.std.proofs.lemmas.Bool.Decides.{nat_tests}
use Rattle.vpc_base.proofs.Tests.{list_any-map}
use Rattle.prefix_text.specs.Block.{Block}
use Rattle.json_fields.proofs.KeptLemmas.{unseen, unseen-none, kept-new, dropped-seen}
use Rattle.read_network.specs.Vpcs.{each_once, same_block}

abbrev pub itself : Block → Block
itself b = b

-- blocks that the test takes for one are one
pub same_block-tells : (a b : Block) → same_block a b ≡ true → a ≡ b
same_block-tells a b e = grind (arith, nat_tests)

pub kept-new_block : (seen kept : List Block) (b : Block) (others : List Block) → list_any (same_block b) seen ≡ false
    → kept ++ unseen same_block itself seen (each_once (b ∷ others)) ≡ (kept ++ b ∷ []) ++ unseen same_block itself (seen ++ b ∷ []) (each_once others)
kept-new_block seen kept b others new = kept-new same_block itself seen kept b others new

pub dropped-seen_block : (seen : List Block) (b : Block) (others : List Block) → list_any (same_block b) seen ≡ true
    → unseen same_block itself seen (each_once (b ∷ others)) ≡ unseen same_block itself seen (each_once others)
dropped-seen_block seen b others known = dropped-seen same_block same_block-tells itself seen b others known

-- the next block, and those after it
next_block : (blocks : List Block) (i : ℕ) (b : Block) → i < length blocks → b ≡ get_or blocks i b → drop i blocks ≡ b ∷ drop (suc i) blocks
next_block blocks i b within at = drop-cons blocks i b within ∙ ap (λ x. x ∷ drop (suc i) blocks) (sym at)

-- one more block, which is new
pub each_once-new : (blocks : List Block) (i : ℕ) (b : Block) (seen kept : List Block) → i < length blocks → b ≡ get_or blocks i b
    → list_any (same_block b) seen ≡ false
    → (kept ++ b ∷ []) ++ unseen same_block itself (seen ++ b ∷ []) (each_once (drop (i + 1) blocks)) ≡ kept ++ unseen same_block itself seen (each_once (drop i blocks))
each_once-new blocks i b seen kept within at new =
    rw (add-one, next_block blocks i b within at) (sym (kept-new_block seen kept b (drop (suc i) blocks) new))

-- one more block, which was seen
pub each_once-seen : (blocks : List Block) (i : ℕ) (b : Block) (seen kept : List Block) → i < length blocks → b ≡ get_or blocks i b
    → list_any (same_block b) seen ≡ true
    → kept ++ unseen same_block itself seen (each_once (drop (i + 1) blocks)) ≡ kept ++ unseen same_block itself seen (each_once (drop i blocks))
each_once-seen blocks i b seen kept within at known =
    rw (add-one, next_block blocks i b within at) (ap (λ rest. kept ++ rest) (sym (dropped-seen_block seen b (drop (suc i) blocks) known)))

-- a test whose contrary is known
pub not-false : (b : Bool) → false ≡ not b → b ≡ true
not-false true e = refl
not-false false e = e

pub not-true : (b : Bool) → true ≡ not b → b ≡ false
not-true true e = e
not-true false e = refl

-- the block is among those that are kept by their numbers
pub list_any-same_block : (first length : ℕ) (b : Block) (keys : List (ℕ × ℕ)) → first ≡ b.first → length ≡ b.length
    → list_any (λ k. (first == k.0) && (length == k.1)) keys ≡ list_any (same_block b) (map (λ k. record { first = k.0; length = k.1 }) keys)
list_any-same_block first length b keys at_first at_length = rw (at_first, at_length) (sym (list_any-map (same_block b) (λ k. record { first = k.0; length = k.1 }) keys))

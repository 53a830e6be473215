-- The addresses of blocks.
use Rattle.std.proofs.Common.{◌≡◌, ◌∙◌, ℕ, Err, IfOk, List, Ok, Result, ap, map}
use Rattle.std.specs.List.{list_any}
use Rattle.vpc_base.proofs.Tests.{list_any-map}
use Rattle.prefix_text.specs.Block.{Block, holds}
use Rattle.address_sets.specs.declared.sets.Run.{Run}
use Rattle.address_sets.specs.Runs.{is_in, is_of, run_of}

-- a set of the runs of blocks has their addresses
pub has-blocks : {E : Type 0} (r : Result (List Run) E) (runs : List Run) (blocks : List Block) → runs ≡ map run_of blocks
    → IfOk r (λ s. (a : ℕ) → is_in a s ≡ is_in a runs) → IfOk r (λ s. (a : ℕ) → is_in a s ≡ list_any (holds a) blocks)
has-blocks (Ok set) runs blocks is has = λ a. has a ∙ ap (is_in a) is ∙ list_any-map (is_of a) run_of blocks
has-blocks (Err e) runs blocks is has = has

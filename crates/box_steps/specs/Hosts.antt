-- Which interfaces have the addresses of headers.
use Rattle.std.specs.Prelude.{All, List, Option, ℕ}
use Rattle.vpc_base.specs.Cuts.{CutLists}
use Rattle.vpc_base.specs.declared.headers.Dir.{Dir}
use Rattle.vpc_base.specs.declared.headers.Dir.TheVariants as dirs
use Rattle.vpc_base.specs.declared.headers.Header.{Header}
use Rattle.cut_laws.specs.Dividing.{Divide}
use Rattle.image_tests.specs.Tests.{cuts_of_block}
use Rattle.prefix_text.specs.Block.{Block}
use Rattle.vpc_model.specs.Cuts.{address_cuts, cuts_of_blocks}

-- the address of the interface itself: the source of what it sends, the destination of what it receives
abbrev pub own_address : Dir → Header → ℕ
own_address dirs.Outward h = h.src
own_address dirs.Inward h = h.dst

-- the cuts divide before and after the address
abbrev pub DivideAddress : ℕ → CutLists → Type 0
DivideAddress a cuts = Divide (cuts_of_blocks (address_cuts a)) cuts

-- and before and after each of these private addresses
abbrev pub DivideOwn : List (ℕ × Option ℕ) → CutLists → Type 0
DivideOwn addresses cuts = All (λ x. DivideAddress x.0 cuts) addresses

-- the cuts divide before and after each of these blocks
abbrev pub DivideBlocks : List Block → CutLists → Type 0
DivideBlocks blocks cuts = All (λ b. Divide (cuts_of_block b) cuts) blocks

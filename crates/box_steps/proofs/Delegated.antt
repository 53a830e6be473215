-- Blocks that are delegated to interfaces, asked of images.
use Rattle.std.proofs.Common.{Bool, Contains, List, Option, ap, arith, flat_map, subst, sym, true, ℕ, ◌+◌, ◌++◌, ◌≡◌, ◌≤◌}
use Rattle.std.specs.Prelude.{nat_le}
use Rattle.vpc_base.proofs.Lemmas.{All-contains, All-from_recursion, Contains-append_right, Contains-filter, Contains-flat_map, all_members, flat_map-member, nat_tests, row-member}
use Rattle.vpc_base.specs.Cuts.{CutLists}
use Rattle.vpc_base.specs.declared.headers.Header.{Header}
use Rattle.box_images.specs.Terms.{Answers, header_at, number_of}
use Rattle.image_tests.specs.Types.{Box5, Image, Part, Side}
use Rattle.image_tests.proofs.Lemmas.{answers_more, answers_same, header_of_rest}
use Rattle.image_tests.specs.Keys.{EndsBy, low_on}
use Rattle.image_tests.specs.Tests.{cuts_of_block}
use Rattle.cut_laws.proofs.Lemmas.{among_through, interfaces_are_standing, on_sides_among}
use Rattle.cut_laws.specs.Dividing.{Divide}
use Rattle.prefix_text.specs.Block.{Block, holds}
use Rattle.reference_check.specs.Delegated.{IsDelegatedUpTo}
use Rattle.vpc_laws.specs.Hosts.{delegated_host}
use Rattle.vpc_laws.specs.Types.{Description, EniNo, Interface, VpcNo}
use Rattle.vpc_model.specs.Terms.{block_cuts, cuts_of_blocks, cuts_of_interface, interface_at, is_eni, no_interface, on_sides, pair_cuts, standing_cuts}
use Rattle.box_steps.specs.Cuts.{Standing}
use Rattle.box_steps.specs.Hosts.{DivideBlocks}

-- ---- how far addresses are delegated alike

-- where a delegated block begins or has ended, standing cuts divide
delegated-cut : (d : Description) (c : ℕ) (cuts : CutLists) → Contains (flat_map (λ (e : Interface). flat_map block_cuts e.prefixes) d.interfaces) c → c ≤ 4294967295 → Standing d cuts → Contains cuts.addr c
delegated-cut d c cuts has le standing =
    let row = flat_map-member (λ (e : Interface). flat_map block_cuts e.prefixes) d.interfaces c has in
    let e : Interface = row.0 in
    let all : List ℕ = flat_map pair_cuts e.addresses ++ flat_map block_cuts e.prefixes in
    standing.addr c
    ((interfaces_are_standing d e row.1).addr c
    (Contains-filter (λ n. nat_le n 4294967295) all c (Contains-append_right (flat_map pair_cuts e.addresses) (flat_map block_cuts e.prefixes) c row.2) (grind (arith, nat_tests))))

pub delegated-answers : (d n : Description) (v : VpcNo) (i : Image) (s : Side) (low : ℕ) (x : ℕ × Option EniNo) (b : Box5) → n ≡ d → low ≡ low_on i s → IsDelegatedUpTo n v low x → EndsBy i s x.0 b
    → Answers (Standing d) (λ h. delegated_host d v (number_of (header_at i h) s)) i.part (record { body = b; told = x.1 })
delegated-answers d n v i s low x b same is stretch ends = by (subst (λ (k : Description). IsDelegatedUpTo k v low x) same stretch)
  where
    by : IsDelegatedUpTo d v low x → Answers (Standing d) (λ h. delegated_host d v (number_of (header_at i h) s)) i.part (record { body = b; told = x.1 })
    by far = record {
      told = λ h t. sym (far.alike (number_of (header_at i h) s) (subst (λ (k : ℕ). k ≤ number_of (header_at i h) s) (sym is) (ends.from h t)) (ends.to h t));
      body = ends.body;
      aligned = λ cuts standing. ends.aligned cuts (λ lt. delegated-cut d (x.0 + 1) cuts (far.ends lt) (omega arith) standing);
    }

-- ---- the blocks of one interface

-- the test of a header
abbrev pub block_test : Side → Image → Block → Header → Bool
block_test s i b h = holds (number_of (header_at i h) s) b

-- one of them, asked of what is left of an image
pub block_of_rest : (blocks : List Block) (s : Side) (i rest : Image) (block : Block) (x : Part Bool) → Contains blocks block → rest ≡ record i { part = rest.part }
    → Answers (Divide (cuts_of_block block)) (block_test s rest block) rest.part x → Answers (DivideBlocks blocks) (block_test s i block) rest.part x
block_of_rest blocks s i rest block x has e k =
    answers_more (Divide (cuts_of_block block)) (DivideBlocks blocks) (block_test s i block) rest.part x
    (λ cuts all. All-contains (λ (b : Block). Divide (cuts_of_block b) cuts) blocks block all has)
    (answers_same (Divide (cuts_of_block block)) (block_test s rest block) (block_test s i block) rest.part x
    (λ h. ap (λ (y : Header). holds (number_of y s) block) (header_of_rest i rest h e)) k)

-- standing cuts divide before and after each
pub blocks-stand : (d : Description) (i : EniNo) → is_eni d i ≡ true → (cuts : CutLists) → Standing d cuts → DivideBlocks (interface_at d i).prefixes cuts
blocks-stand d i lies cuts standing =
    let e : Interface = interface_at d i in
    let all : List ℕ = flat_map pair_cuts e.addresses ++ flat_map block_cuts e.prefixes in
    All-from_recursion (λ (b : Block). Divide (cuts_of_block b) cuts) e.prefixes
    (all_members (λ (b : Block). Divide (cuts_of_block b) cuts) e.prefixes
    (λ b has.
    among_through (on_sides (cuts_of_block b)) (standing_cuts d) cuts
    (among_through (on_sides (cuts_of_block b)) (on_sides (cuts_of_interface e)) (standing_cuts d)
    (on_sides_among (cuts_of_block b) (cuts_of_blocks all)
    (record {
      proto = λ c k. k;
      addr = λ c k. Contains-append_right (flat_map pair_cuts e.addresses) (flat_map block_cuts e.prefixes) c (Contains-flat_map block_cuts e.prefixes b c has k);
      p = λ c k. k;
      q = λ c k. k;
    }))
    (interfaces_are_standing d e (row-member d.interfaces i.0 no_interface lies)))
    standing))

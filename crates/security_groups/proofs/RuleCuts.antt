-- The cuts of an interface's place divide enough for the rules of its groups.
use Rattle.std.proofs.Common.{All, Bool, Contains, List, [], ap, filter_map, flat_map, get_or, not, refl, subst, sym, true, ℕ, ◌+◌, ◌==◌, ◌∙◌, ◌≡◌}
use Rattle.std.specs.List.{list_any}
use Rattle.vpc_base.proofs.Lemmas.{Contains-append_left, Contains-append_right, Contains-flat_map, Contains-get_or, eq-eqb, eqb-true, filter_map-member, flat_map-member, list_any-member, member-list_any}
use Rattle.address_sets.specs.Runs.{is_in}
use Rattle.prefix_text.specs.Block.{Block, holds}
use Rattle.cut_laws.proofs.Lemmas.{among_through, blocks-divide, none_within, on_sides_among}
use Rattle.cut_laws.specs.Dividing.{Divide, DivideTurns}
use Rattle.vpc_base.specs.Cuts.{AreAmong, CutLists}
use Rattle.vpc_model.specs.Terms.{block_cuts, blocks_of_permission, cuts_of_blocks, cuts_of_permission, cuts_of_rule, entries_of, on_sides, standing_cuts}
use Rattle.vpc_laws.specs.Types.{Description, Dir, Permission}
use Rattle.security_groups.specs.Terms.{DivideRule, GroupLists, IsResolved, IsRuleOf, Rule, has_entry, list_no, once}
use Rattle.security_groups.proofs.MemberCuts.{members-divide}
use Rattle.security_groups.proofs.Numbered.{any_entry-is, any_if}
use Rattle.security_groups.proofs.OnceEach.{list_any-once}

-- what holds of each member holds of all
pub all-members : {X : Type 0} (P : X → Type 0) (xs : List X) → ((x : X) → Contains xs x → P x) → All P xs
all-members P xs each k d within = each (get_or xs k d) (Contains-get_or xs k d within)

-- a number without its repeats is one of all
pub once-member : (ns : List ℕ) (n : ℕ) → Contains (once ns) n → Contains ns n
once-member ns n has =
    let kept : list_any (λ k. k == n) (once ns) ≡ true = member-list_any (λ k. k == n) (once ns) n has (eq-eqb n n refl) in
    let found = list_any-member (λ k. k == n) ns (sym (list_any-once (λ k. k == n) ns) ∙ kept) in
    subst (Contains ns) (eqb-true found.0 n found.2) found.1

-- ---- one rule

-- the cuts of some blocks of a permission are among the permission's
blocks-among : (d : Description) (p : Permission) (blocks : List Block) → ((b : Block) → Contains blocks b → Contains (blocks_of_permission d p) b)
    → AreAmong (cuts_of_blocks (flat_map block_cuts blocks)) (cuts_of_permission d p)
blocks-among d p blocks within =
    let all : CutLists = cuts_of_permission d p in
    record {
      proto = none_within all.proto;
      addr = λ c has.
          let b = flat_map-member block_cuts blocks c has in
          Contains-flat_map block_cuts (blocks_of_permission d p) b.0 c (within b.0 b.1) b.2;
      p = none_within all.p;
      q = none_within all.q;
    }

-- and so divide where an address comes to be in them
turns-divide : (d : Description) (p : Permission) (cuts : CutLists) (blocks : List Block) → ((b : Block) → Contains blocks b → Contains (blocks_of_permission d p) b)
    → Divide (cuts_of_permission d p) cuts → DivideTurns (λ a. list_any (holds a) blocks) cuts
turns-divide d p cuts blocks within divide =
    let few : CutLists = cuts_of_blocks (flat_map block_cuts blocks) in
    blocks-divide blocks few cuts refl
    (among_through (on_sides few) (on_sides (cuts_of_permission d p)) cuts (on_sides_among few (cuts_of_permission d p) (blocks-among d p blocks within)) divide)

-- tests that agree turn together
pub turns-alike : (test other : ℕ → Bool) (cuts : CutLists) → ((a : ℕ) → test a ≡ other a) → DivideTurns other cuts → DivideTurns test cuts
turns-alike test other cuts same divide a fits turn = divide a fits (sym (same (a + 1)) ∙ turn ∙ ap not (same a))

-- the rule's protocol and ports
rule-edges : (d : Description) (dir : Dir) (vpc : List ℕ) (n : ℕ) (p : Permission) (r : Rule) (cuts : CutLists) → IsRuleOf d dir vpc n p r → Divide (cuts_of_permission d p) cuts → Divide (cuts_of_rule r.proto r.q_from r.q_to []) cuts
rule-edges d dir vpc n p r cuts rule divide =
    let few : CutLists = cuts_of_rule p.proto p.q_from p.q_to [] in
    let all : CutLists = cuts_of_permission d p in
    let edges : Divide few cuts = among_through (on_sides few) (on_sides all) cuts (on_sides_among few all (record { proto = λ c k. k; addr = none_within all.addr; p = λ c k. k; q = λ c k. k })) divide in
    rw (rule.proto, rule.from, rule.to) edges

-- the entries of a list that it names
list-divides : (d : Description) (i : GroupLists) (dir : Dir) (vpc : List ℕ) (n : ℕ) (p : Permission) (r : Rule) (cuts : CutLists) → IsResolved d i → IsRuleOf d dir vpc n p r → Divide (cuts_of_permission d p) cuts
    → (l : ℕ) → Contains r.lists l → DivideTurns (λ a. has_entry i.lists a l) cuts
list-divides d i dir vpc n p r cuts resolved rule divide l has =
    let named = filter_map-member (list_no d) p.lists l (once-member (filter_map (list_no d) p.lists) l (subst (λ ls. Contains ls l) rule.lists has)) in
    let id : List ℕ = named.0 in
    turns-alike (λ a. has_entry i.lists a l) (λ a. list_any (holds a) (entries_of d id)) cuts
    (λ a. sym (ap (any_if (has_entry i.lists a)) named.2) ∙ any_entry-is d i.lists a id resolved.lists.entries)
    (turns-divide d p cuts (entries_of d id) (λ b at. Contains-append_right p.blocks (flat_map (entries_of d) p.lists) b (Contains-flat_map (entries_of d) p.lists id b named.1 at)) divide)

-- all that it asks
pub rule-divides : (d : Description) (i : GroupLists) (dir : Dir) (vpc : List ℕ) (n : ℕ) (p : Permission) (r : Rule) (cuts : CutLists) → IsResolved d i → IsRuleOf d dir vpc n p r → AreAmong (standing_cuts d) cuts → Divide (cuts_of_permission d p) cuts
    → DivideRule i.lists i.members r cuts
rule-divides d i dir vpc n p r cuts resolved rule standing divide = record {
  rule = rule-edges d dir vpc n p r cuts rule divide;
  blocks = turns-alike (λ a. is_in a r.blocks) (λ a. list_any (holds a) p.blocks) cuts rule.blocks
      (turns-divide d p cuts p.blocks (λ b at. Contains-append_left p.blocks (flat_map (entries_of d) p.lists) b at) divide);
  entries = all-members (λ l. DivideTurns (λ a. has_entry i.lists a l) cuts) r.lists (list-divides d i dir vpc n p r cuts resolved rule divide);
  groups = λ k none within. members-divide d i.members (get_or r.groups k none) cuts resolved.members standing;
}

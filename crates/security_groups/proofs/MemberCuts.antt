-- Members of groups are addresses of interfaces and blocks that are delegated to them, all of which are cut everywhere.
use Rattle.std.proofs.Common.{◌≡◌, ◌∙◌, ◌&&◌, ◌+◌, ◌<◌, ◌==◌, ◌^◌, ◌≤◌, ◌⊎◌, ◌||◌, ◌∷◌, [], ℕ, Bool, Contains, List, Option, ap, arith, false, flat_map, inl, inr, length, map, not, refl, subst, sym, true}
use Rattle.std.specs.List.{list_any}
use Rattle.std.specs.Prelude.{if◌then◌else◌}
use Rattle.std.proofs.lemmas.Bool.{and_parts, eqb-true}
use Rattle.std.proofs.lemmas.List.{get_or_past}
use Rattle.std.proofs.lemmas.List.Elements.{All-contains, Contains-append_left, Contains-append_right}
use Rattle.address_sets.specs.Runs.{is_in}
use Rattle.prefix_text.specs.Block.{Block, holds}
use Rattle.cut_laws.proofs.Among.{among_through, none_within, on_sides_among, row_among}
use Rattle.cut_laws.proofs.Rows.{here, interfaces_are_standing, later}
use Rattle.cut_laws.proofs.Turning.{blocks-divide}
use Rattle.cut_laws.specs.Dividing.{CutOut, Divide, DivideTurns}
use Rattle.vpc_base.proofs.Lemmas.{Contains-none, cases_lt, list_any-append}
use Rattle.number_tables.proofs.KeyLemmas.{key_of-same}
use Rattle.number_tables.specs.Keys.{key_of}
use Rattle.security_groups.specs.Rules.{DivideMember, has_block, has_key}
use Rattle.security_groups.specs.Members.{AreFit, HasMembersOf, MemberSets, all_members, groups_with, holds_for, key_with, keys_with}
use Rattle.vpc_base.specs.Cuts.{AreAmong, CutLists, joined_cuts}
use Rattle.vpc_base.proofs.Members.{Contains-flat_map, flat_map-member, list_any-member, map-member}
use Rattle.vpc_model.specs.Cuts.{address_cuts, all_cuts, block_cuts, cuts_of_acl, cuts_of_appliance, cuts_of_blocks, cuts_of_far, cuts_of_interface, cuts_of_vpc, fixed_cuts, on_sides, pair_cuts, public_cuts, standing_cuts, unbounded_standing}
use Rattle.vpc_model.specs.declared.rows.Description.{Description}
use Rattle.vpc_model.specs.declared.rows.Interface.{Interface}

-- a private address of an interface is cut out by standing cuts
private-cut-out : (d : Description) (e : Interface) (x : ℕ × Option ℕ) → Contains d.interfaces e → Contains e.addresses x → Divide (cuts_of_blocks (address_cuts x.0)) (standing_cuts d)
private-cut-out d e x has at =
    let few : CutLists = cuts_of_blocks (address_cuts x.0) in
    among_through (on_sides few) (on_sides (cuts_of_interface e)) (standing_cuts d)
    (on_sides_among few (cuts_of_interface e)
    (record {
      proto = λ c k. k;
      addr = λ c k.
          Contains-append_left (flat_map pair_cuts e.addresses) (flat_map block_cuts e.prefixes) c
          (Contains-flat_map pair_cuts e.addresses x c at (Contains-append_left (address_cuts x.0) (public_cuts x.1) c k));
      p = λ c k. k;
      q = λ c k. k;
    }))
    (interfaces_are_standing d e has)

-- an interface has the address of a member
record HasPrivate (d : Description) (a : ℕ) : Type 0 where
  pub row : Interface
  pub pair : ℕ × Option ℕ
  pub described : Contains d.interfaces row
  pub has : Contains row.addresses pair
  pub same : pair.0 ≡ a

-- a key's address
same-address : (h v g a n : ℕ) → v < 2 ^ 32 → a < 2 ^ 32 → key_with v h ≡ n → (n == key_of g a) ≡ true → v ≡ a
same-address h v g a n fits_v fits_a is key =
    let keys : (key_of h v == key_of g a) ≡ true = ap (λ k. k == key_of g a) is ∙ key in
    let both : ((h == g) && (v == a)) ≡ true = sym (key_of-same h g v a fits_v fits_a) ∙ keys in
    eqb-true v a (and_parts (h == g) (v == a) both).1

member-is-private : (d : Description) (members : MemberSets) (g a : ℕ) → HasMembersOf d members → a < 2 ^ 32 → has_key members a g ≡ true → HasPrivate d a
member-is-private d members g a resolved fits some =
    let key = list_any-member (λ n. n == key_of g a) (all_members d) (sym (resolved.keys (key_of g a)) ∙ some) in
    let row = flat_map-member (λ (e : Interface). keys_with (groups_with d e) e.addresses) d.interfaces key.0 key.1 in
    let pair = flat_map-member (λ (x : ℕ × Option ℕ). map (key_with x.0) (groups_with d row.0)) row.0.addresses key.0 row.2 in
    let group = map-member (key_with pair.0.0) (groups_with d row.0) key.0 pair.2 in
    let all_fit = All-contains (λ (e : Interface). AreFit e.addresses) d.interfaces row.0 resolved.fit row.1 in
    let fit : pair.0.0 < 2 ^ 32 = All-contains (λ (x : ℕ × Option ℕ). x.0 < 2 ^ 32) row.0.addresses pair.0 all_fit pair.1 in
    record { row = row.0; pair = pair.0; described = row.1; has = pair.1; same = same-address group.0 pair.0.0 g a key.0 fit fits group.2 key.2 }

-- so the standing cuts cut out each member of a group
members-are-cut-out : (d : Description) (members : MemberSets) (g : ℕ) → HasMembersOf d members → CutOut (λ a. has_key members a g) (standing_cuts d)
members-are-cut-out d members g resolved a fits some =
    let at = member-is-private d members g a resolved (omega arith) some in
    subst (λ n. Divide (cuts_of_blocks (address_cuts n)) (standing_cuts d)) at.same (private-cut-out d at.row at.pair at.described at.has)

-- ---- blocks

-- the blocks of the interfaces that have the group
abbrev blocks_with : Description → ℕ → List Interface → List Block
blocks_with d g es = flat_map (λ e. if list_any (λ n. n == g) (groups_with d e) then e.prefixes else []) es

any-block : (d : Description) (g a : ℕ) (es : List Interface) → list_any (holds a) (blocks_with d g es) ≡ list_any (holds_for d g a) es
any-block d g a [] = refl
any-block d g a (e ∷ es) =
    list_any-append (holds a) (if list_any (λ n. n == g) (groups_with d e) then e.prefixes else []) (blocks_with d g es)
    ∙ ap (λ b. b || list_any (holds a) (blocks_with d g es)) (by (list_any (λ n. n == g) (groups_with d e)))
    ∙ ap (λ b. holds_for d g a e || b) (any-block d g a es)
  where
    by : (b : Bool) → list_any (holds a) (if b then e.prefixes else []) ≡ (b && list_any (holds a) e.prefixes)
    by true = refl
    by false = refl

-- a block of some is delegated to an interface
block-is-delegated : (d : Description) (g : ℕ) (es : List Interface) (b : Block) → Contains (blocks_with d g es) b → (e : Interface) × Contains es e × Contains e.prefixes b
block-is-delegated d g es b has =
    let row = flat_map-member (λ (e : Interface). if list_any (λ n. n == g) (groups_with d e) then e.prefixes else []) es b has in
    (row.0, row.1, by row.0 (list_any (λ n. n == g) (groups_with d row.0)) row.2)
  where
    by : (e : Interface) (t : Bool) → Contains (if t then e.prefixes else []) b → Contains e.prefixes b
    by e true has = has
    by e false has = absurd (Contains-none b has)

-- so its cuts are among those of the interfaces
blocks-are-among : (d : Description) (g : ℕ) → AreAmong (cuts_of_blocks (flat_map block_cuts (blocks_with d g d.interfaces))) (all_cuts cuts_of_interface d.interfaces)
blocks-are-among d g =
    let all : CutLists = all_cuts cuts_of_interface d.interfaces in
    record {
      proto = none_within all.proto;
      addr = λ c has.
          let b = flat_map-member block_cuts (blocks_with d g d.interfaces) c has in
          let e = block-is-delegated d g d.interfaces b.0 b.1 in
          let among : AreAmong (cuts_of_interface e.0) all = row_among cuts_of_interface d.interfaces e.0 e.1 in
          among.addr c (Contains-append_right (flat_map pair_cuts e.0.addresses) (flat_map block_cuts e.0.prefixes) c (Contains-flat_map block_cuts e.0.prefixes b.0 c e.2 b.2));
      p = none_within all.p;
      q = none_within all.q;
    }

-- and among the standing ones
blocks-are-standing : (d : Description) (g : ℕ) → Divide (cuts_of_blocks (flat_map block_cuts (blocks_with d g d.interfaces))) (standing_cuts d)
blocks-are-standing d g =
    let few : CutLists = cuts_of_blocks (flat_map block_cuts (blocks_with d g d.interfaces)) in
    let others = joined_cuts (all_cuts cuts_of_acl d.acls) (joined_cuts (all_cuts cuts_of_appliance d.appliances) (all_cuts cuts_of_far d.fars)) in
    let from_interfaces = joined_cuts (all_cuts cuts_of_interface d.interfaces) others in
    on_sides_among few (unbounded_standing d)
    (later few fixed_cuts (joined_cuts (all_cuts cuts_of_vpc d.vpcs) from_interfaces)
    (later few (all_cuts cuts_of_vpc d.vpcs) from_interfaces (here few (all_cuts cuts_of_interface d.interfaces) others (blocks-are-among d g))))

blocks-are-cut : (d : Description) (members : MemberSets) (g : ℕ) → HasMembersOf d members → DivideTurns (λ a. has_block members a g) (standing_cuts d)
blocks-are-cut d members g has a fits turn = by (cases_lt g (length d.groups))
  where
    by : (g < length d.groups) ⊎ (length d.groups ≤ g) → Contains (standing_cuts d).addr (a + 1)
    by (inl below) =
        let same : (b : ℕ) → has_block members b g ≡ list_any (holds b) (blocks_with d g d.interfaces) = λ b. has.delegated g b below ∙ sym (any-block d g b d.interfaces) in
        blocks-divide (blocks_with d g d.interfaces) (cuts_of_blocks (flat_map block_cuts (blocks_with d g d.interfaces))) (standing_cuts d) refl (blocks-are-standing d g) a fits
        (sym (same (a + 1)) ∙ turn ∙ ap not (same a))
    by (inr past) =
        let none : (b : ℕ) → has_block members b g ≡ false = λ b. ap (is_in b) (get_or_past members.blocks g [] (subst (λ n. n ≤ g) (sym has.described) past)) in
        let turned : false ≡ true = sym (none (a + 1)) ∙ turn ∙ ap not (none a) in
        absurd cc

-- ---- members

-- cuts that have the standing ones divide enough for a group's members
pub members-divide : (d : Description) (members : MemberSets) (g : ℕ) (cuts : CutLists) → HasMembersOf d members → AreAmong (standing_cuts d) cuts → DivideMember members g cuts
members-divide d members g cuts has standing = record {
  keys = λ a fits some. among_through _ (standing_cuts d) cuts (members-are-cut-out d members g has a fits some) standing;
  blocks = λ a fits turn. standing.addr (a + 1) (blocks-are-cut d members g has a fits turn);
}

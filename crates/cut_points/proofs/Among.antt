-- The cuts of a description, as they are gathered.
use Rattle.std.proofs.Common.{◌≡◌, ℕ, ◌↔◌, Option, Some, None, subst, Bool, true, false, List, [], ◌∷◌, ◌++◌, cond}
use Rattle.std.specs.List.{Contains, find, flat_map}
use Rattle.std.specs.Prelude.{bytes_eq}
use Rattle.std.proofs.lemmas.Grind.{flat_map-append}
use Rattle.prefix_text.specs.Block.{Block}
use Rattle.vpc_base.specs.Cuts.{AreAmong, CutLists, joined_cuts, no_cuts}
use Rattle.cut_laws.proofs.Among.{all_among, among_itself, among_through, both_among, joined_among, left_among, left_within, none_among, on_sides_among, right_among, right_within, both_within}
use Rattle.cut_points.specs.Types.{Description, Permission, PrefixList, Reach}
use Rattle.vpc_model.specs.declared.rows.Reach.TheVariants as reaches
use Rattle.vpc_model.specs.Cuts.{all_cuts, block_cuts, blocks_of_reach, cuts_of, cuts_of_blocks, cuts_of_group, cuts_of_list, cuts_of_permission, cuts_of_route, cuts_of_rule, cuts_of_table, cuts_of_tgw_table, on_sides, all_permissions, unbounded_asked, unbounded_standing}
use Rattle.vpc_model.specs.Lookup.{entries_of}
use Rattle.cut_points.specs.Cuts.{HasCuts}
use Rattle.cut_points.specs.Gathered.{cuts_of_block, own_asked, own_cuts, own_cuts_of_group, own_cuts_of_permission, own_cuts_of_reach, own_cuts_of_route, own_cuts_of_table}

-- ---- the entries of prefix lists

-- the cuts of the entries that were found
abbrev found_cuts : Option PrefixList → CutLists
found_cuts o = cuts_of_blocks (flat_map block_cuts (elim o [ None ↦ [] | Some l ↦ l.entries ]))

first_or_later : (l : PrefixList) (rest : CutLists) (b : Bool) (o : Option PrefixList) → AreAmong (found_cuts o) rest → AreAmong (found_cuts (cond b (Some l) o)) (joined_cuts (cuts_of_list l) rest)
first_or_later l rest true o h = left_among (cuts_of_list l) rest
first_or_later l rest false o h = among_through (found_cuts o) rest (joined_cuts (cuts_of_list l) rest) h (right_among (cuts_of_list l) rest)

found_among : (p : PrefixList → Bool) (ls : List PrefixList) → AreAmong (found_cuts (find p ls)) (all_cuts cuts_of_list ls)
found_among p [] = none_among no_cuts
found_among p (l ∷ ls) = first_or_later l (all_cuts cuts_of_list ls) (p l) (find p ls) (found_among p ls)

-- a named list's entries cut where the described lists do
pub entries_among : (d : Description) (id : List ℕ) → AreAmong (cuts_of_blocks (flat_map block_cuts (entries_of d id))) (all_cuts cuts_of_list d.lists)
entries_among d id = found_among (λ l. bytes_eq l.id id) d.lists

named_among : (d : Description) (ids : List (List ℕ)) → AreAmong (cuts_of_blocks (flat_map block_cuts (flat_map (entries_of d) ids))) (all_cuts cuts_of_list d.lists)
named_among d [] = none_among (all_cuts cuts_of_list d.lists)
named_among d (id ∷ ids) =
    rw (flat_map-append block_cuts (entries_of d id) (flat_map (entries_of d) ids))
    (both_among (cuts_of_blocks (flat_map block_cuts (entries_of d id))) (cuts_of_blocks (flat_map block_cuts (flat_map (entries_of d) ids))) (all_cuts cuts_of_list d.lists)
    (entries_among d id) (named_among d ids))

-- ---- rules and routes with the entries of their lists, and without them

rule_among : (proto : Option ℕ) (from to : ℕ) (blocks named : List Block) (more : CutLists) → AreAmong (cuts_of_blocks (flat_map block_cuts named)) more → AreAmong (cuts_of_rule proto from to (blocks ++ named)) (joined_cuts (cuts_of_rule proto from to blocks) more)
rule_among proto from to blocks named more h =
    let own : CutLists = cuts_of_rule proto from to blocks in
    record {
      proto = left_within own.proto more.proto;
      addr = rw (flat_map-append block_cuts blocks named)
          (both_within own.addr (flat_map block_cuts named) (own.addr ++ more.addr) (left_within own.addr more.addr) (λ c k. right_within own.addr more.addr c (h.addr c k)));
      p = left_within own.p more.p;
      q = left_within own.q more.q;
    }

among_rule : (proto : Option ℕ) (from to : ℕ) (blocks named : List Block) → AreAmong (cuts_of_rule proto from to blocks) (cuts_of_rule proto from to (blocks ++ named))
among_rule proto from to blocks named =
    record {
      proto = λ c h. h;
      addr = rw (flat_map-append block_cuts blocks named) (left_within (flat_map block_cuts blocks) (flat_map block_cuts named));
      p = λ c h. h;
      q = λ c h. h;
    }

permission_among : (d : Description) (p : Permission) → AreAmong (cuts_of_permission d p) (joined_cuts (own_cuts_of_permission p) (all_cuts cuts_of_list d.lists))
permission_among d p = rule_among p.proto p.q_from p.q_to p.blocks (flat_map (entries_of d) p.lists) (all_cuts cuts_of_list d.lists) (named_among d p.lists)

among_permission : (d : Description) (p : Permission) → AreAmong (own_cuts_of_permission p) (joined_cuts (cuts_of_permission d p) (all_cuts cuts_of_list d.lists))
among_permission d p =
    among_through (own_cuts_of_permission p) (cuts_of_permission d p) (joined_cuts (cuts_of_permission d p) (all_cuts cuts_of_list d.lists))
    (among_rule p.proto p.q_from p.q_to p.blocks (flat_map (entries_of d) p.lists))
    (left_among (cuts_of_permission d p) (all_cuts cuts_of_list d.lists))

reach_among : (d : Description) (r : Reach) → AreAmong (cuts_of_blocks (flat_map block_cuts (blocks_of_reach d r))) (joined_cuts (own_cuts_of_reach r) (all_cuts cuts_of_list d.lists))
reach_among d (reaches.Block b) = left_among (cuts_of_block b) (all_cuts cuts_of_list d.lists)
reach_among d (reaches.List id) =
    among_through (cuts_of_blocks (flat_map block_cuts (entries_of d id))) (all_cuts cuts_of_list d.lists) (joined_cuts no_cuts (all_cuts cuts_of_list d.lists))
    (entries_among d id) (right_among no_cuts (all_cuts cuts_of_list d.lists))

among_reach : (d : Description) (r : Reach) → AreAmong (own_cuts_of_reach r) (joined_cuts (cuts_of_blocks (flat_map block_cuts (blocks_of_reach d r))) (all_cuts cuts_of_list d.lists))
among_reach d (reaches.Block b) = left_among (cuts_of_block b) (all_cuts cuts_of_list d.lists)
among_reach d (reaches.List id) = none_among (joined_cuts (cuts_of_blocks (flat_map block_cuts (entries_of d id))) (all_cuts cuts_of_list d.lists))

-- ---- the whole

-- rows beside lists, some of which are among others and the lists
asked_among : (lists tables groups transit tables' groups' : CutLists) → AreAmong tables (joined_cuts tables' lists) → AreAmong groups (joined_cuts groups' lists) → AreAmong (joined_cuts lists (joined_cuts tables (joined_cuts groups transit))) (joined_cuts lists (joined_cuts tables' (joined_cuts groups' transit)))
asked_among lists tables groups transit tables' groups' by_tables by_groups =
    let last : CutLists = joined_cuts groups' transit in
    let later : CutLists = joined_cuts tables' last in
    let whole : CutLists = joined_cuts lists later in
    let lists_in : AreAmong lists whole = left_among lists later in
    let later_in : AreAmong later whole = right_among lists later in
    let last_in : AreAmong last whole = among_through last later whole (right_among tables' last) later_in in
    both_among lists (joined_cuts tables (joined_cuts groups transit)) whole lists_in
    (both_among tables (joined_cuts groups transit) whole
    (among_through tables (joined_cuts tables' lists) whole by_tables (both_among tables' lists whole (among_through tables' later whole (left_among tables' last) later_in) lists_in))
    (both_among groups transit whole
    (among_through groups (joined_cuts groups' lists) whole by_groups (both_among groups' lists whole (among_through groups' last whole (left_among groups' transit) last_in) lists_in))
    (among_through transit last whole (right_among groups' transit) last_in)))

cuts_among : (d : Description) → AreAmong (cuts_of d) (on_sides (own_cuts d))
cuts_among d =
    let lists : CutLists = all_cuts cuts_of_list d.lists in
    on_sides_among (joined_cuts (unbounded_standing d) (unbounded_asked d)) (own_cuts d)
    (joined_among (unbounded_standing d) (unbounded_asked d) (unbounded_standing d) (own_asked d) (among_itself (unbounded_standing d))
    (asked_among lists (all_cuts (cuts_of_table d) d.tables) (all_cuts (cuts_of_group d) d.groups) (all_cuts cuts_of_tgw_table d.tgw_tables) (all_cuts own_cuts_of_table d.tables) (all_cuts own_cuts_of_group d.groups)
    (all_among (cuts_of_table d) own_cuts_of_table lists (λ t. all_among (cuts_of_route d) own_cuts_of_route lists (λ r. reach_among d r.reach) t.routes) d.tables)
    (all_among (cuts_of_group d) own_cuts_of_group lists (λ g. all_among (cuts_of_permission d) own_cuts_of_permission lists (permission_among d) (all_permissions g)) d.groups)))

among_cuts : (d : Description) → AreAmong (on_sides (own_cuts d)) (cuts_of d)
among_cuts d =
    let lists : CutLists = all_cuts cuts_of_list d.lists in
    on_sides_among (own_cuts d) (joined_cuts (unbounded_standing d) (unbounded_asked d))
    (joined_among (unbounded_standing d) (own_asked d) (unbounded_standing d) (unbounded_asked d) (among_itself (unbounded_standing d))
    (asked_among lists (all_cuts own_cuts_of_table d.tables) (all_cuts own_cuts_of_group d.groups) (all_cuts cuts_of_tgw_table d.tgw_tables) (all_cuts (cuts_of_table d) d.tables) (all_cuts (cuts_of_group d) d.groups)
    (all_among own_cuts_of_table (cuts_of_table d) lists (λ t. all_among own_cuts_of_route (cuts_of_route d) lists (λ r. among_reach d r.reach) t.routes) d.tables)
    (all_among own_cuts_of_group (cuts_of_group d) lists (λ g. all_among own_cuts_of_permission (cuts_of_permission d) lists (among_permission d) (all_permissions g)) d.groups)))

-- four lists, each with the members of its side
pub HasCuts-from_members : (meant sides cuts : CutLists) → sides ≡ meant
    → ((x : ℕ) → Contains cuts.proto x ↔ Contains sides.proto x) → ((x : ℕ) → Contains cuts.addr x ↔ Contains sides.addr x)
    → ((x : ℕ) → Contains cuts.p x ↔ Contains sides.p x) → ((x : ℕ) → Contains cuts.q x ↔ Contains sides.q x)
    → HasCuts meant cuts
HasCuts-from_members meant sides cuts is proto addr p q =
    subst (λ (s : CutLists). HasCuts s cuts) is (record {
      no_others = record { proto = λ x. (proto x).0; addr = λ x. (addr x).0; p = λ x. (p x).0; q = λ x. (q x).0 };
      all = record { proto = λ x. (proto x).1; addr = λ x. (addr x).1; p = λ x. (p x).1; q = λ x. (q x).1 };
    })

-- lists with the members of what was gathered
pub HasCuts-from_gathered : (d : Description) (gathered cuts : CutLists) → gathered ≡ on_sides (own_cuts d) → HasCuts gathered cuts → HasCuts (cuts_of d) cuts
HasCuts-from_gathered d gathered cuts is has = record {
  no_others = among_through cuts (on_sides (own_cuts d)) (cuts_of d) (subst (AreAmong cuts) is has.no_others) (among_cuts d);
  all = among_through (cuts_of d) (on_sides (own_cuts d)) cuts (cuts_among d) (subst (λ (g : CutLists). AreAmong g cuts) is has.all);
}

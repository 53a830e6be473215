-- What a search answers about the stops of requests is a report about their verdicts.
use Rattle.std.proofs.Common.{[], Bool, Err, IfOk, List, None, Ok, Option, Result, Some, ap, arith, false, length, nat_le, option_map, refl, slice_index_or, subst, sym, true, ℕ, ◌+◌, ◌<◌, ◌≤◌, ◌∙◌, ◌∷◌, ◌≡◌}
use Rattle.std.specs.Global.{Vec}
use Rattle.std.specs.List.{All}
use Rattle.std.proofs.lemmas.Bool.Decides.{nat_tests}
use Rattle.std.proofs.lemmas.List.{get_or-map, length-map}
use Rattle.std.proofs.lemmas.List.Elements.{All-map}
use Rattle.header_boxes.proofs.Held.{holds_low, valid_if_within}
use Rattle.header_boxes.specs.Cells.{IsAligned}
use Rattle.header_boxes.specs.Rows.{IsTrueReport}
use Rattle.header_boxes.specs.Terms.{AreTrueRows, IsFirst, IsFirstThrough, NoneThrough, low_of}
use Rattle.block_report.proofs.Leaves.{leaf_count-told}
use Rattle.block_report.specs.Reports.{HaveText, told_row, told_rows}
use Rattle.block_report.specs.Trees.{NodesHaveText, told_nodes}
use Rattle.box_walk.proofs.Texts.{ending_of-stop, stop_told}
use Rattle.box_walk.specs.Asking.{Asking, asked, stop_of, stopped_of, whether, word_of}
use Rattle.ordered_cover.specs.Cover.{IsBlocked, IsMore, IsSearched}
use Rattle.ordered_cover.specs.Grown.{IsGrownTree}
use Rattle.ordered_cover.specs.Joined.{AreJoined, CanJoin, GoesOn, GoesOnEitherWay}
use Rattle.ordered_cover.specs.Trees.{leaf_count, leaves_of}
use Rattle.ordered_cover.specs.declared.rows.Searched.{Searched}
use Rattle.ordered_cover.specs.declared.rows.Searched.TheVariants as searches
use Rattle.ordered_cover.specs.declared.trees.Node.{Node}
use Rattle.ordered_cover.proofs.Leaves.{leaves_are_counted, trees_are_reports}
use Rattle.query_words.specs.declared.queries.Query.{Query}
use Rattle.vpc_laws.proofs.Telling.{verdicts_are_told}
use Rattle.vpc_laws.specs.Types.{Box5, Description, Header, Phase, Row, Stop, StopText}
use Rattle.vpc_model.specs.Terms.{IsAccepted, IsCellCount, appliances_of, cuts_of, told_stop, verdict_of}
use Rattle.network_reach.proofs.Told.{Tells, begun_told, first_told, none_through_told, ordered_told, outside_told, true_told, whole_told}
use Rattle.network_reach.proofs.ToldTrees.{leaves_over-told, nodes_have_text, stand_for-told}
use Rattle.network_reach.specs.Reached.{AreJoinedIn, GoesOnAlike, IsPartReportIn, IsQueryIn, IsReached, IsReportIn, IsTreeIn, either_way_if, goes_on_in, meaning_in, most_rows}
use Rattle.network_reach.specs.declared.reach.Reached.TheVariants as answers

-- ---- the stops of a query's headers, and what is told of each

abbrev stops_of : Description → Query → Header → Option (Phase × Stop)
stops_of d query = word_of (asked d query.start query.goal)

abbrev tell : Description → Phase × Stop → StopText
tell d x = told_stop d x.0 x.1

tells : (d : Description) (query : Query) → Tells (tell d) (stops_of d query) (meaning_in d query) query.sides
tells d query h held = ending_of-stop d (verdict_of d (appliances_of d) query.start query.goal h)

-- ---- each stop has a text

have-text : (d : Description) (query : Query) (rows : List (Row (Phase × Stop))) → IsAccepted d → IsQueryIn d query
    → AreTrueRows (stops_of d query) query.sides rows → HaveText d rows
have-text d query rows accepted asked are = λ k none below.
    let row = slice_index_or rows k none in
    let low = low_of row.part in
    stop_told d (verdict_of d (appliances_of d) query.start query.goal low) row.word
    (verdicts_are_told d (appliances_of d) query.start query.goal low accepted asked.start asked.goal)
    (are.word k none below low (holds_low row.part (valid_if_within row.part query.sides (are.within k none below))))

-- ---- headers that get through

-- nothing stops it
unstopped : (o : Option (Phase × Stop)) → whether o ≡ None → o ≡ None
unstopped None e = refl
unstopped (Some told) e = absurd cc

first_unstopped : (word : Header → Option (Phase × Stop)) (box : Box5) (o : Option Header) → IsFirst (λ h. whether (word h)) box o → IsFirst word box o
first_unstopped word box (Some h) found = record {
  inside = found.inside;
  through = unstopped (word h) found.through;
  first = λ k held before e. found.first k held before (ap whether e);
}
first_unstopped word box None none = λ h held e. none h held (ap whether e)

first_is : (d : Description) (query : Query) (o : Option Header) → IsFirst (stops_of d query) query.sides o → IsFirst (meaning_in d query) query.sides o
first_is d query (Some h) found = first_told (tell d) (stops_of d query) (meaning_in d query) query.sides h (tells d query) found
first_is d query None none = none_through_told (tell d) (stops_of d query) (meaning_in d query) query.sides (tells d query) none

-- the first header that gets through, if one does
pub first_by_stops : {E : Type 0} (d : Description) (query : Query) (a : Asking) (r : Result (Option Header) E) → a ≡ asked d query.start query.goal
    → IfOk r (IsFirst (stopped_of a) query.sides) → IfOk r (IsFirst (meaning_in d query) query.sides)
first_by_stops d query a (Ok o) is found =
    first_is d query o (first_unstopped (stops_of d query) query.sides o (subst (λ (b : Asking). IsFirst (stopped_of b) query.sides o) is found))
first_by_stops d query a (Err e) is found = tt

-- what a search of some parts answers
pub searched_by_stops : {E : Type 0} (d : Description) (query : Query) (a : Asking) (r : Result Searched E) → a ≡ asked d query.start query.goal
    → IfOk r (IsSearched (stopped_of a) query.sides) → IfOk r (IsSearched (meaning_in d query) query.sides)
searched_by_stops d query a (Ok (searches.Found h)) is found =
    first_is d query (Some h) (first_unstopped (stops_of d query) query.sides (Some h) (subst (λ (b : Asking). IsFirst (stopped_of b) query.sides (Some h)) is found))
searched_by_stops d query a (Ok searches.Blocked) is none =
    first_is d query None (first_unstopped (stops_of d query) query.sides None (subst (λ (b : Asking). IsFirst (stopped_of b) query.sides None) is none))
searched_by_stops d query a (Ok searches.Unfinished) is found = tt
searched_by_stops d query a (Err e) is found = tt

-- a cover's first header that gets through is the query's
pub through_is : (d : Description) (query : Query) (a : Asking) (h : Header) → a ≡ asked d query.start query.goal
    → IsFirstThrough (word_of a) query.sides h → IsReached d query (answers.Through h)
through_is d query a h is found = first_is d query (Some h) (subst (λ (b : Asking). IsFirst (word_of b) query.sides (Some h)) is found)

-- what is told where something stops a header
untold : (d : Description) (o : Option (Phase × Stop)) → o ≡ None → option_map (tell d) o ≡ None
untold d o e = ap (option_map (tell d)) e

-- none gets through
pub none_unstopped : (d : Description) (query : Query) → NoneThrough (meaning_in d query) query.sides → NoneThrough (stops_of d query) query.sides
none_unstopped d query none h held e = none h held (tells d query h held ∙ untold d (stops_of d query h) e)

-- ---- how the rows of a query go on from each other

most_true : (n : ℕ) → n ≤ most_rows → nat_le n most_rows ≡ true
most_true n few = grind (arith, nat_tests)

most_false : (n : ℕ) → most_rows < n → nat_le n most_rows ≡ false
most_false n many = grind (arith, nat_tests)

-- rows of a report that is a list
pub of_rows : (query : Query) (P : (Box5 → Box5 → Type 0) → Type 0) → query.max ≤ most_rows → P GoesOnEitherWay → P (goes_on_in query)
of_rows query P few h = subst (λ (b : Bool). P (either_way_if b)) (sym (most_true query.max few)) h

-- rows of one that is a tree
pub of_a_tree : (query : Query) (P : (Box5 → Box5 → Type 0) → Type 0) → most_rows < query.max → P GoesOn → P (goes_on_in query)
of_a_tree query P many h = subst (λ (b : Bool). P (either_way_if b)) (sym (most_false query.max many)) h

-- ---- rows that could be one

module _ (On : Box5 → Box5 → Type 0) (d : Description) (query : Query) (rows : List (Row (Phase × Stop))) (some : Row (Phase × Stop)) (are : AreTrueRows (stops_of d query) query.sides rows) where
  row_told : (k : ℕ) (none : Row StopText) → k < length rows → slice_index_or (told_rows d rows) k none ≡ told_row d (slice_index_or rows k some)
  row_told k none lt = get_or-map (told_row d) rows k some none lt

  -- what stops the first header of a row
  stops_first : (k : ℕ) → k < length rows → stops_of d query (low_of (slice_index_or rows k some).part) ≡ Some (slice_index_or rows k some).word
  stops_first k lt =
      let row = slice_index_or rows k some in
      are.word k some lt (low_of row.part) (holds_low row.part (valid_if_within row.part query.sides (are.within k some lt)))

  -- rows of which the first headers have one verdict have the same word
  joined_alike : AreJoined On rows → AreJoinedIn On d query (told_rows d rows)
  joined_alike joined k none below can =
      let lt : k + 1 < length rows = subst (λ (n : ℕ). k + 1 < n) (length-map rows (told_row d)) below in
      let before : k < length rows = omega (arith, lt) in
      let first = slice_index_or rows k some in
      let other = slice_index_or rows (k + 1) some in
      let one = subst (λ (r : Row StopText). CanJoin (GoesOnAlike On d query) r (slice_index_or (told_rows d rows) (k + 1) none)) (row_told k none before) can in
      let both = subst (λ (r : Row StopText). CanJoin (GoesOnAlike On d query) (told_row d first) r) (row_told (k + 1) none lt) one in
      let same : Some first.word ≡ Some other.word = sym (stops_first k before) ∙ (ap stop_of both.0.alike ∙ stops_first (k + 1) lt) in
      joined k some lt (both.0.on, cc)

-- no row of stops goes on from one with the same stop, so none that is told does
told_are_joined : (On : Box5 → Box5 → Type 0) (d : Description) (query : Query) (rows : List (Row (Phase × Stop))) → AreTrueRows (stops_of d query) query.sides rows → AreJoined On rows
    → AreJoinedIn On d query (told_rows d rows)
told_are_joined On d query [] are joined = λ k none below can. absurd (omega (arith, below))
told_are_joined On d query (row ∷ rows) are joined = joined_alike On d query (row ∷ rows) row are joined

-- of the same network, in a slice
pub told_as : (d n : Description) (rows given : List (Row (Phase × Stop))) → n ≡ d → given ≡ rows → HaveText d rows → HaveText n given
told_as d n rows given same are told = subst (λ (x : Description). HaveText x given) (sym same) (subst (HaveText d) (sym are) told)

pub joined_as : (On : Box5 → Box5 → Type 0) (d n : Description) (query : Query) (rows given : List (Row (Phase × Stop))) → n ≡ d → given ≡ rows → AreJoinedIn On d query (told_rows d rows)
    → AreJoinedIn On n query (told_rows n given)
joined_as On d n query rows given same are joined =
    subst (λ (x : Description). AreJoinedIn On x query (told_rows x given)) (sym same)
    (subst (λ (l : List (Row (Phase × Stop))). AreJoinedIn On d query (told_rows d l)) (sym are) joined)

-- ---- reports

report : (d : Description) (query : Query) (rows : List (Row (Phase × Stop))) → IsBlocked (stops_of d query) (cuts_of d) query.sides query.max rows → IsReportIn d query (told_rows d rows)
report d query rows is = record {
  report = record {
    are_true = true_told (tell d) (stops_of d query) (meaning_in d query) query.sides rows (tells d query) is.are_true;
    holds_all = whole_told (tell d) query.sides rows is.whole;
  };
  ordered = ordered_told (tell d) query.sides (cuts_of d) rows is.ordered;
}

pub blocked_is : (d : Description) (query : Query) (rows : Vec (Row (Phase × Stop))) → IsAccepted d → IsQueryIn d query
    → query.max ≤ most_rows → IsBlocked (stops_of d query) (cuts_of d) query.sides query.max rows.items → IsReached d query (answers.Blocked rows)
blocked_is d query rows accepted asked listed is =
    (listed, (have-text d query rows.items accepted asked is.are_true, (report d query rows.items is, (is.few, (is.joined, told_are_joined GoesOnEitherWay d query rows.items is.are_true is.joined)))))

part-report : (d : Description) (query : Query) (rows : List (Row (Phase × Stop))) (next : Header) (n : ℕ)
    → IsCellCount d query.sides n → IsMore (goes_on_in query) (stops_of d query) (cuts_of d) query.sides query.max rows next → NoneThrough (stops_of d query) query.sides
    → IsPartReportIn d query (told_rows d rows) next n
part-report d query rows next n cells is none = record {
  are_true = true_told (tell d) (stops_of d query) (meaning_in d query) query.sides rows (tells d query) is.are_true;
  ordered = ordered_told (tell d) query.sides (cuts_of d) rows is.ordered;
  count = length-map rows (told_row d) ∙ is.count;
  next_is = outside_told (tell d) query.sides rows next is.outside;
  begun = begun_told (tell d) next rows is.begun;
  none = none_through_told (tell d) (stops_of d query) (meaning_in d query) query.sides (tells d query) none;
  cells_are = cells;
  many = subst (λ (m : ℕ). query.max < m) (sym cells.count) (is.cells cells.cuts cells.all);
}

pub more_is : (d : Description) (query : Query) (rows : Vec (Row (Phase × Stop))) (next : Header) (n : ℕ) → IsAccepted d → IsQueryIn d query
    → IsCellCount d query.sides n → IsMore (goes_on_in query) (stops_of d query) (cuts_of d) query.sides query.max rows.items next → NoneThrough (stops_of d query) query.sides
    → IsReached d query (answers.More rows next n)
more_is d query rows next n accepted asked cells is none =
    (have-text d query rows.items accepted asked is.are_true, (part-report d query rows.items next n cells is none, (is.joined, told_are_joined (goes_on_in query) d query rows.items is.are_true is.joined)))

-- ---- trees

tree : (d : Description) (query : Query) (nodes : List (Node (Phase × Stop))) → IsGrownTree (stops_of d query) (cuts_of d) query.sides query.max nodes
    → IsTrueReport (stops_of d query) query.sides (leaves_of nodes query.sides) → IsTreeIn d query (told_nodes d nodes)
tree d query nodes is report =
    let leaves = leaves_of nodes query.sides in
    let told = sym (leaves_over-told d nodes (query.sides ∷ [])) in
    record {
      tree = stand_for-told d nodes (query.sides ∷ []) ∙ is.tree;
      report = subst (IsTrueReport (meaning_in d query) query.sides) told (record {
        are_true = true_told (tell d) (stops_of d query) (meaning_in d query) query.sides leaves (tells d query) report.are_true;
        holds_all = whole_told (tell d) query.sides leaves report.holds_all;
      });
      aligned = subst (All (λ (leaf : Row StopText). IsAligned (cuts_of d) leaf.part query.sides)) told
          (All-map (λ (leaf : Row StopText). IsAligned (cuts_of d) leaf.part query.sides) (told_row d) leaves is.aligned);
    }

pub tree_is : (d : Description) (query : Query) (nodes : Vec (Node (Phase × Stop))) → IsAccepted d → IsQueryIn d query → most_rows < query.max
    → IsGrownTree (stops_of d query) (cuts_of d) query.sides query.max nodes.items → IsReached d query (answers.Tree nodes)
tree_is d query nodes accepted asked many is =
    let leaves = leaves_of nodes.items query.sides in
    let report = trees_are_reports (stops_of d query) nodes.items query.sides is.tree asked.sides is.word in
    let few = is.few in
    let count = leaves_are_counted nodes.items query.sides is.tree in
    let told = leaf_count-told d nodes.items in (
      many,
      (
        nodes_have_text d nodes.items query.sides is.tree (have-text d query leaves accepted asked report.are_true),
        (tree d query nodes.items is report, omega (arith, few, count, told)),
      ),
    )

-- of the same network, in a slice
pub nodes_told_as : (d n : Description) (nodes given : List (Node (Phase × Stop))) → n ≡ d → given ≡ nodes → NodesHaveText d nodes → NodesHaveText n given
nodes_told_as d n nodes given same are told = subst (λ (x : Description). NodesHaveText x given) (sym same) (subst (NodesHaveText d) (sym are) told)

pub tree_as : (d n : Description) (query : Query) (nodes given : List (Node (Phase × Stop))) → n ≡ d → given ≡ nodes → IsTreeIn d query (told_nodes d nodes)
    → IsTreeIn n query (told_nodes n given)
tree_as d n query nodes given same are is =
    subst (λ (x : Description). IsTreeIn x query (told_nodes x given)) (sym same)
    (subst (λ (l : List (Node (Phase × Stop))). IsTreeIn d query (told_nodes d l)) (sym are) is)

pub leaves_as : (d n : Description) (query : Query) (nodes given : List (Node (Phase × Stop))) → n ≡ d → given ≡ nodes → leaf_count (told_nodes d nodes) ≤ query.max
    → leaf_count (told_nodes n given) ≤ query.max
leaves_as d n query nodes given same are few =
    subst (λ (x : Description). leaf_count (told_nodes x given) ≤ query.max) (sym same)
    (subst (λ (l : List (Node (Phase × Stop))). leaf_count (told_nodes d l) ≤ query.max) (sym are) few)

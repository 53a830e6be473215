-- The lemmas that longer pages take, from one place.
pub use Rattle.std.proofs.Math.Bool.{and_comm, or-false}
pub use Rattle.std.proofs.Math.Seq.{drop-drop, take-length, take-suc}
pub use Rattle.std.proofs.lemmas.Bool.{and_cases, and_from, and_left, and_parts, and_right, both_ways, cases_Bool, cases_eq, cases_lt, cond-false, cond-true, cond_both, eq-eqb, eqb-false, eqb-true, false_from_ne_true, false≢true, le-leb, le-ltb, leb-true, lt-leb, lt-ltb, ltb-false, ltb-true, ne_eqb, not-false, not-true, not_from_false, not_from_true, or_cases, or_from, or_left, or_parts, or_right}
pub use Rattle.std.proofs.lemmas.Bool.Decides.{nat_tests}
pub use Rattle.std.proofs.lemmas.Cmp.{nat_list_cmp_total, nat_list_eq_equiv}
pub use Rattle.std.proofs.lemmas.Fmt.{length-decimal-le}
pub use Rattle.std.proofs.lemmas.Grind.{common_steps, flat_map-append}
pub use Rattle.std.proofs.lemmas.Iterator.Adapters.{position_from-zero}
pub use Rattle.std.proofs.lemmas.List.{append-nil, drop_all, drop_at, drop_more, get_or-append-add, get_or-drop, get_or-map, get_or-replicate, get_or-take, get_or_append_left, get_or_default, get_or_past, length-append, length-drop, length-map, length-replicate, length-take, length-take-le, map-append, take-append-drop, take-append-le, take-map, take_all, take_more, take_rest}
pub use Rattle.std.proofs.lemmas.List.Elements.{All-append, All-cons, All-contains, All-drop, All-filter, All-from_recursion, All-head, All-map, All-more, All-nil, All-push, All-tail, All-take, All-weaker, AllWithin-more, Contains-append_cases, Contains-append_left, Contains-append_right, Contains-get_or, Contains-push, Contains-push_cases, at_read, filter-append, filter_passes, recursion_from_All}
pub use Rattle.std.proofs.lemmas.List.Folds.{Any-from_list_any, find-append, find_at, list_any-append, list_any-from_Any, list_any_at, list_any_more}
pub use Rattle.std.proofs.lemmas.List.FromFn.{filter_of_map_range_with_len_more, get_or-map-range_with_len, length-map-range_with_len}
pub use Rattle.std.proofs.lemmas.List.Kept.{AllPairs-filter, AllPairs-from_increasing}
pub use Rattle.std.proofs.lemmas.List.Quantifiers.{all_pairs_push}
pub use Rattle.std.proofs.lemmas.List.Sorted.{All-permutation, Contains-permutation, IsPermutation-refl, IsPermutation-sym, length_permutation, list_any-IsPermutation, ranks_by, sorted_far, sum_by-IsPermutation}
pub use Rattle.std.proofs.lemmas.List.Sums.{count_by-le-length, length-filter, sum_by-append, sum_by-cons, sum_by-take-le}
pub use Rattle.std.proofs.lemmas.Map.Keys.{IsDistinct-IsPermutation, IsDistinct-from_apart, IsDistinct-head, IsDistinct-tail, apart_from_distinct}
pub use Rattle.std.proofs.lemmas.Option.{get_or_from_slice_get, none-some, same_Some, slice_get-get_or, slice_get-map, slice_get_past, slice_get_within}
pub use Rattle.std.proofs.lemmas.Slice.Eq.{bytes_eq-Decides}
pub use Rattle.vpc_base.proofs.Bools.{and-fails_early}
pub use Rattle.vpc_base.proofs.Bytes.{bytes_eq-comm, bytes_self, comes-before, same_bytes}
pub use Rattle.vpc_base.proofs.Members.{AllByRecursion-at, Contains-cases, Contains-filter, Contains-flat_map, Contains-here, Contains-later, Contains-map, Contains-none, all_members, filter-member, filter_map-member, find-member, flat_map-member, length-filter-le, list_any-fails, list_any-member, map-member, member-list_any, row-member}
pub use Rattle.vpc_base.proofs.Numbers.{eqb-comm}
pub use Rattle.vpc_base.proofs.Options.{is_some-option_map, none_if, option_map-map, option_map-or, some_if, some_not_none}
pub use Rattle.vpc_base.proofs.Pairs.{AllPairs-joined, AllPairs-map, AllPairs-tail}
pub use Rattle.vpc_base.proofs.Positions.{list_any-position, missing_number, position-at, position-le, position-nowhere, position-there}
pub use Rattle.vpc_base.proofs.Tests.{count_by-push, find-nowhere, list_any-agree, list_any-map, list_any-take-drop, list_any_map}
pub use Rattle.vpc_base.proofs.Zips.{zip_at}

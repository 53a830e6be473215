-- The definitions that longer pages take, from one place.
pub use Rattle.query_words.specs.ChangeQuery.{before_of, change_query_of, change_sourced, changed_end_of, changed_opens, changed_start_of, given_changed_end, given_changed_start, in_either, internet_in_both, named_end}
pub use Rattle.query_words.specs.Ends.{end_at, end_of, end_with, ends_of, far_end_at, far_named, is_service, known, not_both, opens, some_end, start_of}
pub use Rattle.query_words.specs.Pairs.{pairs_of, read_ports, read_side, side_of, some_ports}
pub use Rattle.query_words.specs.Query.{query_of}
pub use Rattle.query_words.specs.ReachQuery.{AreReachPairs, apart, given_end, given_start, reach_pairs_of, read_given_ports, read_given_proto}
pub use Rattle.query_words.specs.Refusal.{◌>>=◌}
pub use Rattle.query_words.specs.Sides.{primary_side, sides_of}
pub use Rattle.query_words.specs.Words.{proto_of, read_as, word_at}

-- The lemmas that longer pages take, from one place.
pub use Rattle.image_tests.proofs.Answering.{answers_more, answers_refused, answers_rule, answers_same, between_itself, side_answers}
pub use Rattle.image_tests.proofs.EdgeCuts.{range_of_rule}
pub use Rattle.image_tests.proofs.Fields.{address_field, address_is_cut, greatest_address}
pub use Rattle.image_tests.proofs.KeyStretches.{stretch-cut}
pub use Rattle.image_tests.proofs.PieceLemmas.{firsts_divide, firsts_on_sides}
pub use Rattle.image_tests.proofs.Stretches.{least-number, low-is-least, number-greatest}
pub use Rattle.image_tests.proofs.Trying.{header_of_rest}

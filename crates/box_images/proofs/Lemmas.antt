-- The lemmas that longer pages take, from one place.
pub use Rattle.box_images.proofs.BodyLemmas.{body_of_itself, body_through}
pub use Rattle.box_images.proofs.ImageLemmas.{valid_over_body}
pub use Rattle.box_images.proofs.LawLemmas.{answers_follow, bodies_are_aligned, cuts_are_inside, images_fit, value_of-le-greatest_of}
pub use Rattle.box_images.proofs.SideLemmas.{number_in_side}
pub use Rattle.box_images.proofs.TranslateLemmas.{range_of_value}

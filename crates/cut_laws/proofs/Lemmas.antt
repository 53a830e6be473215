-- The lemmas that longer pages take, from one place.
pub use Rattle.cut_laws.proofs.Among.{among_through, left_among, none_within, on_sides_among, right_among, row_among}
pub use Rattle.cut_laws.proofs.Places.{addresses_are_standing}
pub use Rattle.cut_laws.proofs.Rows.{fars_are_standing, fixed_are_standing, interfaces_are_standing, places_have_their_cuts, vpcs_are_standing}
pub use Rattle.cut_laws.proofs.Turning.{blocks-divide}

-- The definitions that longer pages take, from one place.
pub use Rattle.listing_check.specs.Answered.{IsListingChecked, IsVerdict, found_status, origins_of}
pub use Rattle.listing_check.specs.Asked.{Asked, IsTrueListing, listed_of}
pub use Rattle.listing_check.specs.Found.{IsFound}
pub use Rattle.listing_check.specs.Looks.{IsLook}
pub use Rattle.listing_check.specs.Passed.{NamesStart}
pub use Rattle.listing_check.specs.Texts.{id_of, outcome_of}
pub use Rattle.listing_check.specs.declared.found.Found.{Found}

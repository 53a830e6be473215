-- The types that the laws speak of, from one place.
pub use Rattle.vpc_model.specs.declared.rows.Acl.{Acl}
pub use Rattle.vpc_model.specs.declared.rows.Appliance.{Appliance}
pub use Rattle.vpc_model.specs.declared.rows.Description.{Description}
pub use Rattle.vpc_model.specs.declared.rows.Far.{Far}
pub use Rattle.vpc_model.specs.declared.rows.Interface.{Interface}
pub use Rattle.vpc_model.specs.declared.rows.Vpc.{Vpc}
pub use Rattle.vpc_model.specs.declared.places.End.{End}
pub use Rattle.vpc_model.specs.declared.places.Place.{Place}

-- The types that the definitions speak of, from one place.
pub use Rattle.prefix_text.specs.Block.{Block}
pub use Rattle.header_boxes.specs.declared.boxes.Box5.{Box5}
pub use Rattle.vpc_model.specs.declared.rows.ApplianceKind.{ApplianceKind}
pub use Rattle.vpc_model.specs.declared.rows.Description.{Description}
pub use Rattle.vpc_model.specs.declared.rows.FarKind.{FarKind}
pub use Rattle.vpc_model.specs.declared.rows.Group.{Group}
pub use Rattle.vpc_model.specs.declared.rows.Permission.{Permission}
pub use Rattle.vpc_model.specs.declared.rows.PrefixList.{PrefixList}
pub use Rattle.vpc_model.specs.declared.rows.Reach.{Reach}
pub use Rattle.vpc_model.specs.declared.rows.Route.{Route}
pub use Rattle.vpc_model.specs.declared.rows.RouteTable.{RouteTable}

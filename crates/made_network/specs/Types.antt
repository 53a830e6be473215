-- The types that the definitions speak of, from one place.
pub use Rattle.vpc_model.specs.declared.rows.Description.{Description}
pub use Rattle.vpc_model.specs.declared.rows.Vpc.{Vpc}
pub use Rattle.vpc_model.specs.declared.rows.Subnet.{Subnet}
pub use Rattle.vpc_model.specs.declared.rows.Interface.{Interface}
pub use Rattle.vpc_model.specs.declared.rows.RouteTable.{RouteTable}
pub use Rattle.vpc_model.specs.declared.rows.Route.{Route}
pub use Rattle.vpc_model.specs.declared.rows.Acl.{Acl}
pub use Rattle.vpc_model.specs.declared.rows.AclRow.{AclRow}
pub use Rattle.vpc_model.specs.declared.rows.Group.{Group}
pub use Rattle.vpc_model.specs.declared.rows.Permission.{Permission}
pub use Rattle.vpc_model.specs.declared.rows.Attachment.{Attachment}
pub use Rattle.vpc_model.specs.declared.rows.Association.{Association}
pub use Rattle.vpc_model.specs.declared.rows.TgwRoute.{TgwRoute}
pub use Rattle.vpc_model.specs.declared.rows.TgwTable.{TgwTable}

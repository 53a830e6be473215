-- The types that specs of bundles name, for short imports.
pub use Rattle.json_fields.specs.declared.fault.FieldFault.{FieldFault}
pub use Rattle.vpc_model.specs.declared.refusals.Refusal.{Refusal}
pub use Rattle.vpc_model.specs.declared.rows.Acl.{Acl}
pub use Rattle.vpc_model.specs.declared.rows.Appliance.{Appliance}
pub use Rattle.vpc_model.specs.declared.rows.Description.{Description}
pub use Rattle.vpc_model.specs.declared.rows.Group.{Group}
pub use Rattle.vpc_model.specs.declared.rows.GroupScope.{GroupScope}
pub use Rattle.read_network.specs.declared.network.NetworkRows.{NetworkRows}
pub use Rattle.read_gateways.specs.declared.outside.OutsideRows.{OutsideRows}
pub use Rattle.read_gateways.specs.declared.reader.GatewayRows.{GatewayRows}
pub use Rattle.read_filters.specs.declared.reader.FilterRows.{FilterRows}

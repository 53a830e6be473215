-- The definitions that longer pages take, from one place.
pub use Rattle.nat_gateway.specs.Parts.{HasAfters, HasBefores, HasCounts, IsKept}
pub use Rattle.nat_gateway.specs.Sent.{flow_of, order_of_sent, same_sent, with_port}
pub use Rattle.nat_gateway.specs.Tables.{AllUsed, AreCounts, ArePorts, AreValues, IsFirst, SameUsed, is_taken_beside, is_used, made_into, value_at}
pub use Rattle.nat_gateway.specs.declared.parts.Afters.{Afters}
pub use Rattle.nat_gateway.specs.declared.parts.Befores.{Befores}
pub use Rattle.nat_gateway.specs.declared.parts.Counts.{Counts}
pub use Rattle.nat_gateway.specs.declared.sent.Sent.{Sent}

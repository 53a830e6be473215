-- The lemmas that longer pages take, from one place.
pub use Rattle.vpc_laws.proofs.Accepting.{accepted_has_all_named, accepted_has_nothing_twice}
pub use Rattle.vpc_laws.proofs.Books.{find-none}
pub use Rattle.vpc_laws.proofs.ByMemory.{IsPlain, by_memory, own_connection-made, place_by}
pub use Rattle.vpc_laws.proofs.Flow.{header_stays, or_else-first, or_else-later, steps_lead_on, taken_by}
pub use Rattle.vpc_laws.proofs.Gateways.{inward_answers_opens}
pub use Rattle.vpc_laws.proofs.Hosting.{hosts_are_assigned_or_delegated}
pub use Rattle.vpc_laws.proofs.Lengths.{accepted_has_short_lists}
pub use Rattle.vpc_laws.proofs.Numbering.{accepted_numbers_are_in_range, accepted_numbers_are_own, ids_are_found, nat_addresses_are_interfaces}
pub use Rattle.vpc_laws.proofs.Passing.{packets_pass_by_groups, rules_are_remembered, taken_by-unrefused}
pub use Rattle.vpc_laws.proofs.Replies.{is_header-some}
pub use Rattle.vpc_laws.proofs.Same.{EniNo-same, ends_are_told_apart, same_dir-true, same_header-true, three}
pub use Rattle.vpc_laws.proofs.Sounding.{IfFound, attachment-found, first_rule-found, is_inner, known-accepted, zone-found}
pub use Rattle.vpc_laws.proofs.Stepping.{walks_are_of_steps}
pub use Rattle.vpc_laws.proofs.Telling.{walks_are_sound}
pub use Rattle.vpc_laws.proofs.Walking.{hop_at}

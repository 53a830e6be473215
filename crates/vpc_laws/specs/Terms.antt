-- The definitions that longer pages take, from one place.
pub use Rattle.vpc_laws.specs.Accepted.{HasAllNamed, HasTarget, IdsHaveNumbers, NumbersAreInRange}
pub use Rattle.vpc_laws.specs.Memory.{Memory, connection, memory_at, nothing, translation}
pub use Rattle.vpc_laws.specs.Onward.{GoesOn, IsDoor, LeadsOn, LiesIn, Refuses, across, asks_acls, door_of, firewall, host, into, is_in_subnet, nat_answered, nat_asked, out_of, past_none, refuser_of}
pub use Rattle.vpc_laws.specs.Rewriting.{ChangesDestination, ChangesSource, ChangesSourceAndPort, HasPair, IfGoes, IsGivenBack, IsToOwn}
pub use Rattle.vpc_laws.specs.Sound.{EndsWell, IsSoundHop, IsTold, LeadsWell}
pub use Rattle.vpc_laws.specs.Step.{AddsOwn, AddsTranslation, AsksGroups, Begins, KeepsFlow, LetsPass, SendsSame, StopsItself, is_of_step, is_rewriting, own_connection, remembered}
pub use Rattle.vpc_laws.specs.Translations.{IsBook, IsTranslation}
pub use Rattle.vpc_laws.specs.Walk.{AddsFew, EndsSo, Follows, IsNext, IsWalk, hop_of, last_moment, places_of, same_door, same_gateway}

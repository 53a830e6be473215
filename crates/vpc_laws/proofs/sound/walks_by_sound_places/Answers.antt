use Rattle.vpc_laws.proofs.Telling.{walks_are_sound}
use Rattle.vpc_laws.proofs.sound.walks_by_sound_places.Goals as goal

pub returns : goal.returns
returns c = walks_are_sound

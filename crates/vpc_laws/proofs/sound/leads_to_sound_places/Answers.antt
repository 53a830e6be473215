use Rattle.vpc_laws.proofs.Sounding.{steps_are_sound}
use Rattle.vpc_laws.proofs.sound.leads_to_sound_places.Goals as goal

pub returns : goal.returns
returns c = steps_are_sound

use Rattle.head_record.proofs.Worlds.{same_start, sound_start}
use Rattle.head_record.proofs.laws.start_of_save.Goals as goal

pub returns-clause-world : goal.returns-clause-world
returns-clause-world c values s places at e = same_start values s places at e

pub returns-clause-sound : goal.returns-clause-sound
returns-clause-sound c values s places at e h = sound_start values s places at e h

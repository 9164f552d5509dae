use Rattle.std.proofs.Common.{refl}
use Rattle.sqlite.proofs.Callers.{memory_is_clean}
use Rattle.scoop_record.proofs.sound.memory_is_sound.Goals as goal

pub returns : goal.returns
returns c store = (memory_is_clean store, refl)

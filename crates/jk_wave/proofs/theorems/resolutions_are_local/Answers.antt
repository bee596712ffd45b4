use Rattle.jk_wave.proofs.Local.{is_local_resolution, is_decided}
use Rattle.jk_wave.proofs.theorems.resolutions_are_local.Goals as goal

pub returns-clause-local : goal.returns-clause-local
returns-clause-local c = is_local_resolution

pub returns-clause-decided : goal.returns-clause-decided
returns-clause-decided c = is_decided

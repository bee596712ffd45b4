use Rattle.jk_wave.proofs.BandPlaces.{keeps_others}
use Rattle.jk_wave.proofs.LevelSamples.{stays_level}
use Rattle.jk_wave.proofs.theorems.levels_stay.Goals as goal

pub returns-clause-others : goal.returns-clause-others
returns-clause-others c = keeps_others

pub returns-clause-level : goal.returns-clause-level
returns-clause-level c = stays_level

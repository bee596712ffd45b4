use Rattle.jk_wave.proofs.Growth.{grows_levels, has_planes, has_width}
use Rattle.jk_wave.proofs.theorems.levels_growth.Goals as goal

pub returns-clause-grows : goal.returns-clause-grows
returns-clause-grows c = grows_levels

pub returns-clause-planes : goal.returns-clause-planes
returns-clause-planes c = has_planes

pub returns-clause-width : goal.returns-clause-width
returns-clause-width c = has_width

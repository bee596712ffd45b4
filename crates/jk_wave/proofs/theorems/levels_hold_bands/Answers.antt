use Rattle.jk_wave.proofs.BandPlaces.{lies_in_level, lies_apart, lies_off_low, has_rows}
use Rattle.jk_wave.proofs.theorems.levels_hold_bands.Goals as goal

pub returns-clause-inside : goal.returns-clause-inside
returns-clause-inside c = lies_in_level

pub returns-clause-apart : goal.returns-clause-apart
returns-clause-apart c = lies_apart

pub returns-clause-off_low : goal.returns-clause-off_low
returns-clause-off_low c = lies_off_low

pub returns-clause-rows : goal.returns-clause-rows
returns-clause-rows c = has_rows

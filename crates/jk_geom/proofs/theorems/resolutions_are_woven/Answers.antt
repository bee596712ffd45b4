use Rattle.jk_geom.proofs.Weaving.{woven, woven_some, woven_one}
use Rattle.jk_geom.proofs.theorems.resolutions_are_woven.Goals as goal

pub returns : goal.returns
returns c = record { same = woven; cover = woven_some; one = woven_one }

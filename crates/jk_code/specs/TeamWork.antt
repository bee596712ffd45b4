-- What workers have to code, and what they coded.
use Rattle.jk_tile.specs.encoding.Ahead.{AreUncoded, IsCodedAhead}
use Rattle.jk_code.specs.declared.coming_with.TeamWork.{TeamWork}

-- What is listed can be coded, and what was coded is what the code-blocks beside it are coded to.
pub record IsTeamWork (w : TeamWork) : Type 0 where
  pub uncoded : AreUncoded w.uncoded
  pub coded : IsCodedAhead w.coded

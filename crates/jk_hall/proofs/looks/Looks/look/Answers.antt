use Rattle.jk_hall.proofs.Steps.{stays}
use Rattle.jk_hall.proofs.looks.Looks.look.Goals as goal

pub enter_as-requires : goal.enter_as-requires
enter_as-requires c x = stays _ _ x

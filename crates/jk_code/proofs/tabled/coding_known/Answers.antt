use Rattle.std.proofs.Common.{refl}
use Rattle.jk_code.proofs.tabled.coding_known.Goals as goal

pub returns-clause-alike : goal.returns-clause-alike
returns-clause-alike c = rw (c.coding_with.ensures, c.requires.coming.coding) refl

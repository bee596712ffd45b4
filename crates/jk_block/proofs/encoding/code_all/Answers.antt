use Rattle.jk_block.proofs.encoding.Slicing.{slices_fit}
use Rattle.jk_block.proofs.encoding.code_all.Goals as goal

pub code_planes-requires-in_default-clause-space : goal.code_planes-requires-in_default-clause-space
code_planes-requires-in_default-clause-space c = slices_fit c.args.shape c.requires.sized

use Rattle.std.proofs.Common.{arith}
use Rattle.jk_store.proofs.opening.fit.Goals as goal

pub returns : goal.returns
returns c = λ k. omega (arith, c.type_inv._bytes k)

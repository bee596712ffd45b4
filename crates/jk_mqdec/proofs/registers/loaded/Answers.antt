use Rattle.std.proofs.Common.{refl, arith}
use Rattle.jk_mqdec.proofs.Doubling.{holds-initial}
use Rattle.jk_mqdec.proofs.registers.loaded.Goals as goal

pub returns-clause-holds : goal.returns-clause-holds
returns-clause-holds c =
    let second = c.fed-second in
    holds-initial c.args.bytes.now _ second.result _ (omega (arith, c.byte.ensures.value)) refl second.ensures.feeds (omega arith) second.ensures.width (omega arith) refl

use Rattle.jk_mqdec.proofs.Deferring.{begins-deferred}
use Rattle.jk_mqdec.proofs.pass_decoder.PassDecoder.new.Goals as goal

pub invariant_of-result : goal.invariant_of-result
invariant_of-result c =
    let d = c.deferred.ensures in
    begins-deferred c.args.bytes.now c.begun.result c.deferred.result c.begun.ensures.steady d.registers d.least d.enough

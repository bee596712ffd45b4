use Rattle.std.proofs.Common.{arith}
use Rattle.jk_mqenc.specs.Deferred.{scale_of}
use Rattle.jk_mqenc.proofs.Deferring.{bits-of, width-wide}
use Rattle.jk_mqenc.proofs.registers.DeferredRegisters.caught_up.Goals as goal

pub overflow_cast-result-4 : goal.overflow_cast-result-4
overflow_cast-result-4 c =
    let s = c.self.inside in
    let most = (width-wide s.width (scale_of s.width) (bits-of s.code s.width s.count s.least c.self.invariant)).1 in
    omega (arith, most)

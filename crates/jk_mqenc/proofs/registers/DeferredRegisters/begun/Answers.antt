use Rattle.std.proofs.Common.{◌≡◌, ◌*◌, ◌/◌, ◌%◌, ◌^◌, arith}
use Rattle.jk_mqenc.specs.declared.registers.Registers.{Registers}
use Rattle.jk_mqenc.proofs.Deferring.{halved, begins}
use Rattle.jk_mqenc.proofs.registers.DeferredRegisters.begun.Goals as goal

pub invariant_of-result : goal.invariant_of-result
invariant_of-result c =
    let q = c.requires in
    let r : Registers = record { code = c.args.code; width = c.args.width / 2 ^ 36; count = c.args.count } in
    let code = q.code in
    let wide = q.wide in
    let fits = q.fits in
    (begins r (r.code * 2 ^ 36 % 2 ^ 64) c.args.width (2 ^ 52 / 2 ^ r.count) (omega (arith, code)) q.whole (halved r.count q.few) (omega (arith, wide)) (omega (arith, fits)) q.some q.few).0

pub returns : goal.returns
returns c =
    let q = c.requires in
    let r : Registers = record { code = c.args.code; width = c.args.width / 2 ^ 36; count = c.args.count } in
    let code = q.code in
    let wide = q.wide in
    let fits = q.fits in
    let code_is : r.code * 2 ^ 36 % 2 ^ 64 ≡ r.code * 2 ^ 36 = omega (arith, code) in
    (begins r (r.code * 2 ^ 36 % 2 ^ 64) c.args.width (2 ^ 52 / 2 ^ r.count) code_is q.whole (halved r.count q.few) (omega (arith, wide)) (omega (arith, fits)) q.some q.few).1

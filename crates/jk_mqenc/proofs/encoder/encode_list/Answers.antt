use Rattle.std.proofs.Common.{subst, sym, refl, arith}
use Rattle.jk_mqenc.specs.Machine.{Machine}
use Rattle.jk_mqenc.specs.Encoded.{with_registers, lasting}
use Rattle.jk_mqenc.proofs.Holdings.{held-bound}
use Rattle.jk_mqenc.proofs.Encoding.{held-of}
use Rattle.jk_mqenc.proofs.Settling.{IsReady, ready-coded}
use Rattle.jk_mqenc.proofs.encoder.encode_list.Goals as goal

pub new-registers-requires : goal.new-registers-requires
new-registers-requires c =
    let r = subst (λ (m : Machine). IsReady m) (sym c.registers.ensures) (ready-coded (lasting c.args.coder.now c.args.contexts.now) (λ _. c.requires.coded) refl) in
    record { code = r.code; wide = r.wide; fits = r.fits; some = r.some; few = r.few }

pub caught_up-requires : goal.caught_up-requires
caught_up-requires c =
    let l = c.loop-byte in
    let done = c.requires.coded in
    let m = with_registers l.coder l.registers in
    let bound = held-bound m (held-of (lasting m l.contexts) (λ _. (done.0, done.1, _, l.invariant done.0 done.1 done.2 done.3)) refl) in
    omega (arith, bound)

use Rattle.std.proofs.Common.{◌∙◌, ap, ◌-◌, ◌^◌, cond, ltb, arith}
use Rattle.jk_mqenc.specs.declared.registers.Registers.{Registers}
use Rattle.jk_mqenc.proofs.Deferring.{wide-digit}
use Rattle.jk_mqenc.proofs.registers.Subinterval.wide.Goals as goal

pub returns : goal.returns
returns c =
    let s = c.self.inside in
    let before = c.self.invariant.scaled.before in
    let few = c.self.invariant.scaled.few in
    wide-digit s.width (s.top - 15) s.top (omega (arith, before, few)) c.self.invariant.fits
    ∙ ap (λ (r : Registers). cond (ltb r.width (2 ^ 15)) 0 1) c.self.view_is

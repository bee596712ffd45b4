use Rattle.std.proofs.Common.{◌∙◌, ap, ◌-◌, ◌*◌, ◌^◌, arith}
use Rattle.jk_mqenc.specs.declared.registers.Registers.{Registers}
use Rattle.jk_mqenc.proofs.Behind.{code-at_byte}
use Rattle.jk_mqenc.proofs.registers.Subinterval.code_at_byte.Goals as goal

pub overflow_cast-result-2 : goal.overflow_cast-result-2
overflow_cast-result-2 c =
    let s = c.self.inside in
    let is = code-at_byte s.code s.width s.count s.least (s.top - 15) c.self.invariant ∙ ap (λ (r : Registers). r.code * 2 ^ r.count) c.self.view_is in
    let fits = c.requires in
    omega (arith, is, fits)

pub returns : goal.returns
returns c =
    let s = c.self.inside in
    code-at_byte s.code s.width s.count s.least (s.top - 15) c.self.invariant ∙ ap (λ (r : Registers). r.code * 2 ^ r.count) c.self.view_is

use Rattle.std.proofs.Common.{sym, subst, ◌+◌, ◌-◌, ◌*◌, ◌^◌, ◌<◌, ◌≤◌}
use Rattle.std.specs.Int.Count.{count_leading_zeros}
use Rattle.jk_mqenc.specs.declared.registers.Registers.{Registers}
use Rattle.jk_mqenc.proofs.Behind.{behind}
use Rattle.jk_mqenc.proofs.registers.Subinterval.doublings_behind_byte.Goals as goal

pub overflow_sub-result : goal.overflow_sub-result
overflow_sub-result c =
    let s = c.self.inside in
    (behind s.code s.width s.count s.least (s.top - 15) c.self.invariant (subst (λ (r : Registers). r.width * 2 ^ r.count < 2 ^ 16) (sym c.self.view_is) c.requires)).most

pub overflow_sub-result-2 : goal.overflow_sub-result-2
overflow_sub-result-2 c =
    let s = c.self.inside in
    (behind s.code s.width s.count s.least (s.top - 15) c.self.invariant (subst (λ (r : Registers). r.width * 2 ^ r.count < 2 ^ 16) (sym c.self.view_is) c.requires)).more

pub returns-clause-fits : goal.returns-clause-fits
returns-clause-fits c =
    let s = c.self.inside in
    subst (λ (r : Registers). r.width * 2 ^ (r.count + (count_leading_zeros 64 s.width - 12 - s.count)) < 2 ^ 16) c.self.view_is
    (behind s.code s.width s.count s.least (s.top - 15) c.self.invariant (subst (λ (r : Registers). r.width * 2 ^ r.count < 2 ^ 16) (sym c.self.view_is) c.requires)).brings.fits

pub returns-clause-wide : goal.returns-clause-wide
returns-clause-wide c =
    let s = c.self.inside in
    subst (λ (r : Registers). 2 ^ 15 ≤ r.width * 2 ^ (r.count + (count_leading_zeros 64 s.width - 12 - s.count))) c.self.view_is
    (behind s.code s.width s.count s.least (s.top - 15) c.self.invariant (subst (λ (r : Registers). r.width * 2 ^ r.count < 2 ^ 16) (sym c.self.view_is) c.requires)).brings.wide

use Rattle.std.proofs.Common.{subst, ◌-◌, ◌*◌, ◌^◌, ◌<◌, arith}
use Rattle.jk_mqenc.specs.declared.registers.Registers.{Registers}
use Rattle.jk_mqenc.specs.Deferred.{registers_at, scale_of, IsDoubled}
use Rattle.jk_mqenc.proofs.Deferring.{is-due, puts-off}
use Rattle.jk_mqenc.proofs.registers.Subinterval.deferred.Goals as goal

pub returns-then-self-clause-due : goal.returns-then-self-clause-due
returns-then-self-clause-due c = λ e.
    let s = c.self.inside in
    subst (λ (r : Registers). r.width * 2 ^ r.count < 2 ^ 16) c.self.view_is (is-due s.code s.width s.count s.least (s.top - 15) c.self.invariant c.if-self.true)

pub invariant_of-result : goal.invariant_of-result
invariant_of-result c =
    let s = c.self.inside in
    (puts-off s.code s.width s.count s.least (s.top - 15) (omega arith) c.self.invariant c.if-self.false).deferred

pub returns-clause-doubled : goal.returns-clause-doubled
returns-clause-doubled c =
    let s = c.self.inside in
    subst (λ (r : Registers). IsDoubled r (registers_at (scale_of s.width) s.code s.width s.count)) c.self.view_is
    (puts-off s.code s.width s.count s.least (s.top - 15) (omega arith) c.self.invariant c.if-self.false).doubled

use Rattle.std.proofs.Common.{◌≡◌, ◌∙◌, ap, sym, subst, ◌-◌, ◌*◌, ◌/◌, ◌%◌, ◌^◌, arith}
use Rattle.std.specs.Int.Count.{count_leading_zeros}
use Rattle.jk_mqenc.specs.declared.registers.Registers.{Registers}
use Rattle.jk_mqenc.proofs.Behind.{Brings, whole-width, width-is}
use Rattle.jk_mqenc.proofs.registers.Subinterval.renormalised.Goals as goal

pub overflow_sub-self-inside : goal.overflow_sub-self-inside
overflow_sub-self-inside c =
    let s = c.self.inside in
    (whole-width s.code s.width s.count s.least (s.top - 15) c.self.invariant).most

pub begun-requires-clause-whole : goal.begun-requires-clause-whole
begun-requires-clause-whole c =
    let s = c.self.inside in
    (whole-width s.code s.width s.count s.least (s.top - 15) c.self.invariant).whole

pub begun-requires-clause-wide : goal.begun-requires-clause-wide
begun-requires-clause-wide c =
    let s = c.self.inside in
    (whole-width s.code s.width s.count s.least (s.top - 15) c.self.invariant).wide

pub begun-requires-clause-fits : goal.begun-requires-clause-fits
begun-requires-clause-fits c =
    let s = c.self.inside in
    (whole-width s.code s.width s.count s.least (s.top - 15) c.self.invariant).fits

pub returns : goal.returns
returns c = λ times fits wide.
    let s = c.self.inside in
    let e = s.top - 15 in
    let width_is = ap (λ (r : Registers). r.width) c.self.view_is in
    let brings : Brings (s.width / 2 ^ e) times = subst (λ x. Brings x times) (sym width_is) (record { fits = fits; wide = wide }) in
    let is = width-is s.code s.width s.count s.least e times c.self.invariant brings in
    let same : s.width * 2 ^ (count_leading_zeros 64 s.width - 12) % 2 ^ 64 / 2 ^ 36 ≡ s.width / 2 ^ e * 2 ^ times = omega (arith, is) in
    c.begun.ensures ∙ ap (λ x. let r : Registers = record { code = c.args.code; width = x; count = c.args.count } in r) (same ∙ ap (λ x. x * 2 ^ times) width_is)

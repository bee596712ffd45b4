use Rattle.std.proofs.Common.{◌≡◌, ◌∙◌, ap, sym, subst, ◌+◌, ◌-◌, ◌/◌, ◌^◌, ◌<◌, not, cond, ltb, arith}
use Rattle.std.specs.Bool.{beq}
use Rattle.std.proofs.lemmas.Nat.{shl-shr}
use Rattle.jk_model.specs.Contexts.{row_of}
use Rattle.jk_mqenc.specs.declared.registers.Registers.{Registers}
use Rattle.jk_mqenc.specs.Deferred.{registers_at}
use Rattle.jk_mqenc.proofs.Deferring.{some-width, top-large, whole, size-below, decision, sum-fits, less-narrow}
use Rattle.jk_mqenc.proofs.registers.DeferredRegisters.taken.Goals as goal

pub highest_bit-top-requires : goal.highest_bit-top-requires
highest_bit-top-requires c = let s = c.self.inside in some-width s.code s.width s.count s.least c.self.invariant

pub scaled-size-requires-clause-least : goal.scaled-size-requires-clause-least
scaled-size-requires-clause-least c =
    let s = c.self.inside in
    top-large s.code s.width s.count s.least c.highest_bit-top.result c.self.invariant c.highest_bit-top.ensures.place

pub overflow_sub-upper : goal.overflow_sub-upper
overflow_sub-upper c =
    let s = c.self.inside in
    let e = c.highest_bit-top.result - 15 in
    let q = (row_of c.args.context.state).qe in
    let size = c.scaled-size.ensures in
    let w = whole s.code s.width s.count s.least q c.scaled-size.result c.highest_bit-top.result c.self.invariant c.highest_bit-top.ensures.place size.value size.smallest size.below in
    size-below s.code s.width s.count s.least e q c.scaled-size.result w size.value

pub overflow_add-result : goal.overflow_add-result
overflow_add-result c =
    let s = c.self.inside in
    let e = c.highest_bit-top.result - 15 in
    let q = (row_of c.args.context.state).qe in
    let size = c.scaled-size.ensures in
    let w = whole s.code s.width s.count s.least q c.scaled-size.result c.highest_bit-top.result c.self.invariant c.highest_bit-top.ensures.place size.value size.smallest size.below in
    let sum = sum-fits s.code s.width s.count s.least e q c.scaled-size.result c.kept.result c.args.less c.args.self w size.value c.self.view_is c.requires c.kept.ensures in
    omega (arith, sum)

pub invariant_of-result : goal.invariant_of-result
invariant_of-result c =
    let s = c.self.inside in
    let e = c.highest_bit-top.result - 15 in
    let q = (row_of c.args.context.state).qe in
    let size = c.scaled-size.ensures in
    let w = whole s.code s.width s.count s.least q c.scaled-size.result c.highest_bit-top.result c.self.invariant c.highest_bit-top.ensures.place size.value size.smallest size.below in
    (decision s.code s.width s.count s.least e q c.scaled-size.result c.kept.result c.chosen.result c.args.less w size.value c.kept.ensures c.chosen.ensures).taken

pub returns-clause-code : goal.returns-clause-code
returns-clause-code c =
    let s = c.self.inside in
    let e = c.highest_bit-top.result - 15 in
    let q = (row_of c.args.context.state).qe in
    let size = c.scaled-size.ensures in
    let w = whole s.code s.width s.count s.least q c.scaled-size.result c.highest_bit-top.result c.self.invariant c.highest_bit-top.ensures.place size.value size.smallest size.below in
    let d = decision s.code s.width s.count s.least e q c.scaled-size.result c.kept.result c.chosen.result c.args.less w size.value c.kept.ensures c.chosen.ensures in
    let seen : registers_at e s.code s.width s.count ≡ c.args.self = ap (λ x. registers_at x s.code s.width s.count) (sym w.same) ∙ c.self.view_is in
    subst (λ (r : Registers). (s.code + c.kept.result) / 2 ^ e ≡ r.code + cond (not (beq c.args.less (ltb (r.width - q) q))) 0 q) seen
    (ap (λ x. x / 2 ^ e) d.code_is ∙ shl-shr (s.code / 2 ^ e + cond (not (beq c.args.less (ltb (s.width / 2 ^ e - q) q))) 0 q) e)

pub returns-clause-width : goal.returns-clause-width
returns-clause-width c =
    let s = c.self.inside in
    let e = c.highest_bit-top.result - 15 in
    let q = (row_of c.args.context.state).qe in
    let size = c.scaled-size.ensures in
    let w = whole s.code s.width s.count s.least q c.scaled-size.result c.highest_bit-top.result c.self.invariant c.highest_bit-top.ensures.place size.value size.smallest size.below in
    let d = decision s.code s.width s.count s.least e q c.scaled-size.result c.kept.result c.chosen.result c.args.less w size.value c.kept.ensures c.chosen.ensures in
    let seen : registers_at e s.code s.width s.count ≡ c.args.self = ap (λ x. registers_at x s.code s.width s.count) (sym w.same) ∙ c.self.view_is in
    subst (λ (r : Registers). c.chosen.result / 2 ^ e ≡ cond (not (beq c.args.less (ltb (r.width - q) q))) q (r.width - q)) seen
    (ap (λ x. x / 2 ^ e) d.width_is ∙ shl-shr (cond (not (beq c.args.less (ltb (s.width / 2 ^ e - q) q))) q (s.width / 2 ^ e - q)) e)

pub returns-clause-narrow : goal.returns-clause-narrow
returns-clause-narrow c = λ is_less.
    let s = c.self.inside in
    let e = c.highest_bit-top.result - 15 in
    let q = (row_of c.args.context.state).qe in
    let size = c.scaled-size.ensures in
    let w = whole s.code s.width s.count s.least q c.scaled-size.result c.highest_bit-top.result c.self.invariant c.highest_bit-top.ensures.place size.value size.smallest size.below in
    let d = decision s.code s.width s.count s.least e q c.scaled-size.result c.kept.result c.chosen.result c.args.less w size.value c.kept.ensures c.chosen.ensures in
    let a = s.width / 2 ^ e in
    subst (λ x. x < 2 ^ 15) (sym (ap (λ x. x / 2 ^ e) d.width_is ∙ shl-shr (cond (not (beq c.args.less (ltb (a - q) q))) q (a - q)) e)) (less-narrow a q c.args.less w.half is_less)

pub returns-clause-smallest : goal.returns-clause-smallest
returns-clause-smallest c =
    let s = c.self.inside in
    let q = (row_of c.args.context.state).qe in
    let size = c.scaled-size.ensures in
    (whole s.code s.width s.count s.least q c.scaled-size.result c.highest_bit-top.result c.self.invariant c.highest_bit-top.ensures.place size.value size.smallest size.below).some

pub returns-clause-largest : goal.returns-clause-largest
returns-clause-largest c =
    let s = c.self.inside in
    let e = c.highest_bit-top.result - 15 in
    let q = (row_of c.args.context.state).qe in
    let size = c.scaled-size.ensures in
    let w = whole s.code s.width s.count s.least q c.scaled-size.result c.highest_bit-top.result c.self.invariant c.highest_bit-top.ensures.place size.value size.smallest size.below in
    let seen : registers_at e s.code s.width s.count ≡ c.args.self = ap (λ x. registers_at x s.code s.width s.count) (sym w.same) ∙ c.self.view_is in
    let wide = w.wide in
    let half = w.half in
    subst (λ (r : Registers). q < r.width) seen (omega (arith, wide, half))

use Rattle.std.proofs.Common.{◌≡◌, ℕ, ◌+◌, ◌*◌, ◌-◌, ◌/◌, ◌%◌, ◌∙◌, length, sym, subst, arith, rules, w32, to_z, of_z}
use mir.Val.{SFits}
use Rattle.jk_lift.proofs.Places.{read_below, passed_is}
use Rattle.jk_lift.proofs.Analysis.{IsAnalysed, IsAnalysed-none, IsAnalysed-more, IsAnalysed-eight, AnalysesLine-pair, AnalysesLine-even}
use Rattle.jk_lift.proofs.line.analyse_long.Goals as goal

pub loop-eight-init : goal.loop-eight-init
loop-eight-init c =
    let same = passed_is c.first_coefficient-before.result c.first_coefficient-before.ensures.within in
    rw same (IsAnalysed-none c.args.start c.args.line.now _ _ c.first_coefficient-before.result c.requires.long c.first_coefficient-before.ensures.value
    c.first_coefficient-before.ensures.within c.first_coefficient-before.ensures.written)

pub loop-eight-preserved : goal.loop-eight-preserved
loop-eight-preserved c =
    let line = c.args.line.now in
    let k : ℕ = 8 * c.loop-eight.eight in
    let next : k + 8 ≡ 8 * (c.loop-eight.eight + 1) = omega arith in
    let made = c.analyse_eight-before in
    let whole = IsAnalysed-eight c.args.start k line c.loop-eight.low made.new.low c.loop-eight.high made.new.high (to_z w32 c.loop-eight.before-bits) c.loop-eight.invariant c.requires.small (omega arith)
    made.ensures.coefficients in
    let same = passed_is made.result (rw made.ensures.last whole.within) ∙ made.ensures.last in
    subst (λ n. IsAnalysed c.args.start n line made.new.low made.new.high (to_z w32 (of_z w32 made.result))) next
    (subst (IsAnalysed c.args.start (k + 8) line made.new.low made.new.high) (sym same) whole)

pub low_pass-requires-clause-after : goal.low_pass-requires-clause-after
low_pass-requires-clause-after c =
    let small = read_below c.args.line.now c.requires.small in
    let near = c.high_pass-next.ensures.within (small _) (small _) in
    rw (passed_is _ near) near

pub loop-k-preserved : goal.loop-k-preserved
loop-k-preserved c =
    let small = read_below c.args.line.now c.requires.small in
    let near = c.high_pass-next.ensures.within (small _) (small _) in
    let fits : SFits w32 c.low_pass.result = search rules in
    IsAnalysed-more c.args.start c.loop-k.k c.args.line.now c.loop-k.low c.loop-k.high _ _ _ c.loop-k.invariant c.requires.small
    (omega arith) (omega arith) (omega arith) c.high_pass-next.ensures.value near c.low_pass.ensures.value fits

pub low_pass-requires-then-even-line-clause-after : goal.low_pass-requires-then-even-line-clause-after
low_pass-requires-then-even-line-clause-after c =
    let small = read_below c.args.line.now c.requires.small in
    let near = c.high_pass-next-then-even-line.ensures.within (small _) (small _) in
    rw (passed_is _ near) near

pub returns-then-even-line : goal.returns-then-even-line
returns-then-even-line c =
    let line = c.args.line.now in
    let small = read_below line c.requires.small in
    let near = c.high_pass-next-then-even-line.ensures.within (small _) (small _) in
    let fits : SFits w32 c.low_pass-then-even-line.result = search rules in
    let whole : ℕ = (length line - 1 - c.args.start % 2) / 2 in
    let so_far = subst (λ k. IsAnalysed c.args.start k line c.loop-k.low c.loop-k.high (to_z w32 c.loop-k.before-bits)) (let e : c.loop-k.k ≡ whole = omega arith in e) c.loop-k.invariant in
    AnalysesLine-pair c.args.start whole line c.loop-k.low c.loop-k.high _ _ _ so_far c.requires.small
    (omega arith) (omega arith) (omega arith) c.requires.long c.high_pass-next-then-even-line.ensures.value near c.low_pass-then-even-line.ensures.value fits

pub returns-else-even-line : goal.returns-else-even-line
returns-else-even-line c =
    let line = c.args.line.now in
    let fits : SFits w32 c.low_pass-else-even-line.result = search rules in
    let whole : ℕ = (length line - 1 - c.args.start % 2) / 2 in
    let so_far = subst (λ k. IsAnalysed c.args.start k line c.loop-k.low c.loop-k.high (to_z w32 c.loop-k.before-bits)) (let e : c.loop-k.k ≡ whole = omega arith in e) c.loop-k.invariant in
    AnalysesLine-even c.args.start whole line c.loop-k.low c.loop-k.high _ _ so_far c.requires.small
    (omega arith) (omega arith) (omega arith) c.requires.long c.low_pass-else-even-line.ensures.value fits

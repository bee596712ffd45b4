use Rattle.std.proofs.Common.{◌≡◌, ℕ, ◌+◌, ◌*◌, ◌-◌, ◌/◌, ◌%◌, ◌∙◌, length, sym, subst, arith, rules, w32, to_z, of_z}
use mir.Val.{SFits}
use Rattle.jk_lift.proofs.Places.{read_below, passed_is}
use Rattle.jk_lift.proofs.Synthesis.{IsSynthesised, IsSynthesised-none, IsSynthesised-more, IsSynthesised-eight, SynthesisesLine-pair, SynthesisesLine-odd}
use Rattle.jk_lift.proofs.line.synthesise_long.Goals as goal

pub loop-eight-init : goal.loop-eight-init
loop-eight-init c =
    let same = passed_is c.first_sample-before.result c.first_sample-before.ensures.within in
    rw same (IsSynthesised-none c.args.start (length c.args.line.now) c.args.low.now c.args.high.now _ c.first_sample-before.result c.requires.long
    c.first_sample-before.ensures.value c.first_sample-before.ensures.within c.first_sample-before.ensures.written)

pub loop-eight-preserved : goal.loop-eight-preserved
loop-eight-preserved c =
    let n = length c.args.line.now in
    let low = c.args.low.now in
    let high = c.args.high.now in
    let k : ℕ = 8 * c.loop-eight.eight in
    let next : k + 8 ≡ 8 * (c.loop-eight.eight + 1) = omega arith in
    let made = c.synthesise_eight-before in
    let whole = IsSynthesised-eight c.args.start n k low high c.loop-eight.line made.new.line (to_z w32 c.loop-eight.before-bits) c.loop-eight.invariant c.requires.small_low c.requires.small_high (omega arith)
    made.ensures.samples in
    let same = passed_is made.result (rw made.ensures.last whole.within) ∙ made.ensures.last in
    subst (λ m. IsSynthesised c.args.start n m low high made.new.line (to_z w32 (of_z w32 made.result))) next
    (subst (IsSynthesised c.args.start n (k + 8) low high made.new.line) (sym same) whole)

pub odd_sample-requires-clause-after : goal.odd_sample-requires-clause-after
odd_sample-requires-clause-after c =
    let small = read_below c.args.high.now c.requires.small_high in
    let near = c.even_sample-next.ensures.within (small _) (small _) in
    rw (passed_is _ near) near

pub loop-k-preserved : goal.loop-k-preserved
loop-k-preserved c =
    let small = read_below c.args.high.now c.requires.small_high in
    let near = c.even_sample-next.ensures.within (small _) (small _) in
    let fits : SFits w32 c.odd_sample.result = search rules in
    IsSynthesised-more c.args.start (length c.args.line.now) c.loop-k.k c.args.low.now c.args.high.now c.loop-k.line _ _ _ c.loop-k.invariant
    c.requires.small_low c.requires.small_high (omega arith) (omega arith) c.even_sample-next.ensures.value near c.odd_sample.ensures.value fits

pub odd_sample-requires-then-odd-line-clause-after : goal.odd_sample-requires-then-odd-line-clause-after
odd_sample-requires-then-odd-line-clause-after c =
    let small = read_below c.args.high.now c.requires.small_high in
    let near = c.even_sample-next-then-odd-line.ensures.within (small _) (small _) in
    rw (passed_is _ near) near

pub returns-then-odd-line : goal.returns-then-odd-line
returns-then-odd-line c =
    let n = length c.args.line.now in
    let low = c.args.low.now in
    let high = c.args.high.now in
    let small = read_below high c.requires.small_high in
    let near = c.even_sample-next-then-odd-line.ensures.within (small _) (small _) in
    let fits : SFits w32 c.odd_sample-then-odd-line.result = search rules in
    let whole : ℕ = (length c.first_sample-before.new.line - 1 - (1 - c.args.start % 2)) / 2 in
    let so_far = subst (λ k. IsSynthesised c.args.start n k low high c.loop-k.line (to_z w32 c.loop-k.before-bits)) (let e : c.loop-k.k ≡ whole = omega arith in e) c.loop-k.invariant in
    SynthesisesLine-pair c.args.start n whole low high c.loop-k.line _ _ _ so_far c.requires.small_low c.requires.small_high
    (omega arith) (omega arith) c.even_sample-next-then-odd-line.ensures.value near c.odd_sample-then-odd-line.ensures.value fits

pub returns-else-odd-line : goal.returns-else-odd-line
returns-else-odd-line c =
    let n = length c.args.line.now in
    let low = c.args.low.now in
    let high = c.args.high.now in
    let fits : SFits w32 c.odd_sample-else-odd-line.result = search rules in
    let whole : ℕ = (length c.first_sample-before.new.line - 1 - (1 - c.args.start % 2)) / 2 in
    let so_far = subst (λ k. IsSynthesised c.args.start n k low high c.loop-k.line (to_z w32 c.loop-k.before-bits)) (let e : c.loop-k.k ≡ whole = omega arith in e) c.loop-k.invariant in
    SynthesisesLine-odd c.args.start n whole low high c.loop-k.line _ _ so_far c.requires.small_low c.requires.small_high
    (omega arith) c.requires.long (omega arith) c.odd_sample-else-odd-line.ensures.value fits

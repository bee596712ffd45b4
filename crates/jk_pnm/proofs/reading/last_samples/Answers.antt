use Rattle.std.proofs.Common.{◌≡◌, ◌+◌, ◌<◌, ℕ, pos, to_z, w32, refl, sym, ap, subst, ◌∙◌, arith}
use Rattle.std.specs.Global.{Vec}
use Rattle.std.proofs.lemmas.Int.{to_z_pos}
use Rattle.jk_pnm.proofs.Tails.{IsReadBack, back_starts, back_more, back_all, back_left}
use Rattle.jk_pnm.proofs.reading.last_samples.Goals as goal
use Rattle.jk_pnm.proofs.reading.last_samples.Goals.{else-loop-test, then-loop-test+in_default, then-len-eq0, else-len-eq0}

pub loop-init : goal.loop-init
loop-init c = back_starts c.args.bytes.items c.args.bytes.items c.in_ok-samples.samples.items refl c.in_ok-samples.ensures.items

pub loop-preserved : goal.loop-preserved
loop-preserved c =
    let left : c.if-len-eq0.left.items ≡ c.pop.new.self.items = elim c.if-len-eq0.branch [
      | then-len-eq0 w ↦ ap (λ (v : Vec ℕ). v.items) w.left-is ∙ w.shrink_to_fit.ensures.items
      | else-len-eq0 w ↦ ap (λ (v : Vec ℕ). v.items) w.left-is
    ] in
    let small : c.in-Some.byte < 256 = omega arith in
    let value : to_z w32 c.in-Some.byte ≡ pos c.in-Some.byte = to_z_pos w32 c.in-Some.byte (omega (arith, small)) in
    subst (λ left. IsReadBack c.args.bytes.items left c.push.new.self.items (c.loop.counter + 1)) (sym left)
    (back_more c.args.bytes.items c.loop.left.items c.pop.new.self.items c.loop.samples.items c.push.new.self.items c.loop.counter c.in-Some.byte (to_z w32 c.in-Some.byte) c.loop.invariant
    c.in-Some.ensures.items c.in_ok-push.ensures.items value)

pub returns-clause-value : goal.returns-clause-value
returns-clause-value c =
    let whole = back_left c.args.bytes.items c.loop.left.items c.loop.samples.items c.loop.counter c.loop.invariant in
    let room = c.requires in
    let all : c.loop.counter ≡ c.args.count = elim c.loop-test.branch [
      | else-loop-test v ↦ omega (arith, v.loop-test.false)
      | then-loop-test+in_default v ↦ omega (arith, v.loop-test.true, v.in_default.ensures.cases.0, whole, room)
    ] in
    c.reverse.ensures.items ∙ back_all c.args.bytes.items c.loop.left.items c.loop.samples.items c.loop.counter c.args.count c.loop.invariant all

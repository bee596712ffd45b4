use Rattle.std.proofs.Common.{◌≡◌, suc, ◌+◌, ◌-◌, ◌*◌, ◌^◌, ◌<◌, Bool, true, false, sym, ap, ◌∙◌, subst, arith}
use Rattle.std.proofs.Math.Nat.{pow-suc}
use Rattle.std.proofs.lemmas.Result.{err_from_is_err_and}
use Rattle.jk_packet.specs.Reading.{digit, number_at}
use Rattle.jk_packet.proofs.ReadLaws.{number_next, number_err, number_end}
use Rattle.jk_packet.proofs.words.read_number.Goals as goal

digit_less : (bit : Bool) → digit bit < 2
digit_less true = omega arith
digit_less false = omega arith

pub returns-in_err-bit-clause-exact : goal.returns-in_err-bit-clause-exact
returns-in_err-bit-clause-exact c =
    let i = c.loop.counter in
    let p = err_from_is_err_and c.from_residual.result c.from_residual.ensures.1 in
    let more : c.args.count - i ≡ suc (c.args.count - (i + 1)) = (let t = c.loop-test.true in omega (arith, t)) in
    rw (p.1, p.2) (sym c.loop.invariant.told ∙ ap (λ k. number_at k c.loop.value c.loop.reader) more
    ∙ number_err (c.args.count - (i + 1)) c.loop.value c.loop.reader c.in_err-bit.field-0.0 c.in_err-bit.ensures.exact)

pub loop-preserved : goal.loop-preserved
loop-preserved c =
    let i = c.loop.counter in
    let more : c.args.count - i ≡ suc (c.args.count - (i + 1)) = (let t = c.loop-test.true in omega (arith, t)) in
    let up : 2 ^ (i + 1) ≡ 2 ^ i * 2 = ap (λ k. 2 ^ k) (let e : i + 1 ≡ suc i = omega arith in e) ∙ pow-suc 2 i in
    let d : c.digit.result < 2 = subst (λ n. n < 2) (sym c.digit.ensures) (digit_less c.in_ok-bit.bit) in
    let low = c.loop.invariant.fits in
    record {
      within = (let t = c.loop-test.true in omega (arith, t));
      fits = omega (arith, up, d, low);
      told =
          ap (λ n. number_at (c.args.count - (i + 1)) (c.loop.value * 2 + n) c.bit.new.self) c.digit.ensures
          ∙ sym (sym c.loop.invariant.told ∙ ap (λ k. number_at k c.loop.value c.loop.reader) more
          ∙ number_next (c.args.count - (i + 1)) c.loop.value c.loop.reader (c.in_ok-bit.bit, c.bit.new.self) c.in_ok-bit.ensures.exact);
    }

pub returns-clause-exact : goal.returns-clause-exact
returns-clause-exact c =
    let i = c.loop.counter in
    let none : c.args.count - i ≡ 0 = (let t = c.loop-test.false in omega (arith, t)) in
    sym c.loop.invariant.told ∙ ap (λ k. number_at k c.loop.value c.loop.reader) none ∙ number_end c.loop.value c.loop.reader

use Rattle.std.proofs.Common.{◌≡◌, ◌+◌, ◌*◌, ◌^◌, ◌<◌, true, ◌&&◌, length, get_or, sym, ap, ◌∙◌, arith, true≢false}
use Rattle.std.proofs.lemmas.List.Folds.{list_all_more}
use Rattle.std.specs.Char.{is_ascii_digit, digit_value}
use Rattle.jk_beside.proofs.Digits.{value_more, value_front}
use Rattle.jk_beside.proofs.words.digits_behind.Goals as goal

pub loop-byte-preserved : goal.loop-byte-preserved
loop-byte-preserved c =
    let ds = c.args.digits.now in
    let i = c.loop-byte.byte-index in
    let inside : i < length ds = omega arith in
    let digit : is_ascii_digit (get_or ds i 0) ≡ true = sym c.is_ascii_digit.ensures.value ∙ c.if-not-is_ascii_digit.false in
    let before = c.loop-byte.invariant.digits in
    record {
      number = c.in_ok-number.ensures.value ∙ ap (λ n. n * 10 + digit_value (get_or ds i 0)) c.loop-byte.invariant.number ∙ sym (value_more c.args.before ds i inside);
      digits = list_all_more is_ascii_digit ds i 0 inside ∙ (λ k. before k && digit k);
    }

pub returns-in_err-number-clause-some : goal.returns-in_err-number-clause-some
returns-in_err-number-clause-some c = λ all low.
    let ds = c.args.digits.now in
    let i = c.loop-byte.byte-index in
    let inside : i < length ds = omega arith in
    let next = ap (λ n. n * 10 + digit_value (get_or ds i 0)) c.loop-byte.invariant.number ∙ sym (value_more c.args.before ds i inside) in
    let small : c.loop-byte.number * 10 + digit_value (get_or ds i 0) < 2 ^ 32 = omega (arith, next, value_front c.args.before ds (i + 1), low) in
    absurd (true≢false (sym (c.in_err-number.ensures.some small)))

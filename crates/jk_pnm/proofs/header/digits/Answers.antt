use Rattle.std.proofs.Common.{◌≡◌, ◌-◌, ◌<◌, length, take, drop, get_or, true, false, ℕ, List, rules, sym, ap, ◌∙◌, arith}
use Rattle.std.proofs.lemmas.List.{take_all, length-drop}
use Rattle.std.specs.Char.{is_ascii_digit}
use Rattle.jk_pnm.specs.Reading.{digits_at}
use Rattle.jk_pnm.proofs.HeaderSteps.{digits_more, digits_stop, digits_past, digits_end}
use Rattle.jk_pnm.proofs.header.digits.Goals as goal
use Rattle.jk_pnm.proofs.header.digits.Goals.{then-loop-at-test+then-is_ascii_digit+else-value, then-loop-at-test+else-is_ascii_digit, else-loop-at-test}

pub loop-at-preserved : goal.loop-at-preserved
loop-at-preserved c =
    let bytes = c.args.bytes.now in
    let digit : is_ascii_digit (get_or bytes c.loop-at.at 0) ≡ true = search rules in
    let byte : get_or bytes c.loop-at.at 0 < 256 = omega (arith, c.type_inv.bytes c.loop-at.at) in
    record {
      within = omega arith;
      small = omega arith;
      goes_on = sym (digits_more bytes c.loop-at.at c.loop-at.value c.loop-at-test.true digit (omega arith)) ∙ c.loop-at.invariant.goes_on;
    }

pub returns : goal.returns
returns c =
    let bytes = c.args.bytes.now in
    let i = c.loop-at.at in
    let n = c.loop-at.value in
    let whole : take (length bytes - i) (drop i bytes) ≡ drop i bytes = take_all (length bytes - i) (drop i bytes) (omega (arith, length-drop i bytes)) in
    let stops : digits_at n (drop i bytes) ≡ (n, drop i bytes) = elim c.loop-at-test.branch [
      | then-loop-at-test+then-is_ascii_digit+else-value w ↦ digits_past bytes i n w.loop-at-test.true (omega arith)
      | then-loop-at-test+else-is_ascii_digit w ↦
          let digit : is_ascii_digit (get_or bytes i 0) ≡ false = search rules in digits_stop bytes i n w.loop-at-test.true digit
      | else-loop-at-test w ↦ digits_end bytes i n (omega arith)
    ] in
    record { value = ap (λ (r : List ℕ). let p : ℕ × List ℕ = (n, r) in p) whole ∙ sym stops ∙ c.loop-at.invariant.goes_on }

use Rattle.std.proofs.Common.{ℕ, List, length, sym, ap, ◌∙◌, arith}
use Rattle.std.proofs.lemmas.Bool.{eqb-false}
use Rattle.jk_pnm.proofs.JudgingLaws.{field_is, field_without_gap, field_past, field_zero}
use Rattle.jk_pnm.proofs.judging.number.Goals as goal

pub returns-then-rest-bytes-clause-never : goal.returns-then-rest-bytes-clause-never
returns-then-rest-bytes-clause-never c = λ e more. field_without_gap c.args.bytes.now c.in-Ok.rest.now more c.in-Ok.ensures c.if-rest-bytes.true

pub returns-then-value-clause-never : goal.returns-then-value-clause-never
returns-then-value-clause-never c = λ e more.
    let value = ap (λ (p : ℕ × List ℕ). p.0) c.digits-value.ensures.value in
    field_past c.args.bytes.now c.in-Ok.rest.now more c.in-Ok.ensures c.if-rest-bytes.false (let big = c.if-value.true in omega (arith, value, big))

pub returns-then-value-eq0-clause-never : goal.returns-then-value-eq0-clause-never
returns-then-value-eq0-clause-never c = λ e more.
    let rest = c.digits-value.result.1.now in
    let other = eqb-false (length rest) 0 (sym c.is_empty.ensures ∙ c.if-is_empty.false) in
    field_zero c.args.bytes.now c.in-Ok.rest.now more rest c.digits-value.result.0 c.in-Ok.ensures c.if-rest-bytes.false c.digits-value.ensures.value c.if-value-eq0.true other

pub returns-clause-ok : goal.returns-clause-ok
returns-clause-ok c =
    let rest = c.digits-value.result.1.now in
    let v = c.digits-value.result.0 in
    let other = eqb-false (length rest) 0 (sym c.is_empty.ensures ∙ c.if-is_empty.false) in
    let not_zero = c.if-value-eq0.false in (
      field_is c.args.bytes.now c.in-Ok.rest.now rest v c.in-Ok.ensures c.if-rest-bytes.false (sym c.digits-value.ensures.value) (omega (arith, not_zero)) c.if-value.false,
      omega (arith, other),
    )

use Rattle.std.proofs.Common.{ℕ, List, [], Bor, sym, subst}
use Rattle.jk_beside.specs.Words.{IsQuotient}
use Rattle.jk_beside.proofs.Decimals.{decimal_whole, decimal_parts, is_pair}
use Rattle.jk_beside.proofs.words.decimal.Goals as goal

pub returns-in-Some-clause-some : goal.returns-in-Some-clause-some
returns-in-Some-clause-some c n d is above below =
    let pair : Bor (List ℕ) × Bor (List ℕ) = (c.in-Some.whole, c.in-Some.fraction) in
    let q = decimal_parts c.args.text.now n d pair c.split_once.result c.in-Some.is c.split_once.ensures.cases is in
    let whole = subst (λ t. IsQuotient t c.in-Some.fraction.now n d) (sym c.as_bytes.ensures.value) q in
    let parts = subst (λ t. IsQuotient c.as_bytes.result.now t n d) (sym c.as_bytes-in-Some.ensures.value) whole in
    is_pair c.as_bytes.result.now c.as_bytes-in-Some.result.now n d c.quotient.result c.quotient.ensures.value
    (c.quotient.ensures.some n d parts above below) parts

pub returns-in-None-clause-some : goal.returns-in-None-clause-some
returns-in-None-clause-some c n d is above below =
    let q = decimal_whole c.args.text.now n d c.split_once.result c.in-None.is c.split_once.ensures.cases is in
    let whole = subst (λ t. IsQuotient t [] n d) (sym c.as_bytes-in-None.ensures.value) q in
    is_pair c.as_bytes-in-None.result.now [] n d c.quotient-in-None.result c.quotient-in-None.ensures.value
    (c.quotient-in-None.ensures.some n d whole above below) whole

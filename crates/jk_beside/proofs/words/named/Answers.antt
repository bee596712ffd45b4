use Rattle.std.proofs.Common.{ℕ, List, Bor, sym, ◌∙◌}
use Rattle.jk_beside.proofs.Named.{if_none, not_split, split_says, not_decoded}
use Rattle.jk_beside.proofs.words.named.Goals as goal

pub returns-in_err-digits-clause-only : goal.returns-in_err-digits-clause-only
returns-in_err-digits-clause-only c =
    if_none c.from_residual.result (not_split c.args.text.now c.split_once.result c.in_err-digits.was c.split_once.ensures.cases)

pub returns-in_err-id-clause-only : goal.returns-in_err-id-clause-only
returns-in_err-id-clause-only c =
    let pair : Bor (List ℕ) × Bor (List ℕ) = (c.in_ok-digits.digits, c.in_ok-digits.file) in
    if_none c.from_residual-in_err-id.result (λ id file says.
    let cut = split_says c.args.text.now pair c.split_once.result c.in_ok-digits.was c.split_once.ensures.cases id file says in
    not_decoded pair.0.now c.from_hex.result c.args.text.now id file says cut.0 c.from_hex.ensures
    (sym c.ok.ensures.value ∙ c.in_err-id.was))

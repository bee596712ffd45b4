use Rattle.std.proofs.Common.{ℕ, List, Bor, ◌∷◌, ◌++◌, ap, sym, ◌∙◌, arith}
use Rattle.std.proofs.lemmas.Str.Pattern.{split_parts}
use Rattle.jk_commands.specs.Sums.{IsSumLine}
use Rattle.jk_commands.proofs.SumLaws.{ok_some}
use Rattle.jk_commands.proofs.SumLists.{if_none, not_split, split_says, not_decoded}
use Rattle.jk_commands.proofs.sums.line_of.Goals as goal

pub returns : goal.returns
returns c =
    let told = split_parts 32 c.args.line.now c.split_once.result c.split_once.ensures.cases (omega arith) in
    let parts = rw c.in_ok-digits.was at told in
    let behind = c.in_ok-name.ensures.found in
    let says : IsSumLine c.args.line.now c.in_ok-digest.digest c.in_ok-name.name.now = record {
      digits = c.in_ok-digits.digits.now;
      mark = behind.0;
      text = parts.0 ∙ ap (λ t. c.in_ok-digits.digits.now ++ 32 ∷ t) behind.1;
      bytes = sym c.from_hex.ensures ∙ ok_some c.from_hex.result c.in_ok-digest.digest (sym c.ok.ensures.value ∙ c.in_ok-digest.was);
      marked = behind.2;
    } in
    record { found = says; only = tt }

pub returns-in_err-digits-clause-only : goal.returns-in_err-digits-clause-only
returns-in_err-digits-clause-only c =
    if_none c.from_residual.result (not_split c.args.line.now c.split_once.result c.in_err-digits.was c.split_once.ensures.cases)

pub returns-in_err-name-clause-only : goal.returns-in_err-name-clause-only
returns-in_err-name-clause-only c =
    let pair : Bor (List ℕ) × Bor (List ℕ) = (c.in_ok-digits.digits, c.in_ok-digits.rest) in
    if_none c.from_residual-in_err-name.result (λ digest name says.
    let cut = split_says c.args.line.now pair c.split_once.result c.in_ok-digits.was c.split_once.ensures.cases digest name says in
    c.in_err-name.ensures.only says.mark name cut.1 says.marked)

pub returns-in_err-digest-clause-only : goal.returns-in_err-digest-clause-only
returns-in_err-digest-clause-only c =
    let pair : Bor (List ℕ) × Bor (List ℕ) = (c.in_ok-digits.digits, c.in_ok-digits.rest) in
    if_none c.from_residual-in_err-digest.result (λ digest name says.
    let cut = split_says c.args.line.now pair c.split_once.result c.in_ok-digits.was c.split_once.ensures.cases digest name says in
    not_decoded pair.0.now c.from_hex.result c.args.line.now digest name says cut.0 c.from_hex.ensures
    (sym c.ok.ensures.value ∙ c.in_err-digest.was))

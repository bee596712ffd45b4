use Rattle.std.proofs.Common.{arith}
use Rattle.std.proofs.lemmas.Str.Pattern.{split_parts}
use Rattle.jk_commands.proofs.SumLaws.{one_line}
use Rattle.jk_commands.proofs.sums.first_line.Goals as goal

pub returns-in-Some-clause-line : goal.returns-in-Some-clause-line
returns-in-Some-clause-line c =
    let told = split_parts 10 c.args.text.now c.split_once.result c.split_once.ensures.cases (omega arith) in
    let parts = rw c.in-Some.is at told in
    one_line c.in-Some.line.now parts.1

pub returns-in-None-clause-line : goal.returns-in-None-clause-line
returns-in-None-clause-line c =
    let told = split_parts 10 c.args.text.now c.split_once.result c.split_once.ensures.cases (omega arith) in
    let parts = rw c.in-None.is at told in
    one_line c.args.text.now parts

use Rattle.std.proofs.Common.{arith}
use Rattle.std.proofs.lemmas.Str.Pattern.{strip_prefix_char}
use Rattle.jk_commands.proofs.SumLists.{no_mark}
use Rattle.jk_commands.proofs.sums.behind_mark.Goals as goal

pub returns-in-None-clause-only : goal.returns-in-None-clause-only
returns-in-None-clause-only c =
    let text = c.args.text.now in
    let first = c.strip_prefix.result in
    let second = c.strip_prefix-in-None.result in
    no_mark text first second c.in-None.is (strip_prefix_char 32 text first c.strip_prefix.ensures.cases (omega arith))
    (strip_prefix_char 42 text second c.strip_prefix-in-None.ensures.cases (omega arith))

use Rattle.std.proofs.Common.{arith}
use Rattle.jk_packet.proofs.Wordings.{pass_one, pass_two, pass_five, pass_more, pass_most}
use Rattle.jk_packet.proofs.wording.pass_word.Goals as goal

pub returns-then-passes-eq1-clause-word : goal.returns-then-passes-eq1-clause-word
returns-then-passes-eq1-clause-word c = pass_one c.args.passes c.if-passes-eq1.true

pub returns-then-passes-eq2-clause-word : goal.returns-then-passes-eq2-clause-word
returns-then-passes-eq2-clause-word c = pass_two c.args.passes c.if-passes-eq2.true

pub returns-then-passes-le5-clause-word : goal.returns-then-passes-le5-clause-word
returns-then-passes-le5-clause-word c =
    let one = c.if-passes-eq1.false in
    let two = c.if-passes-eq2.false in
    let some = c.requires.some in
    pass_five c.args.passes (omega (arith, one, two, some)) c.if-passes-le5.true

pub returns-then-passes-le36-clause-word : goal.returns-then-passes-le36-clause-word
returns-then-passes-le36-clause-word c = let more = c.if-passes-le5.false in pass_more c.args.passes (omega (arith, more)) c.if-passes-le36.true

pub returns-clause-word : goal.returns-clause-word
returns-clause-word c = let more = c.if-passes-le36.false in pass_most c.args.passes (omega (arith, more))

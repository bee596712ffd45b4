use Rattle.std.proofs.Common.{◌<◌, ◌^◌, length, arith}
use Rattle.std.proofs.lemmas.List.{length-set, get_or-set_same}
use Rattle.jk_lift.proofs.Places.{read_is, entry_below}
use Rattle.jk_lift.proofs.Synthesis.{SynthesisesLine-one_even, SynthesisesLine-one_odd, halved_is}
use Rattle.jk_lift.proofs.line.synthesise_line.Goals as goal

pub returns-then-start-eq0 : goal.returns-then-start-eq0
returns-then-start-eq0 c =
    let room : 0 < length c.args.line.now = omega arith in
    SynthesisesLine-one_even c.args.start c.args.low.now c.args.high.now _ (rw length-set c.if-line-eq1.true) (omega arith)
    (rw get_or-set_same (read_is c.args.low.now c.requires.small_low 0))

pub returns-else-start-eq0 : goal.returns-else-start-eq0
returns-else-start-eq0 c =
    let room : 0 < length c.args.line.now = omega arith in
    SynthesisesLine-one_odd c.args.start c.args.low.now c.args.high.now _ (rw length-set c.if-line-eq1.true) (omega arith)
    (rw get_or-set_same (halved_is _ (entry_below (2 ^ 29) c.args.high.now (omega arith) c.requires.small_high 0)))

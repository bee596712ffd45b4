use Rattle.std.proofs.Common.{◌<◌, ◌∙◌, length, pos, get_or, arith, lit<}
use Rattle.jk_c.proofs.Passing.{passed_on}
use Rattle.jk_c.proofs.Spreading.{spread_more}
use Rattle.jk_c.proofs.samples.put_words.Goals as goal

pub loop-i-preserved : goal.loop-i-preserved
loop-i-preserved c =
    let i = c.loop-i.i in
    let l : i < length c.args.samples.now = omega arith in
    let value = passed_on 65535 (get_or c.args.samples.now i (pos 0)) (c.requires.small i (pos 0) l) (lit< tt) in
    spread_more pos 0 i c.args.components c.args.component c.word.result c.args.samples.now c.args.pixels.now c.loop-i.pixels l c.requires.component c.requires.room (c.word.ensures ∙ value) c.loop-i.invariant

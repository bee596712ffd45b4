use Rattle.std.proofs.Common.{◌+◌, ◌*◌, refl, arith}
use Rattle.jk_block.proofs.encoding.Slicing.{slice_room, ones_at}
use Rattle.jk_block.proofs.encoding.slices.ones.Goals as goal

pub bounds-slices-first : goal.bounds-slices-first
bounds-slices-first c = let e = slice_room c.args.shape c.args.spot.word c.args.spot.stripe 0 c.words_across-across.result c.words_across-across.ensures c.requires.spot.word c.requires.spot.stripe (omega arith) in omega (arith, e)

pub bounds-slices-first-2 : goal.bounds-slices-first-2
bounds-slices-first-2 c = let e = slice_room c.args.shape c.args.spot.word c.args.spot.stripe 1 c.words_across-across.result c.words_across-across.ensures c.requires.spot.word c.requires.spot.stripe (omega arith) in omega (arith, e)

pub bounds-slices-first-3 : goal.bounds-slices-first-3
bounds-slices-first-3 c = let e = slice_room c.args.shape c.args.spot.word c.args.spot.stripe 2 c.words_across-across.result c.words_across-across.ensures c.requires.spot.word c.requires.spot.stripe (omega arith) in omega (arith, e)

pub bounds-slices-first-4 : goal.bounds-slices-first-4
bounds-slices-first-4 c = let e = slice_room c.args.shape c.args.spot.word c.args.spot.stripe 3 c.words_across-across.result c.words_across-across.ensures c.requires.spot.word c.requires.spot.stripe (omega arith) in omega (arith, e)

pub returns : goal.returns
returns c = λ shift q sliced.
    let at = c.args.spot in
    let a = c.words_across-across.result in
    ones_at c.args.shape c.args.slices.now at.word at.stripe c.args.bit shift q c.plane_of.result c.plane_of-2.result c.plane_of-3.result c.plane_of-4.result a (4 * at.stripe * a + at.word)
    c.words_across-across.ensures refl c.requires.spot.word c.requires.spot.stripe c.requires.bit c.plane_of.ensures c.plane_of-2.ensures c.plane_of-3.ensures c.plane_of-4.ensures sliced

use Rattle.std.proofs.Common.{◌+◌, subst, sym, get_or, arith}
use Rattle.jk_scan.specs.Words.{of_rows, bordered, Shows}
use Rattle.jk_scan.proofs.Stripes.{shown_nothing, shown_as_is}
use Rattle.jk_scan.proofs.flags.seen_below.Goals as goal

pub returns-then-shape : goal.returns-then-shape
returns-then-shape c f h = shown_nothing c.args.shape c.args.stripe f c.args.word c.if-shape.true

pub returns-else-shape : goal.returns-else-shape
returns-else-shape c f h =
    let j = c.args.word in
    let i = c.args.stripe in
    shown_as_is c.args.shape i f j (i + 2) (get_or c.args.words.now c.word_place.result 0) c.if-shape.false
    (subst (λ n. Shows of_rows (bordered f) j (i + 2) (get_or c.args.words.now n 0)) (sym c.word_place.ensures.place) (h j (i + 2) c.requires.word (omega arith)))

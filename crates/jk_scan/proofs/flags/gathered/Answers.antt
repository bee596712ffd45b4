use Rattle.std.proofs.Common.{◌+◌, subst, sym, get_or, arith}
use Rattle.jk_scan.specs.Neighbours.{seen_from}
use Rattle.jk_scan.specs.Words.{of_rows, bordered, Shows}
use Rattle.jk_scan.proofs.Stripes.{shown_seen}
use Rattle.jk_scan.proofs.flags.gathered.Goals as goal

pub returns : goal.returns
returns c f h =
    let j = c.args.word in
    let i = c.args.stripe in
    let s = c.args.shape in
    c.gather.ensures (bordered (seen_from s i f)) j i
    (shown_seen s i f j (i + 1) (get_or c.args.words.now c.word_place.result 0) (omega arith)
    (subst (λ n. Shows of_rows (bordered f) j (i + 1) (get_or c.args.words.now n 0)) (sym c.word_place.ensures.place) (h j (i + 1) c.requires.word (omega arith))))
    (shown_seen s i f j i (get_or c.args.words.now c.word_place-2.result 0) (omega arith)
    (subst (λ n. Shows of_rows (bordered f) j i (get_or c.args.words.now n 0)) (sym c.word_place-2.ensures.place) (h j i c.requires.word (omega arith))))
    (c.seen_below.ensures f h)

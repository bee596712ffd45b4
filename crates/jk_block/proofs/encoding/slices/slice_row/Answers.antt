use Rattle.std.proofs.Common.{◌≡◌, ◌∙◌, ◌+◌, ◌*◌, set, ap, subst, sym, refl, arith}
use Rattle.std.proofs.lemmas.List.{length-set}
use Rattle.jk_scan.specs.Flags.{across}
use Rattle.jk_block.specs.Meaning.{value_in}
use Rattle.jk_block.specs.encoding.Slices.{IsSlicedTo}
use Rattle.jk_block.proofs.encoding.Slicing.{slice_shows, row_room, sliced_more}
use Rattle.jk_block.proofs.encoding.slices.slice_row.Goals as goal

pub loop-word-preserved : goal.loop-word-preserved
loop-word-preserved c =
    let s = c.args.shape in
    let vs = c.args.values.now in
    let l = c.loop-word in
    let a = c.words_across-across.result in
    let e = c.words_across-across.ensures in
    let y = c.args.row in
    let p = y * a + l.word in
    let same : p ≡ y * across s + l.word = ap (λ a. y * a + l.word) e in
    let room = row_room s l.word y a e (omega arith) c.requires.row in (
      subst (λ n. IsSlicedTo s c.args.shift (value_in s vs) n (set l.slices p c.slice.result)) (let g : p + 1 ≡ y * across s + (l.word + 1) = omega (arith, same) in g)
          (sliced_more s c.args.shift (value_in s vs) l.slices l.word y p c.slice.result (omega arith) c.requires.row same (let n = l.invariant.1 in omega (arith, room, n))
          (slice_shows s vs l.word y c.args.shift c.min-count.result (y * s.width + 8 * l.word) c.slice.result c.requires.row (omega arith) (omega arith) refl c.slice.ensures)
          (subst (λ n. IsSlicedTo s c.args.shift (value_in s vs) n l.slices) (sym same) l.invariant.0)),
      length-set l.slices p c.slice.result ∙ l.invariant.1,
    )

pub bounds-slices-row : goal.bounds-slices-row
bounds-slices-row c = let room = row_room c.args.shape c.loop-word.word c.args.row c.words_across-across.result c.words_across-across.ensures (omega arith) c.requires.row in omega (arith, room)

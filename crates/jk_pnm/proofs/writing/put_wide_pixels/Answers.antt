use Rattle.std.proofs.Common.{◌∷◌, [], ◌++◌, ◌∙◌, ℕ, List, ℤ, ap, pos, get_or, arith}
use Rattle.jk_pnm.specs.Written.{sample_text}
use Rattle.jk_pnm.proofs.RasterLaws.{passed_on, written_more, three_samples}
use Rattle.jk_pnm.proofs.writing.put_wide_pixels.Goals as goal

pub loop-pixel-preserved : goal.loop-pixel-preserved
loop-pixel-preserved c =
    let i = c.loop-pixel.pixel in
    let m = c.args.maxval in
    let red = c.args.red.now in
    let green = c.args.green.now in
    let blue = c.args.blue.now in
    let a = sample_text m (get_or red i (pos 0)) in
    let b = sample_text m (get_or green i (pos 0)) in
    let d = sample_text m (get_or blue i (pos 0)) in
    let start = c.loop-pixel.out.items in
    let row = c.loop-pixel-test.true in
    let first = passed_on m (get_or red i (pos 0)) (c.requires.red i (pos 0) row) c.requires.maxval in
    let second = passed_on m (get_or green i (pos 0)) (c.requires.green i (pos 0) (omega (arith, row, c.requires.greens))) c.requires.maxval in
    let third = passed_on m (get_or blue i (pos 0)) (c.requires.blue i (pos 0) (omega (arith, row, c.requires.blues))) c.requires.maxval in
    let more =
    c.put_wide-in-loop-pixel-2.ensures.items
    ∙ ap (λ (z : ℤ). c.put_wide-in-loop-pixel.new.out.items ++ sample_text m z) third
    ∙ ap (λ (ys : List ℕ). ys ++ d) (c.put_wide-in-loop-pixel.ensures.items ∙ ap (λ (z : ℤ). c.put_wide.new.out.items ++ sample_text m z) second)
    ∙ ap (λ (ys : List ℕ). (ys ++ b) ++ d) (c.put_wide.ensures.items ∙ ap (λ (z : ℤ). start ++ sample_text m z) first)
    ∙ three_samples start a b d in
    record {
      items = written_more m (red ∷ green ∷ blue ∷ []) i c.put_wide-in-loop-pixel-2.new.out.items c.args.out.items start c.loop-pixel.invariant.items more;
      room =
          let l1 = c.put_wide.ensures.len in
          let l2 = c.put_wide-in-loop-pixel.ensures.len in
          let l3 = c.put_wide-in-loop-pixel-2.ensures.len in
          let k1 = c.put_wide.ensures.capacity in
          let k2 = c.put_wide-in-loop-pixel.ensures.capacity in
          let k3 = c.put_wide-in-loop-pixel-2.ensures.capacity in
          let r = c.loop-pixel.invariant.room in
          omega (arith, l1, l2, l3, k1, k2, k3, r, row);
    }

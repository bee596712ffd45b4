use Rattle.std.proofs.Common.{◌∷◌, [], ◌++◌, ◌∙◌, ◌<◌, ◌^◌, ℕ, List, ap, pos, get_or, arith}
use Rattle.jk_pnm.specs.Written.{sample_text}
use Rattle.jk_pnm.proofs.RasterLaws.{passed_on, written_more, three_samples}
use Rattle.jk_pnm.proofs.writing.put_pixels.Goals as goal

pub loop-pixel-preserved : goal.loop-pixel-preserved
loop-pixel-preserved c =
    let i = c.loop-pixel.pixel in
    let m = c.args.maxval in
    let red = c.args.red.now in
    let green = c.args.green.now in
    let blue = c.args.blue.now in
    let a = sample_text m (get_or red i (pos 0)) in
    let b = sample_text m (get_or green i (pos 0)) in
    let d = sample_text m (get_or blue i (pos 0)) in
    let start = c.loop-pixel.out.items in
    let row = c.loop-pixel-test.true in
    let few : m < 2 ^ 16 = omega (arith, c.requires.maxval) in
    let first = c.byte_of.ensures ∙ ap (sample_text m) (passed_on m (get_or red i (pos 0)) (c.requires.red i (pos 0) row) few) in
    let second = c.byte_of-in-loop-pixel.ensures ∙ ap (sample_text m) (passed_on m (get_or green i (pos 0)) (c.requires.green i (pos 0) (omega (arith, row, c.requires.greens))) few) in
    let third = c.byte_of-in-loop-pixel-2.ensures ∙ ap (sample_text m) (passed_on m (get_or blue i (pos 0)) (c.requires.blue i (pos 0) (omega (arith, row, c.requires.blues))) few) in
    let one = c.push_reserved.ensures.items ∙ ap (λ (ys : List ℕ). start ++ ys) first in
    let two = c.push_reserved-in-loop-pixel.ensures.items ∙ ap (λ (ys : List ℕ). c.push_reserved.new.self.items ++ ys) second ∙ ap (λ (ys : List ℕ). ys ++ b) one in
    let more = c.push_reserved-in-loop-pixel-2.ensures.items ∙ ap (λ (ys : List ℕ). c.push_reserved-in-loop-pixel.new.self.items ++ ys) third ∙ ap (λ (ys : List ℕ). ys ++ d) two ∙ three_samples start a b d in
    record {
      items = written_more m (red ∷ green ∷ blue ∷ []) i c.push_reserved-in-loop-pixel-2.new.self.items c.args.out.items start c.loop-pixel.invariant.items more;
      room =
          let l1 = c.push_reserved.ensures.len in
          let l2 = c.push_reserved-in-loop-pixel.ensures.len in
          let l3 = c.push_reserved-in-loop-pixel-2.ensures.len in
          let k1 = c.push_reserved.ensures.capacity in
          let k2 = c.push_reserved-in-loop-pixel.ensures.capacity in
          let k3 = c.push_reserved-in-loop-pixel-2.ensures.capacity in
          let r = c.loop-pixel.invariant.room in
          omega (arith, l1, l2, l3, k1, k2, k3, r, row);
    }

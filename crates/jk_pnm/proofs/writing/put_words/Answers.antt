use Rattle.std.proofs.Common.{◌∷◌, [], ◌∙◌, ◌++◌, ℤ, ap, pos, get_or, arith}
use Rattle.jk_pnm.specs.Written.{sample_text}
use Rattle.jk_pnm.proofs.RasterLaws.{passed_on, written_more, one_sample}
use Rattle.jk_pnm.proofs.writing.put_words.Goals as goal

pub loop-sample-preserved : goal.loop-sample-preserved
loop-sample-preserved c =
    let i = c.loop-sample.sample-index in
    let m = c.args.maxval in
    let s = c.args.samples.now in
    let out = c.loop-sample.out.items in
    let value = passed_on m (get_or s i (pos 0)) (c.requires.samples i (pos 0) c.loop-sample-test.true) c.requires.maxval in
    let more = c.put_wide.ensures.items ∙ ap (λ (z : ℤ). out ++ sample_text m z) value ∙ one_sample out (sample_text m (get_or s i (pos 0))) in
    record {
      items = written_more m (s ∷ []) i c.put_wide.new.out.items c.args.out.items out c.loop-sample.invariant.items more;
      room = let a = c.put_wide.ensures.len in let b = c.put_wide.ensures.capacity in let r = c.loop-sample.invariant.room in omega (arith, a, b, r, c.loop-sample-test.true);
    }

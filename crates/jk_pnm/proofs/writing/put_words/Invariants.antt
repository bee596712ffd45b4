use Rattle.std.proofs.Common.{◌≡◌, ◌+◌, ◌-◌, ◌*◌, ◌≤◌, ◌++◌, ◌∷◌, [], length}
use Rattle.std.specs.Vec.{vec_len, vec_capacity}
use Rattle.jk_pnm.specs.Written.{raster_text}
use Rattle.jk_pnm.proofs.writing.put_words.Given as goal

abbrev pub invariant-loop-sample : goal.invariant-loop-sample
invariant-loop-sample l = record {
  items : l.out.items ≡ l.fn.out.items ++ raster_text l.maxval (l.samples ∷ []) l.sample-index;
  room : vec_len l.out + 2 * (length l.samples - l.sample-index) ≤ vec_capacity l.out;
}

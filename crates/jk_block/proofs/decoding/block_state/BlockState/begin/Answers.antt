use Rattle.std.proofs.Common.{false, refl}
use Rattle.jk_block.specs.Fields.{flagged, magnitude_of}
use Rattle.jk_block.proofs.Drawing.{progress_same}
use Rattle.jk_block.proofs.WordDrawing.{flagged_dark}
use Rattle.jk_block.proofs.decoding.block_state.BlockState.begin.Goals as goal

pub returns-clause-begun : goal.returns-clause-begun
returns-clause-begun c = λ coder.
    let k = c.args.self.now in
    let s = k.shape in
    progress_same (magnitude_of s k.planes k.bits.items) (magnitude_of s k.planes k.bits.items) (flagged s k.negative.now) (flagged s k.negative.now) (flagged s c.unmark.new.words) (λ _ _. false) coder
    refl refl (flagged_dark s c.unmark.new.words c.unmark.ensures.unmarked)

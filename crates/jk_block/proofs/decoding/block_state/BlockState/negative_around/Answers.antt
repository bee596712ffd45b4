use Rattle.jk_block.specs.decoding.BlockStates.{draft_of}
use Rattle.jk_block.proofs.decoding.block_state.BlockState.negative_around.Goals as goal

pub returns : goal.returns
returns c =
    let k = c.args.self.now in
    c.seen_among.ensures (draft_of k).negative k.signs

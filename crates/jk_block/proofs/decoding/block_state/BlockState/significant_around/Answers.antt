use Rattle.jk_block.specs.decoding.BlockStates.{draft_of, significant_in}
use Rattle.jk_block.proofs.decoding.block_state.BlockState.significant_around.Goals as goal

pub returns : goal.returns
returns c =
    let k = c.args.self.now in
    c.seen_among.ensures (significant_in (draft_of k)) k.known_significant

use Rattle.std.proofs.Common.{sym, ap, ◌∙◌}
use Rattle.jk_block.specs.declared.word_place.Pass.{Pass}
use Rattle.jk_block.specs.Reading.{begun}
use Rattle.jk_block.specs.Steps.{number_of}
use Rattle.jk_block.specs.decoding.BlockStates.{draft_of, progress}
use Rattle.jk_block.proofs.decoding.begin.Goals as goal

pub returns-in-Propagation-clause-begun : goal.returns-in-Propagation-clause-begun
returns-in-Propagation-clause-begun c = λ coder. c.begin.ensures.begun coder ∙ ap (λ (pass : Pass). begun (number_of pass) (progress (draft_of c.args.block_state.now) coder)) (sym c.in-Propagation.is)

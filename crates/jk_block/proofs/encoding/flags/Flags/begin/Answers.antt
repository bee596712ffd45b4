use Rattle.jk_block.proofs.WordDrawing.{drawn_dark}
use Rattle.jk_block.proofs.encoding.flags.Flags.begin.Goals as goal

pub returns-clause-visited : goal.returns-clause-visited
returns-clause-visited c = λ f dark. drawn_dark c.args.shape f c.unmark.new.words c.unmark.ensures.unmarked dark

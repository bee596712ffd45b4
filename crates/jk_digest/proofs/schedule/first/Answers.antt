-- One word of each block.
use Rattle.jk_digest.proofs.Storing.{first_words_of}
use Rattle.jk_digest.proofs.schedule.first.Goals as goal

pub returns-clause-each : goal.returns-clause-each
returns-clause-each c k side = first_words_of c.args.a.now c.args.b.now c.args.c.now c.args.d.now c.args.t _ _ _ _ c.requires.few c.word.ensures c.word-2.ensures c.word-3.ensures c.word-4.ensures k side

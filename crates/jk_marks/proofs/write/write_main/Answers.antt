use Rattle.jk_marks.proofs.Appending.{on_ok_always}
use Rattle.jk_marks.proofs.WrittenMeans.{main_written, main_says}
use Rattle.jk_marks.proofs.write.write_main.Goals as goal

pub returns-clause-means : goal.returns-clause-means
returns-clause-means c = on_ok_always c.put_main.result (main_written c.args.main.now c.requires, main_says c.args.main.now c.requires)

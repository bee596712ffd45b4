use Rattle.std.specs.String.{string_bytes}
use Rattle.std.proofs.Common.{Ok, Err}
use Rattle.jk_math.specs.Steps.{answers_same}
use Rattle.jk_commands.specs.AllLines.{lines_of, all_at}
use Rattle.jk_commands.proofs.AllLaws.{all_again, all_fails, all_begins}
use Rattle.jk_commands.proofs.telling_all.info_all_file.Goals as goal

pub returns-clause-means : goal.returns-clause-means
returns-clause-means c = λ i is.
    answers_same (λ s. string_bytes s) c.told.result (all_at c.args.bytes.now) (Ok (lines_of is)) c.told.ensures (all_again c.args.bytes.now i is)

pub returns-clause-refused : goal.returns-clause-refused
returns-clause-refused c = λ e is.
    answers_same (λ s. string_bytes s) c.told.result (all_at c.args.bytes.now) (Err e) c.told.ensures (all_fails c.args.bytes.now e is)

pub returns-clause-first : goal.returns-clause-first
returns-clause-first c = λ text is. all_begins c.args.bytes.now text is
